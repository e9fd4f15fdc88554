-- The reserved room of a history: how many entries its callers may still need. This project's own.
use Rattle.std.specs.Prelude.{ℕ, ◌+◌, Bool, true, false, List, [], ◌∷◌, length}
use Rattle.te_history.specs.declared.entry.Entry.{Entry}
use Rattle.te_history.specs.declared.entry.Entry.TheVariants as entries
use Rattle.te_history.specs.declared.status.How.TheVariants as ways
use Rattle.te_history.specs.State.{Standing, idle, parked, given, ended, State}

-- one for its end while a caller hasn't ended, two more while it is parked, one more while it is given an outcome
abbrev pub room_of : Standing → ℕ
room_of idle = 1
room_of (parked ticket event) = 3
room_of (given ticket outcome) = 2
room_of ended = 0

abbrev pub callers_room : List Standing → ℕ
callers_room [] = 0
callers_room (c ∷ cs) = room_of c + callers_room cs

abbrev pub one_unless : Bool → ℕ
one_unless true = 0
one_unless false = 1

-- one more while the board is running, and one while it isn't resting
abbrev pub room : State → ℕ
room s = callers_room s.callers + one_unless s.stuck + one_unless s.resting

-- what an entry reserves beyond its own place, and what it gives back
abbrev pub claimed : Entry → ℕ
claimed (entries.Post by ticket event) = 2
claimed _ = 0

abbrev pub freed : Entry → ℕ
freed (entries.Post by ticket event) = 0
freed (entries.Commit by cert outcomes) = length cert.members
freed (entries.Withdraw by ticket) = 2
freed (entries.Take by ticket outcome) = 1
freed (entries.Rest by) = 1
freed (entries.Stuck by) = 1
freed (entries.End by ways.Stuck) = 3
freed (entries.End by how) = 1
