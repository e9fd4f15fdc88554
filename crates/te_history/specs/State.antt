-- The state after a list of entries: where each caller stands, and the board. This project's own.
use Rattle.std.specs.Prelude.{ℕ, suc, Bool, true, false, ◌==◌, List, [], ◌∷◌, slice_set, replicate, if◌then◌else◌}
use Rattle.te_terms.specs.declared.event.Outcome.{Outcome}
use Rattle.te_terms.specs.declared.event.Parked.{Parked}
use Rattle.te_terms.specs.Terms.{Term}
use Rattle.te_cert.specs.declared.cert.Member.{Member}
use Rattle.te_history.specs.declared.entry.Entry.{Entry}
use Rattle.te_history.specs.declared.entry.Entry.TheVariants as entries

pub data Standing : Type 0 where
  idle : Standing
  parked : ℕ → Term → Standing
  given : ℕ → Outcome → Standing
  ended : Standing

-- where each caller stands, by number, and whether the board is stuck or resting
pub record State : Type 0 where
  pub callers : List Standing
  pub stuck : Bool
  pub resting : Bool

-- every caller is idle, and the board is running and not resting
abbrev pub opening : ℕ → State
opening callers = record { callers = replicate callers idle; stuck = false; resting = false }

abbrev pub with_standing : ℕ → Standing → State → State
with_standing by standing s = record s { callers = slice_set s.callers by standing }

-- each member is given its outcome
abbrev pub with_given : List Member → List Outcome → State → State
with_given [] os s = s
with_given (m ∷ ms) [] s = s
with_given (m ∷ ms) (o ∷ os) s = with_given ms os (with_standing m.thread (given m.ticket o) s)

-- what an entry changes
abbrev pub changed : State → Entry → State
changed s (entries.Post by ticket event) = with_standing by (parked ticket event) s
changed s (entries.Commit by cert outcomes) = with_given cert.members outcomes s
changed s (entries.Withdraw by ticket) = with_standing by idle s
changed s (entries.Take by ticket outcome) = with_standing by idle s
changed s (entries.Rest by) = record s { resting = true }
changed s (entries.Stuck by) = record s { stuck = true }
changed s (entries.End by how) = with_standing by ended s

abbrev pub state_from : State → List Entry → State
state_from s [] = s
state_from s (e ∷ es) = state_from (changed s e) es

-- the state after a history of so many callers
abbrev pub state : ℕ → List Entry → State
state callers history = state_from (opening callers) history

abbrev pub parked_by : ℕ → Standing → List Parked → List Parked
parked_by t (parked ticket event) rest = record { thread = t; ticket = ticket; event = event } ∷ rest
parked_by t _ rest = rest

abbrev pub parked_from : ℕ → List Standing → List Parked
parked_from t [] = []
parked_from t (c ∷ cs) = parked_by t c (parked_from (suc t) cs)

-- the parked callers with ticket and event, threads rising
abbrev pub parked_list : State → List Parked
parked_list s = parked_from 0 s.callers

-- how often a caller has posted
abbrev pub is_post_by : ℕ → Entry → Bool
is_post_by t (entries.Post by ticket event) = by == t
is_post_by t _ = false

abbrev pub posts_by : ℕ → List Entry → ℕ
posts_by t [] = 0
posts_by t (e ∷ es) = if is_post_by t e then suc (posts_by t es) else posts_by t es
