-- What the commits of a history give a caller under a ticket. This project's own.
use Rattle.std.specs.Prelude.{ℕ, Bool, true, false, ◌==◌, ◌&&◌, List, [], ◌∷◌, ◌++◌, Option, Some, None}
use Rattle.te_terms.specs.declared.event.Outcome.{Outcome}
use Rattle.te_cert.specs.declared.cert.Member.{Member}
use Rattle.te_history.specs.declared.entry.Entry.{Entry}
use Rattle.te_history.specs.declared.entry.Entry.TheVariants as entries

-- the member is this caller's, under this ticket
abbrev pub names : ℕ → ℕ → Member → Bool
names t ticket m = (m.thread == t) && (m.ticket == ticket)

abbrev pub item_if : Bool → Option Outcome → List (Option Outcome) → List (Option Outcome)
item_if true o os = o ∷ os
item_if false o os = os

-- of each member with these names its outcome, in order; none where the outcomes end before it
abbrev pub given_among : ℕ → ℕ → List Member → List Outcome → List (Option Outcome)
given_among t ticket [] os = []
given_among t ticket (m ∷ ms) [] = item_if (names t ticket m) None (given_among t ticket ms [])
given_among t ticket (m ∷ ms) (o ∷ os) = item_if (names t ticket m) (Some o) (given_among t ticket ms os)

abbrev pub givings_of : ℕ → ℕ → Entry → List (Option Outcome)
givings_of t ticket (entries.Commit by cert outcomes) = given_among t ticket cert.members outcomes
givings_of t ticket _ = []

-- one item for each member of a commit that names the caller and the ticket, in order: what it is given there
abbrev pub givings : ℕ → ℕ → List Entry → List (Option Outcome)
givings t ticket [] = []
givings t ticket (e ∷ es) = givings_of t ticket e ++ givings t ticket es
