-- How many paths and partial groups a list of parked events can have, by their names. This project's own.
use Rattle.std.specs.Prelude.{◌≢◌, ℕ, suc, ◌+◌, ◌*◌, ◌^◌, List, [], ◌∷◌, length}
use Rattle.std.specs.List.{AllByRecursion}
use Rattle.te_terms.specs.Terms.{Term}
use Rattle.te_terms.specs.Measures.{choice_count, send_count, receive_count}
use Rattle.te_terms.specs.Steps.{Member}
use Rattle.te_trail.specs.Views.{Name}

-- no name comes twice
abbrev pub NoNameTwice : List Name → Type 0
NoNameTwice [] = Unit {0}
NoNameTwice (n ∷ ns) = AllByRecursion (λ m. n ≢ m) ns × NoNameTwice ns

-- the nodes of all members together, by one count of a term's nodes
abbrev pub over_all : (Term → ℕ) → List Member → ℕ
over_all count [] = 0
over_all count (m ∷ ms) = count m.term + over_all count ms

-- each choose node is left out, goes left or goes right, and each send node is left out or met by one of the receive nodes
abbrev pub views_most : List Member → ℕ
views_most g = 3 ^ over_all choice_count g * (over_all receive_count g + 1) ^ over_all send_count g

-- the most path names; there are no more group names
abbrev pub paths_most : List Member → ℕ
paths_most g = length g * views_most g

-- a budget for which the list has a path or a partial group too few
abbrev pub enough_for : List Member → ℕ
enough_for g = 2 * paths_most g
