-- Final paths, and the partial groups of a search. These are this project's own.
use Rattle.std.specs.Prelude.{◌≡◌, ◌⊎◌, List, [], ◌∷◌, Some}
use Rattle.std.specs.List.{AllByRecursion}
use Rattle.te_terms.specs.declared.event.Outcome.{Outcome}
use Rattle.te_terms.specs.Steps.{Member, outcome_of}
use Rattle.te_trail.specs.Paths.{Path, parent_of, move_of}
use Rattle.te_trail.specs.Clocks.{Agree}
use Rattle.te_trail.specs.States.{path_state}
use Rattle.te_trail.specs.Stores.{Holds, any_rests_on}

-- the member at which the path stands is final
pub record IsFinal (g : List Member) (x : Path) : Type 0 where
  pub member : Member
  pub outcome : Outcome
  pub state : path_state g x ≡ Some member
  pub ends : outcome_of member.term ≡ Some outcome

-- ---- partial groups

-- a final path from which assembly starts, and final paths whose pasts are joined
pub record Partial : Type 0 where
  pub start : Path
  pub members : List Path

-- final paths of the store, the start among them, that agree with each other
pub record IsPartial (g : List Member) (paths : List Path) (p : Partial) : Type 0 where
  pub starts : Holds p.members p.start
  pub made : (x : Path) → Holds p.members x → Holds paths x
  pub finals : (x : Path) → Holds p.members x → IsFinal g x
  pub agree : (x y : Path) → Holds p.members x → Holds p.members y → (x ≡ y) ⊎ Agree x y

-- one start, and one joined past: the members of the one rest on a choice or a meeting where those of the other do
pub record AreOne (p q : Partial) : Type 0 where
  pub start : p.start ≡ q.start
  pub past : (x y : Path) → parent_of x ≡ Some y → any_rests_on p.members (move_of x) ≡ any_rests_on q.members (move_of x)

-- none of them is another
abbrev pub NoneIsAnother : List Partial → Type 0
NoneIsAnother [] = Unit {0}
NoneIsAnother (p ∷ ps) = AllByRecursion (λ q. ¬ AreOne p q) ps × NoneIsAnother ps

-- partial groups of the store, none twice
pub record AreTried (g : List Member) (paths : List Path) (tried : List Partial) : Type 0 where
  pub partial : AllByRecursion (IsPartial g paths) tried
  pub once : NoneIsAnother tried
