-- A search between two steps. No public clause cites this module.
use Rattle.std.specs.Prelude.{◌≡◌, ◌⊎◌, ◌<◌, ℕ, List, [], ◌∷◌, ◌++◌, map, Bool, true, Some, get_or, slice_get}
use Rattle.te_terms.specs.Steps.{Member}
use Rattle.te_trail.specs.Paths.{Path, planted, branched, sent, got, thread_of, parent_of, move_of}
use Rattle.te_trail.specs.Clocks.{Agree}
use Rattle.te_trail.specs.States.{chosen, MovedEnds, members_met, path_state}
use Rattle.te_trail.specs.Stores.{Holds, IsStore, any_rests_on}
use Rattle.te_search.specs.Groups.{IsFinal}
use Rattle.te_trail.specs.Records.{path_at}

-- ---- lists of paths

-- the paths of these numbers
abbrev pub paths_by : List Path → List ℕ → List Path
paths_by paths ns = map (path_at paths) ns

abbrev pub AreNumbersOf : List Path → List ℕ → Type 0
AreNumbersOf paths ns = (i n : ℕ) → slice_get ns i ≡ Some n → (x : Path) × (slice_get paths n ≡ Some x)

-- no path comes twice
abbrev pub NoPathTwice : List Path → Type 0
NoPathTwice [] = Unit {0}
NoPathTwice (x ∷ xs) = (¬ Holds xs x) × NoPathTwice xs

-- the path before the last move of each stands earlier
abbrev pub AreUp : List Path → Type 0
AreUp paths = (k : ℕ) (x y : Path) → slice_get paths k ≡ Some x → parent_of x ≡ Some y → (r : ℕ) × (r < k) × (slice_get paths r ≡ Some y)

-- ---- assembly

-- from these final paths no way leads to a group: a thread of their joined past has none of them, and with each available final path of it that agrees with them no way does either
pub data Fails (available : Path → Type 0) : List Path → Type 0 where
  wanting : (ps : List Path) (t : ℕ) (x : Path) → thread_of x ≡ t → any_rests_on ps (move_of x) ≡ true → ((y : Path) → Holds ps y → thread_of y ≡ t → ⊥)
      → ((f : Path) → available f → thread_of f ≡ t → ((y : Path) → Holds ps y → Agree f y) → Fails available (f ∷ ps)) → Fails available ps

-- each final path is final over those that were looked at by then
abbrev pub AllFail : List Member → List Path → Type 0
AllFail g finals = (front : List Path) (start : Path) (rest : List Path) → finals ≡ front ++ (start ∷ rest) → Fails (λ f. IsFinal g f × Holds (front ++ (start ∷ [])) f) (start ∷ [])

-- ---- a search

-- the path stands at a send or a receive
pub record MayMeet (g : List Member) (p : Path) : Type 0 where
  pub own : Member
  pub other : Member
  pub ends : MovedEnds
  pub state : path_state g p ≡ Some own
  pub meets : (members_met own other ≡ Some ends) ⊎ (members_met other own ≡ Some ends)

-- paths made, of which the pending ones are still to be worked on; waiting ends; and final paths in the order of assembling
pub record IsSearch (g : List Member) (paths pending waits finals : List Path) : Type 0 where
  pub store : IsStore g paths
  pub ups : AreUp paths
  pub choices : (p : Path) (l : Bool) (m u : Member) → Holds paths p → (¬ Holds pending p) → path_state g p ≡ Some m → chosen l m ≡ Some u → Holds paths (branched p l)
  pub waiting : (p : Path) → Holds paths p → (¬ Holds pending p) → MayMeet g p → Holds waits p
  pub meetings : (p q : Path) (a b : Member) (e : MovedEnds) → Holds waits p → Holds waits q → Agree p q → path_state g p ≡ Some a → path_state g q ≡ Some b → members_met a b ≡ Some e
      → Holds paths (sent p q) × Holds paths (got p q)
  pub final : (p : Path) → Holds paths p → (¬ Holds pending p) → IsFinal g p → Holds finals p
  pub failed : AllFail g finals
  pub branched_from : (p : Path) (l : Bool) → Holds paths (branched p l) → ¬ Holds pending p
  pub met_from : (p q : Path) → Holds paths (sent p q) → Holds waits p × Holds waits q
  pub pending_made : (p : Path) → Holds pending p → Holds paths p
  pub waits_made : (p : Path) → Holds waits p → Holds paths p
  pub finals_made : (p : Path) → Holds finals p → Holds paths p
  pub finals_final : (p : Path) → Holds finals p → IsFinal g p
  pub pending_apart : (p : Path) → Holds pending p → (¬ Holds waits p) × (¬ Holds finals p)
  pub pending_once : NoPathTwice pending
  pub waits_once : NoPathTwice waits
  pub finals_once : NoPathTwice finals
