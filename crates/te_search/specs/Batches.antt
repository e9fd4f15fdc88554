-- A search that is taken in batches. Choices and meetings are those of Donnelly and Fluet, Transactional Events, JFP 18(5-6), 2008; paths and batches are this project's own.
use Rattle.std.specs.Prelude.{◌≡◌, ◌⊎◌, ◌↔◌, ◌≤◌, ◌<◌, ◌+◌, ℕ, suc, zero, List, [], ◌∷◌, ◌++◌, map, length, take, Bool}
use Rattle.std.specs.Prelude.{true, false, nat_eq, ◌||◌, Some, slice_get}
use Rattle.std.specs.List.{Contains}
use Rattle.std.specs.List.Sorted.{IsStrictlyIncreasing}
use Rattle.te_terms.specs.declared.event.Parked.{Parked}
use Rattle.te_terms.specs.Terms.{never}
use Rattle.te_terms.specs.Steps.{Member, head}
use Rattle.te_terms.specs.Joint.{Label, as_group, part}
use Rattle.te_trail.specs.Paths.{Path, planted, branched, thread_of}
use Rattle.te_trail.specs.States.{path_state}
use Rattle.te_trail.specs.Stores.{Holds}
use Rattle.te_trail.specs.Trails.{Trail, IsAtChoice}
use Rattle.te_trail.specs.Together.{ChainOfAll}
use Rattle.te_pair.specs.declared.end.End.{End}
use Rattle.te_pair.specs.Ends.{paths_kept, AreEnds, IsAtEnd, IsPartner}
use Rattle.te_search.specs.declared.batched.Look.{Look}
use Rattle.te_search.specs.declared.batched.Look.TheVariants as looks
use Rattle.te_search.specs.Groups.{IsFinal}
use Rattle.te_search.specs.Searching.{paths_by}
use Rattle.te_search.specs.Works.{met_paths, WaitsOn}

-- how a search stands: its list and its budget; its events and paths; the waiting ends that are kept; how many of its
-- paths, the lowest, were in a batch, and how many of these were applied; and whether it goes on
pub record Batches : Type 0 where
  pub parked : List Parked
  pub budget : ℕ
  pub trail : Trail
  pub kept : List End
  pub batched : ℕ
  pub applied : ℕ
  pub goes_on : Bool

-- ---- starting

-- each event has its first path, in order, and nothing else was done
pub record IsStart (parked : List Parked) (budget : ℕ) (s : Batches) : Type 0 where
  pub parked_are : s.parked ≡ parked
  pub budget_is : s.budget ≡ budget
  pub events : s.trail.events ≡ as_group parked
  pub paths : s.trail.paths ≡ map (λ p. planted p.thread) parked
  pub kept : s.kept ≡ []
  pub batched : s.batched ≡ 0
  pub applied : s.applied ≡ 0
  pub goes_on : s.goes_on ≡ true

-- ---- batches

-- so many numbers from n on
abbrev pub numbers_from : ℕ → ℕ → List ℕ
numbers_from n zero = []
numbers_from n (suc count) = n ∷ numbers_from (suc n) count

-- the batch is the lowest paths that were in none, at most 64 and fewer only where it is all; those of them that stand at a send or a receive are kept
pub record NextBatch (old : Batches) (batch : List ℕ) (new : Batches) : Type 0 where
  pub are : batch ≡ numbers_from old.batched (length batch)
  pub low : old.batched + length batch ≤ length old.trail.paths
  pub most : (length batch ≡ 64) ⊎ ((length batch < 64) × (old.batched + length batch ≡ length old.trail.paths))
  pub more : List End
  pub ends : AreEnds old.trail more
  pub kept : (p : ℕ) → Contains (paths_kept more) p ↔ (Contains batch p × IsAtEnd old.trail p)
  pub kept_are : new.kept ≡ old.kept ++ more
  pub batched : new.batched ≡ old.batched + length batch
  pub parked : new.parked ≡ old.parked
  pub budget : new.budget ≡ old.budget
  pub trail : new.trail ≡ old.trail
  pub applied : new.applied ≡ old.applied
  pub goes_on : new.goes_on ≡ true

-- path p is in the present batch and isn't applied
pub record IsInBatch (s : Batches) (p : ℕ) : Type 0 where
  pub goes_on : s.goes_on ≡ true
  pub after : s.applied ≤ p
  pub before : p < s.batched

-- ---- looks

abbrev pub IsAtDeadEnd : Trail → ℕ → Type 0
IsAtDeadEnd store p = (x : Path) (m : Member) → slice_get store.paths p ≡ Some x → path_state store.events x ≡ Some m
    → head m.term ≡ never

-- what path p is to do: the ends are its partners among the lower paths
abbrev pub IsLook : Batches → ℕ → Look → Type 0
IsLook s p looks.Final = (x : Path) → slice_get s.trail.paths p ≡ Some x → IsFinal s.trail.events x
IsLook s p looks.Dead = IsAtDeadEnd s.trail p
IsLook s p looks.Fork = IsAtChoice s.trail p
IsLook s p (looks.Ends others) = IsAtEnd s.trail p × IsStrictlyIncreasing others ×
    ((q : ℕ) → Contains others q ↔ ((q < p) × IsPartner s.trail s.kept p q))

-- ---- what is made

-- both paths of a meeting with each of these
abbrev pub meetings_with : Bool → Path → List Path → List Path
meetings_with sends x [] = []
meetings_with sends x (y ∷ ys) = met_paths sends x y ++ meetings_with sends x ys

-- the new paths that the path makes of its look
abbrev pub AreMadeBy : Batches → Path → Look → List Path → Type 0
AreMadeBy s x looks.Final news = news ≡ []
AreMadeBy s x looks.Dead news = news ≡ []
AreMadeBy s x looks.Fork news = news ≡ branched x true ∷ (branched x false ∷ [])
AreMadeBy s x (looks.Ends others) news = (channel : ℕ) (sends : Bool) → WaitsOn s.trail.events x channel sends
    → news ≡ meetings_with sends x (paths_by s.trail.paths others)

-- path p has done what its look says, and nothing else is new
pub record IsApplied (old : Batches) (p : ℕ) (look : Look) (new : Batches) : Type 0 where
  pub parked : new.parked ≡ old.parked
  pub budget : new.budget ≡ old.budget
  pub events : new.trail.events ≡ old.trail.events
  pub news : List Path
  pub paths : new.trail.paths ≡ old.trail.paths ++ news
  pub are : (x : Path) → slice_get old.trail.paths p ≡ Some x → AreMadeBy old x look news
  pub kept : new.kept ≡ old.kept
  pub batched : new.batched ≡ old.batched
  pub applied : new.applied ≡ p + 1
  pub goes_on : new.goes_on ≡ true

-- ---- final paths of one chain

abbrev pub has_thread : List Path → ℕ → Bool
has_thread [] t = false
has_thread (p ∷ ps) t = nat_eq (thread_of p) t || has_thread ps t

-- these are final paths of different threads, the one of them, and one chain of joint steps of just these threads leaves each of them at its path
pub record AreLeftTogether (g : List Member) (x : Path) (ps : List Path) : Type 0 where
  pub has : Holds ps x
  pub finals : (y : Path) → Holds ps y → IsFinal g y
  pub apart : (y z : Path) → Holds ps y → Holds ps z → thread_of y ≡ thread_of z → y ≡ z
  pub word : List Label
  pub chain : ChainOfAll (part (has_thread ps) g) word ps

-- no applied paths are left so together with path p
abbrev pub NoneTogether : Batches → ℕ → Type 0
NoneTogether s p = (x : Path) (ps : List Path) → slice_get s.trail.paths p ≡ Some x
    → ((y : Path) → Holds ps y → Holds (take (p + 1) s.trail.paths) y) → ¬ AreLeftTogether s.trail.events x ps
