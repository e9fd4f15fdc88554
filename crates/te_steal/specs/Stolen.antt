-- How the looks at the paths of a batch are gathered from those who took their places. This is the project's own.
use Rattle.std.specs.Prelude.{◌≡◌, ◌⊎◌, ◌<◌, ◌≤◌, ℕ, Bool, true, List, length, Option, Some, slice_get}
use Rattle.te_search.specs.declared.batched.Look.{Look}
use Rattle.te_search.specs.Batches.{Batches}
use Rattle.te_crew.specs.Shares.{HasBatch, AreLooks}
use Rattle.te_steal.specs.Relays.{occurrences}
use Rattle.te_steal.specs.declared.robbing.Robber.{Robber}
use Rattle.te_steal.specs.declared.robbing.Boss.{Boss}

-- how many thieves a search has
abbrev pub IsGang : ℕ → Type 0
IsGang thieves = (1 ≤ thieves) × (thieves ≤ 7)

-- the search has this batch, with a path and at most as many as a relay takes
pub record IsFullBatch (s : Batches) (batch : List ℕ) : Type 0 where
  pub has : HasBatch s batch
  pub some : 1 ≤ length batch
  pub few : length batch ≤ 64

abbrev pub HasLook : List (Option Look) → ℕ → Type 0
HasLook looks k = (look : Look) × (slice_get looks k ≡ Some (Some look))

-- the looks are those that were there and those that were brought, each in its place
pub record IsBrought (old theirs new : List (Option Look)) : Type 0 where
  pub either : (k : ℕ) (look : Look) → slice_get new k ≡ Some (Some look)
      → (slice_get old k ≡ Some (Some look)) ⊎ (slice_get theirs k ≡ Some (Some look))
  pub own : (k : ℕ) → HasLook old k → HasLook new k
  pub brought : (k : ℕ) → HasLook theirs k → HasLook new k

-- each place of the batch has a look
abbrev pub IsLookedAt : List ℕ → List (Option Look) → Type 0
IsLookedAt batch looks = (k : ℕ) → k < length batch → HasLook looks k

-- the looks that are there are those of the paths at their places, and where none was refused there is one for each place that was taken
pub record AreLooksAt (s : Batches) (batch : List ℕ) (took : List ℕ) (looks : List (Option Look)) (whole : Bool) : Type 0 where
  pub count : length looks ≡ length batch
  pub seen : AreLooks s batch looks
  pub there : whole ≡ true → (k : ℕ) → k < length batch → 0 < occurrences k took → HasLook looks k

abbrev pub IsRobber : Batches → List ℕ → Robber → Type 0
IsRobber s batch r = AreLooksAt s batch r.thief.took r.looks.items r.whole

abbrev pub IsBoss : Batches → List ℕ → Boss → Type 0
IsBoss s batch b = AreLooksAt s batch b.owner.took b.looks.items b.whole
