-- A search in batches between two batches, and the looks of a batch. This is the project's own.
use Rattle.std.specs.Prelude.{◌≡◌, ◌≤◌, ◌<◌, ◌+◌, ◌^◌, ℕ, List, length}
use Rattle.std.specs.Prelude.{Option, Some, true, slice_get}
use Rattle.te_search.specs.declared.batched.Look.{Look}
use Rattle.te_search.specs.Batches.{Batches, IsInBatch, IsLook, numbers_from}

-- how many workers a search takes
abbrev pub IsCrew : ℕ → Type 0
IsCrew workers = (1 ≤ workers) × (workers ≤ 16)

-- the list and the budget are as before
pub record IsOfSame (old new : Batches) : Type 0 where
  pub parked : new.parked ≡ old.parked
  pub budget : new.budget ≡ old.budget

-- the search goes on, and every path that was in a batch is applied; a path's number fits into 32 bits
pub record IsBetweenBatches (s : Batches) : Type 0 where
  pub goes_on : s.goes_on ≡ true
  pub applied : s.applied ≡ s.batched
  pub numbers : s.batched ≤ 2 ^ 32

-- the search goes on, and of its paths exactly these are in a batch and not applied, in order
pub record HasBatch (s : Batches) (batch : List ℕ) : Type 0 where
  pub goes_on : s.goes_on ≡ true
  pub are : batch ≡ numbers_from s.applied (length batch)
  pub last : s.applied + length batch ≡ s.batched

-- the looks that are there are those of the paths at their places
abbrev pub AreLooks : Batches → List ℕ → List (Option Look) → Type 0
AreLooks s batch looks = (i p : ℕ) (l : Look) → slice_get batch i ≡ Some p → slice_get looks i ≡ Some (Some l)
    → IsLook s p l
