-- The paths of a batch, by their places in it.
use Rattle.std.proofs.Common.{◌≡◌, ◌≤◌, ◌<◌, ◌+◌, ◌^◌, ℕ, suc, zero, List, [], ◌∷◌, length, Option, Some, None}
use Rattle.std.proofs.Common.{slice_get, get_or, set, true, arith, ap, sym, ◌∙◌}
use Rattle.std.proofs.lemmas.Option.{slice_get_within, get_or_from_slice_get}
use Rattle.te_search.specs.Batches.{Batches, IsInBatch, numbers_from}
use Rattle.te_crew.specs.Shares.{IsOfSame, HasBatch}

-- of a batch that is being applied, so many paths have been
pub record IsUpTo (old new : Batches) (i : ℕ) : Type 0 where
  pub goes_on : new.goes_on ≡ true
  pub applied : new.applied ≡ old.applied + i
  pub batched : new.batched ≡ old.batched
  pub same : IsOfSame old new
  pub number : new.applied ≤ 2 ^ 32

numbers_at : (n count i d : ℕ) → i < count → get_or (numbers_from n count) i d ≡ n + i
numbers_at n zero i d low = absurd (omega (arith, low))
numbers_at n (suc count) zero d low = omega arith
numbers_at n (suc count) (suc i) d low =
    (let more : suc n + i ≡ n + suc i = omega arith in numbers_at (suc n) count i d (omega (arith, low)) ∙ more)

-- the path at a place
pub path_at : (s : Batches) (batch : List ℕ) (i d : ℕ) → HasBatch s batch → i < length batch
    → get_or batch i d ≡ s.applied + i
path_at s batch i d has low = ap (λ b. get_or b i d) has.are ∙ numbers_at s.applied (length batch) i d low

-- the path at a place is in the batch
pub is_in_batch : (s : Batches) (batch : List ℕ) (i p : ℕ) → HasBatch s batch → i < length batch
    → p ≡ s.applied + i → IsInBatch s p
is_in_batch s batch i p has low at = record {
  goes_on = has.goes_on;
  after = omega (arith, at);
  before = omega (arith, at, low, has.last);
}

-- a path of the batch is below its end
pub is_below : (s : Batches) (batch : List ℕ) (i p : ℕ) → HasBatch s batch → slice_get batch i ≡ Some p
    → p < s.batched
is_below s batch i p has got =
    let low = slice_get_within batch i p got in
    let at = sym (get_or_from_slice_get batch i p 0 got) ∙ path_at s batch i 0 has low in
    omega (arith, at, low, has.last)

-- the next path to be applied is the one at the next place
pub is_next : (old new : Batches) (batch : List ℕ) (i p : ℕ) → HasBatch old batch → IsUpTo old new i
    → i < length batch → p ≡ old.applied + i → IsInBatch new p
is_next old new batch i p has up low at = record {
  goes_on = up.goes_on;
  after = omega (arith, at, up.applied);
  before = omega (arith, at, low, has.last, up.batched);
}

-- where something is taken from a list, what is left was there
pub others_stay : {A : Type 0} (xs : List (Option A)) (i k : ℕ) (x : A)
    → slice_get (set xs i None) k ≡ Some (Some x) → slice_get xs k ≡ Some (Some x)
others_stay [] i k x there = there
others_stay (y ∷ xs) zero zero x there = cc
others_stay (y ∷ xs) zero (suc k) x there = there
others_stay (y ∷ xs) (suc i) zero x there = there
others_stay (y ∷ xs) (suc i) (suc k) x there = others_stay xs i k x there
