-- What a list holds at a place after a write.
use Rattle.std.proofs.Common.{◌≡◌, ◌≢◌, ℕ, zero, suc, ◌<◌, List, [], ◌∷◌, length, slice_set, Some, refl, ap, arith}
use Rattle.std.specs.Prelude.{slice_get}

pub slice_get_set_same : {A : Type 0} (xs : List A) (i : ℕ) (v : A) → i < length xs → slice_get (slice_set xs i v) i ≡ Some v
slice_get_set_same [] i v lt = absurd (omega arith)
slice_get_set_same (x ∷ xs) zero v lt = refl
slice_get_set_same (x ∷ xs) (suc i) v lt = slice_get_set_same xs i v (omega arith)

pub slice_get_set_other : {A : Type 0} (xs : List A) (i k : ℕ) (v : A) → k ≢ i → slice_get (slice_set xs i v) k ≡ slice_get xs k
slice_get_set_other [] i k v ne = refl
slice_get_set_other (x ∷ xs) zero zero v ne = absurd (ne refl)
slice_get_set_other (x ∷ xs) zero (suc k) v ne = refl
slice_get_set_other (x ∷ xs) (suc i) zero v ne = refl
slice_get_set_other (x ∷ xs) (suc i) (suc k) v ne = slice_get_set_other xs i k v (λ e. ne (ap suc e))
