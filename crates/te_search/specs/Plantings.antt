-- The threads whose events are planted. No public clause cites this module.
use Rattle.std.specs.Prelude.{◌≡◌, ◌<◌, ℕ, List, [], ◌∷◌, take, Bool, true, false, nat_eq, ◌||◌, Option, Some, None, slice_get}

abbrev pub has_number : List ℕ → ℕ → Bool
has_number [] t = false
has_number (s ∷ ss) t = nat_eq s t || has_number ss t

-- the first place of the number
abbrev pub IsPlaceOf : List ℕ → ℕ → Option ℕ → Type 0
IsPlaceOf ns t None = has_number ns t ≡ false
IsPlaceOf ns t (Some i) = (slice_get ns i ≡ Some t) × (has_number (take i ns) t ≡ false)

-- none stands twice, and of each below 64 the table tells whether it stands
pub record IsTabled (ns : List ℕ) (table : List Bool) : Type 0 where
  pub once : (i t : ℕ) → slice_get ns i ≡ Some t → has_number (take i ns) t ≡ false
  pub told : (t : ℕ) → t < 64 → slice_get table t ≡ Some (has_number ns t)
