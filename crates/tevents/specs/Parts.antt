-- The parts of a text with a rule: a line that is exactly three dashes, ended by a line feed or by the end of the text.
use Rattle.std.specs.Prelude.{◌≡◌, ◌≤◌, ◌⊎◌, ℕ, List, [], ◌∷◌, ◌++◌, length}

-- behind these bytes a line begins
abbrev pub StartsLine : List ℕ → Type 0
StartsLine before = (before ≡ []) ⊎ ((earlier : List ℕ) × (before ≡ earlier ++ 10 ∷ []))

-- these bytes are a rule and the lines behind it
abbrev pub IsRuled : List ℕ → List ℕ → Type 0
IsRuled bytes rest = (bytes ≡ 45 ∷ 45 ∷ 45 ∷ 10 ∷ rest) ⊎ ((bytes ≡ 45 ∷ 45 ∷ 45 ∷ []) × (rest ≡ []))

-- a rule stands between these lines
pub record HasRule (text before rest : List ℕ) : Type 0 where
  pub behind : List ℕ
  pub whole : text ≡ before ++ behind
  pub starts : StartsLine before
  pub ruled : IsRuled behind rest

-- what stands before the first rule, and what stands behind it; where there is none, the whole text and nothing
abbrev pub AreParts : List ℕ → List ℕ → List ℕ → Type 0
AreParts text upper lower = (HasRule text upper lower × ((before rest : List ℕ) → HasRule text before rest
    → length upper ≤ length before)) ⊎ (((before rest : List ℕ) → ¬ HasRule text before rest) × (text ≡ upper)
    × (lower ≡ []))
