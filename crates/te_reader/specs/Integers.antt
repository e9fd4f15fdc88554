-- The integer that an INT token denotes.
use Rattle.std.specs.Prelude.{ℕ, ◌+◌, ◌-◌, ◌*◌, ◌==◌, List, [], ◌∷◌, ℤ, pos, ◌-ℤ◌, if◌then◌else◌}

-- the number of these digits, behind digits that have come to `so_far`
abbrev pub digits_value : ℕ → List ℕ → ℕ
digits_value so_far [] = so_far
digits_value so_far (d ∷ ds) = digits_value (so_far * 10 + (d - 48)) ds

-- digits, or `-` and digits; leading zeros are allowed
abbrev pub integer_value : List ℕ → ℤ
integer_value [] = pos 0
integer_value (b ∷ bs) = if b == 45 then pos 0 -ℤ pos (digits_value 0 bs) else pos (digits_value 0 (b ∷ bs))
