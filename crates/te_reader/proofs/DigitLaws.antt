-- The number of digits never falls with further digits.
use Rattle.std.proofs.Common.{◌≡◌, ℕ, ◌+◌, ◌-◌, ◌*◌, ◌<◌, ◌≤◌, List, [], ◌∷◌, length, get_or, drop, refl, arith, drop-cons, add-one}
use Rattle.te_reader.specs.Integers.{digits_value}

pub grows : (so_far : ℕ) (ds : List ℕ) → so_far ≤ digits_value so_far ds
grows so_far [] = omega arith
grows so_far (d ∷ ds) = omega (arith, grows (so_far * 10 + (d - 48)) ds)

-- one digit more
pub next_digit : (so_far i : ℕ) (ds : List ℕ) → i < length ds → digits_value so_far (drop i ds) ≡ digits_value (so_far * 10 + (get_or ds i 0 - 48)) (drop (i + 1) ds)
next_digit so_far i ds h = rw (drop-cons ds i 0 h, add-one) refl

pub too_large : (so_far i : ℕ) (ds : List ℕ) → i < length ds → 922337203685477580 < so_far → 9223372036854775808 < digits_value so_far (drop i ds)
too_large so_far i ds h large = rw (next_digit so_far i ds h) (omega (arith, grows (so_far * 10 + (get_or ds i 0 - 48)) (drop (i + 1) ds)))
