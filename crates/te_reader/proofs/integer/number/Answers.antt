use Rattle.std.proofs.Common.{◌≡◌, ◌<◌, ℕ, false, refl, arith}
use Rattle.std.specs.Prelude.{Some, None, nat_le, if◌then◌else◌}
use Rattle.std.proofs.lemmas.Bool.Decides.{nat_tests}
use Rattle.te_reader.proofs.DigitLaws.{too_large}
use Rattle.te_reader.proofs.integer.number.Goals as goal

-- no answer where the number is past the most
refused : (most n : ℕ) → most < n → None ≡ (if nat_le n most then Some n else None)
refused most n h = let no : nat_le n most ≡ false = grind (arith, nat_tests) in rw no refl

pub returns-then-size-gt922337203685477580 : goal.returns-then-size-gt922337203685477580
returns-then-size-gt922337203685477580 c =
    refused 9223372036854775808 _ (rw (← c.loop-digit.invariant.0) (too_large _ c.loop-digit.digit-index c.args.digits.now c.loop-digit-test.true c.if-size-gt922337203685477580.true))
