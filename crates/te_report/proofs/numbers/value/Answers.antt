use Rattle.std.proofs.Common.{◌≡◌, ◌≤◌, ◌^◌, ℕ, false, refl, arith, drop}
use Rattle.std.specs.Prelude.{Some, None, nat_lt, if◌then◌else◌}
use Rattle.std.proofs.lemmas.Bool.Decides.{nat_tests}
use Rattle.te_report.proofs.NumbersTold.{grows}
use Rattle.te_report.proofs.numbers.value.Goals as goal

-- no answer where the number isn't one of 64 bits
refused : (n : ℕ) → 2 ^ 64 ≤ n → None ≡ (if nat_lt n (2 ^ 64) then Some n else None)
refused n h = let past : nat_lt n (2 ^ 64) ≡ false = grind (arith, nat_tests) in rw past refl

pub returns-then-size-gt20000000000000000000 : goal.returns-then-size-gt20000000000000000000
returns-then-size-gt20000000000000000000 c =
    refused _ (rw (← c.loop-digit.invariant.0) (omega (arith, grows c.loop-digit.size (drop c.loop-digit.digit-index c.args.digits.now), c.if-size-gt20000000000000000000.true)))
