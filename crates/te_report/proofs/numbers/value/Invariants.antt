use Rattle.std.proofs.Common.{◌≡◌, ◌≤◌, drop}
use Rattle.te_report.specs.Sayings.{decimal_value}
use Rattle.te_report.proofs.numbers.value.Given as goal

-- the digits that are left make it the number of all
abbrev pub invariant-loop-digit : goal.invariant-loop-digit
invariant-loop-digit l = (decimal_value l.size (drop l.digit-index l.digits) ≡ decimal_value 0 l.digits) × (l.size ≤ 200000000000000000255)
