use Rattle.std.proofs.Common.{◌≡◌, ◌≤◌, drop}
use Rattle.te_reader.specs.Integers.{digits_value}
use Rattle.te_reader.proofs.integer.number.Given as goal

abbrev pub invariant-loop-digit : goal.invariant-loop-digit
invariant-loop-digit l = (digits_value l.size (drop l.digit-index l.digits) ≡ digits_value 0 l.digits) × (l.size ≤ 9223372036854776055)
