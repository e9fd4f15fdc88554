use Rattle.std.proofs.Common.{◌≡◌, ◌++◌, length, map}
use Rattle.te_report.specs.Sayings.{said_value, words}
use Rattle.te_report.proofs.values_told.read_values.Given as goal

-- with the values that are left it is the whole
abbrev pub invariant-words : goal.invariant-words
invariant-words l = l.values ++ map (said_value l.called) (words 32 l.rest) ≡ map (said_value l.called) (words 32 l.fn.text)

abbrev pub decreases-words : goal.decreases-words
decreases-words l = length l.rest
