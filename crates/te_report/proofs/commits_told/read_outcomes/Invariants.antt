use Rattle.std.proofs.Common.{◌≡◌, ◌++◌, length, map}
use Rattle.te_report.specs.Sayings.{said_gets, words}
use Rattle.te_report.proofs.commits_told.read_outcomes.Given as goal

-- with those that are left it is the whole
abbrev pub invariant-words : goal.invariant-words
invariant-words l = l.outcomes ++ map (said_gets l.called) (words 32 l.rest) ≡ map (said_gets l.called) (words 32 l.fn.text)

abbrev pub decreases-words : goal.decreases-words
decreases-words l = length l.rest
