use Rattle.std.proofs.Common.{◌≡◌, ◌++◌, length, map}
use Rattle.te_report.specs.Sayings.{said_meeting, words}
use Rattle.te_report.proofs.commits_told.read_some_meets.Given as goal

-- with the meetings that are left it is the whole
abbrev pub invariant-words : goal.invariant-words
invariant-words l = l.meets ++ map (said_meeting l.called l.members) (words 32 l.rest) ≡ map (said_meeting l.called l.members) (words 32 l.fn.text)

abbrev pub decreases-words : goal.decreases-words
decreases-words l = length l.rest
