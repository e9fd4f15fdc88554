use Rattle.std.proofs.Common.{◌≡◌, ◌++◌, length, map}
use Rattle.te_report.specs.Sayings.{said_member, words}
use Rattle.te_report.proofs.commits_told.read_members.Given as goal

-- with those that are left it is the whole
abbrev pub invariant-words : goal.invariant-words
invariant-words l = l.members ++ map (said_member l.called) (words 32 l.rest) ≡ map (said_member l.called) (words 32 l.fn.text)

abbrev pub decreases-words : goal.decreases-words
decreases-words l = length l.rest
