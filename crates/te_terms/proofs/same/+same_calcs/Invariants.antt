use Rattle.std.proofs.Common.{length}
use Rattle.te_terms.proofs.same.+same_calcs.Given as goal

abbrev pub decreases-same_calcs : goal.decreases-same_calcs
decreases-same_calcs l = length l.list.now
