use Rattle.std.proofs.Common.{length}
use Rattle.te_forms.proofs.naming.+calcs_avoid.Given as goal

abbrev pub decreases-calcs_avoid : goal.decreases-calcs_avoid
decreases-calcs_avoid l = length l.calcs.now
