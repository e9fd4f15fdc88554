use Rattle.te_history.proofs.Rising.{RisesTo}
use Rattle.te_history.proofs.committing.rises.Given as goal

abbrev pub invariant-loop-i : goal.invariant-loop-i
invariant-loop-i l = RisesTo l.members l.i
