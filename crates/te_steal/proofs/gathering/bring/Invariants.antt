use Rattle.std.proofs.Common.{length}
use Rattle.te_steal.proofs.LooksBrought.{IsBringing}
use Rattle.te_steal.proofs.gathering.bring.Given as goal

abbrev pub invariant-places : goal.invariant-places
invariant-places l = IsBringing l.fn.looks l.fn.theirs.items l.rest.items l.looks

abbrev pub decreases-places : goal.decreases-places
decreases-places l = length l.rest.items
