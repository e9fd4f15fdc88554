use Rattle.std.proofs.Common.{◌≤◌, ◌+◌, ◌-◌, length}
use Rattle.te_trail.specs.Walks.{FittingFor}
use Rattle.te_trail.proofs.ClocksWalk.{RestDecides}
use Rattle.te_trail.proofs.store.TrailStore.all_fit.Given as goal

abbrev pub invariant-walk : goal.invariant-walk
invariant-walk l = RestDecides (FittingFor l.self.paths l.s l.r) l.firsts l.seconds l.i l.j

abbrev pub decreases-walk : goal.decreases-walk
decreases-walk l = (length l.firsts + length l.seconds) - (l.i + l.j)
