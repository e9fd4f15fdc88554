use Rattle.std.proofs.Common.{◌<◌, length}
use Rattle.te_trail.proofs.Ancestors.{AboveAlike}
use Rattle.te_trail.proofs.store.TrailStore.above.Given as goal

abbrev pub invariant-loop-at : goal.invariant-loop-at
invariant-loop-at l = (l.at < length l.self.paths) × AboveAlike l.self.paths l.p l.q l.at

abbrev pub decreases-loop-at : goal.decreases-loop-at
decreases-loop-at l = l.at
