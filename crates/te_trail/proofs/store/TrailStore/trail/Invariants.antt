use Rattle.std.proofs.Common.{◌≡◌}
use Rattle.te_trail.proofs.PastsTold.{TrailSo}
use Rattle.te_trail.proofs.store.TrailStore.trail.Given as goal

abbrev pub invariant-moves : goal.invariant-moves
invariant-moves l = TrailSo l.self.paths l.p l.i l.moves
