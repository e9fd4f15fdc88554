use Rattle.te_path.specs.Growth.{Grows}
use Rattle.te_cert.specs.Players.{of_group}
use Rattle.te_cert.proofs.SoFar.{HaveAdvanced}
use Rattle.te_cert.proofs.playing.seat_all.Given as goal

abbrev pub invariant-loop-i : goal.invariant-loop-i
invariant-loop-i l = record {
  grows : Grows l.initial.cells l.cells;
  so_far : HaveAdvanced l.cells (of_group l.group) l.seats.items l.i;
}
