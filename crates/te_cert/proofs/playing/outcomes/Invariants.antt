use Rattle.std.proofs.Common.{◌≡◌, drop}
use Rattle.te_cert.specs.Play.{endings}
use Rattle.te_cert.specs.Players.{of_group, seats_of, outcomes_before}
use Rattle.te_cert.proofs.playing.outcomes.Given as goal

abbrev pub invariant-loop-i : goal.invariant-loop-i
invariant-loop-i l = record {
  so_far : endings 0 (seats_of l.cells (of_group l.group) l.seats) ≡ outcomes_before l.outcomes (endings l.i (seats_of l.cells (drop l.i (of_group l.group)) (drop l.i l.seats)));
}
