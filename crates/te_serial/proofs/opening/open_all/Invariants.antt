use Rattle.te_serial.specs.Houses.{Continues}
use Rattle.te_serial.specs.Runs.{IsKeptOf}
use Rattle.te_serial.proofs.RoundsSoFar.{OpenedSoFar}
use Rattle.te_serial.proofs.opening.open_all.Given as goal

abbrev pub invariant-loop-t : goal.invariant-loop-t
invariant-loop-t l = record {
  opened : OpenedSoFar l.initial.board l.board l.t;
  continues : Continues l.initial.board l.cores.items l.board l.cores.items;
  kept : IsKeptOf l.kept l.board;
}
