use Rattle.std.proofs.Common.{◌-◌, length}
use Rattle.te_serial.specs.Houses.{Continues}
use Rattle.te_serial.specs.Runs.{AreReady}
use Rattle.te_serial.proofs.RoundsDone.{RunSoFar}
use Rattle.te_serial.proofs.rounds.run.Given as goal

abbrev pub invariant-rounds : goal.invariant-rounds
invariant-rounds l = record {
  rounds : RunSoFar l.initial.board l.board;
  ready : AreReady l.board l.kept;
  continues : Continues l.initial.board l.initial.cores.items l.board l.cores.items;
}

abbrev pub decreases-rounds : goal.decreases-rounds
decreases-rounds l = 200001 - length l.board.entries
