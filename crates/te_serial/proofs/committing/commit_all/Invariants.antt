use Rattle.std.proofs.Common.{◌-◌, length}
use Rattle.te_serial.specs.Houses.{Continues}
use Rattle.te_serial.specs.Runs.{IsKeptOf}
use Rattle.te_serial.proofs.RoundsSoFar.{BlocksSoFar}
use Rattle.te_serial.proofs.committing.commit_all.Given as goal

abbrev pub invariant-loop : goal.invariant-loop
invariant-loop l = record {
  blocks : BlocksSoFar l.initial.board l.board;
  continues : Continues l.initial.board l.initial.cores.items l.board l.cores.items;
  kept : IsKeptOf l.kept l.board;
}

abbrev pub decreases-loop : goal.decreases-loop
decreases-loop l = 200001 - length l.board.entries
