use Rattle.te_serial.specs.Houses.{Continues}
use Rattle.te_serial.proofs.TakesSoFar.{GivenSoFar}
use Rattle.te_serial.proofs.taking.take_given.Given as goal

abbrev pub invariant-loop-t : goal.invariant-loop-t
invariant-loop-t l = record {
  given : GivenSoFar l.initial.board l.board l.t;
  continues : Continues l.initial.board l.initial.cores.items l.board l.cores.items;
}
