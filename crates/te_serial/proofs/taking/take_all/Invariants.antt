use Rattle.te_serial.specs.Houses.{Continues}
use Rattle.te_serial.proofs.TakesSoFar.{MembersTaken}
use Rattle.te_serial.proofs.taking.take_all.Given as goal

abbrev pub invariant-loop-i : goal.invariant-loop-i
invariant-loop-i l = record {
  taken : MembersTaken l.initial.board l.board l.place l.i;
  continues : Continues l.initial.board l.initial.cores.items l.board l.cores.items;
}
