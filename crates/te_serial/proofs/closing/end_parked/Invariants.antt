use Rattle.te_serial.proofs.ClosingsSoFar.{EndedSoFar}
use Rattle.te_serial.proofs.closing.end_parked.Given as goal

abbrev pub invariant-loop-t : goal.invariant-loop-t
invariant-loop-t l = EndedSoFar l.initial.board l.board l.t
