use Rattle.te_serial.proofs.ListsKept.{KeptSoFar}
use Rattle.te_serial.proofs.rounds.keep_parked.Given as goal

abbrev pub invariant-loop-t : goal.invariant-loop-t
invariant-loop-t l = KeptSoFar l.board l.kept l.t
