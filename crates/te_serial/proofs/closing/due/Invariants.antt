use Rattle.te_board.specs.Boards.{state_of}
use Rattle.te_serial.proofs.ClosingsSoFar.{LookedSoFar}
use Rattle.te_serial.proofs.closing.due.Given as goal

abbrev pub invariant-loop-t : goal.invariant-loop-t
invariant-loop-t l = LookedSoFar (state_of l.board) l.t l.lowest
