use Rattle.te_board.specs.Boards.{state_of}
use Rattle.te_serial.proofs.TurnsOfRounds.{looked_first_next, looked_other_next, looked_ended_next}
use Rattle.te_serial.proofs.closing.due.Goals.{in-Parked+then-is_none, in-Parked+else-is_none, in-Ended}
use Rattle.te_serial.proofs.closing.due.Goals as goal

pub loop-t-preserved : goal.loop-t-preserved
loop-t-preserved c = elim c.match-place_of.branch [
  | in-Parked+then-is_none w ↦ looked_first_next
      (state_of c.args.board.now) c.loop-t.t c.place_of.result c.loop-t.lowest c.match-place_of.lowest c.loop-t.invariant c.place_of.ensures.place w.in-Parked.is w.if-is_none.ensures w.lowest-is
  | in-Parked+else-is_none w ↦ looked_other_next
      (state_of c.args.board.now) c.loop-t.t c.place_of.result c.loop-t.lowest c.match-place_of.lowest c.loop-t.invariant c.place_of.ensures.place w.in-Parked.is w.if-is_none.ensures w.lowest-is
  | in-Ended w ↦ looked_ended_next (state_of c.args.board.now) c.loop-t.t c.place_of.result c.loop-t.lowest c.match-place_of.lowest c.loop-t.invariant
      c.place_of.ensures.place w.in-Ended.is w.lowest-is
]
