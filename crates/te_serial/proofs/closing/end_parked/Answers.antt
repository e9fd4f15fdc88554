use Rattle.te_serial.proofs.TurnsOfRounds.{ended_next, ended_past, ended_at_end}
use Rattle.te_serial.proofs.closing.end_parked.Goals.{in-Parked, in-Idle}
use Rattle.te_serial.proofs.closing.end_parked.Goals as goal

pub loop-t-preserved : goal.loop-t-preserved
loop-t-preserved c = elim c.match-place_of.branch [
  | in-Parked w ↦ ended_next c.args.board.now c.loop-t.board w.end.new.board c.match-place_of.board c.loop-t.t c.place_of.result c.loop-t.invariant
      c.place_of.ensures.place w.in-Parked.is w.end.ensures w.board-is
  | in-Idle w ↦ ended_past c.args.board.now c.loop-t.board c.match-place_of.board c.loop-t.t c.place_of.result c.loop-t.invariant c.requires.settled c.place_of.ensures.place w.in-Idle.is w.board-is
]

pub returns : goal.returns
returns c = ended_at_end c.args.board.now c.loop-t.board c.callers_of-t-end.result c.loop-t.t c.loop-t.invariant c.callers_of-t-end.ensures.value c.loop-t-test.false
