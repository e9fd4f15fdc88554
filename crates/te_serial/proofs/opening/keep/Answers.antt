use Rattle.te_serial.proofs.Openings.{keeps}
use Rattle.te_serial.proofs.opening.keep.Goals as goal

pub returns : goal.returns
returns c =
    keeps c.post.result c.args.board.now c.history-hist.result.now c.args.t c.in-Parked.ticket c.parked_event.result.now c.args.kept.now c.post.new.self
    c.history-hist.ensures.callers c.history-hist.ensures.entries
    (c.parked_event.ensures c.in-Parked.ticket c.in-Parked.ensures) c.post.ensures.ok
