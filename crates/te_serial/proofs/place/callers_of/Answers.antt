use Rattle.te_history.proofs.AfterEntry.{length-state}
use Rattle.te_serial.proofs.place.callers_of.Goals as goal

pub returns-clause-each : goal.returns-clause-each
returns-clause-each c = length-state c.args.board.now.callers c.args.board.now.entries
