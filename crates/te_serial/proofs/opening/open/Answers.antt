use Rattle.te_serial.proofs.Openings.{ended_kept}
use Rattle.te_serial.proofs.opening.open.Goals as goal

pub returns-in_ok-values-in-Done-clause-kept : goal.returns-in_ok-values-in-Done-clause-kept
returns-in_ok-values-in-Done-clause-kept c = ended_kept c.args.board.now c.end.new.board c.args.t _ c.args.kept.now c.requires.idle c.requires.kept c.end.ensures

pub returns-in-Raised-clause-kept : goal.returns-in-Raised-clause-kept
returns-in-Raised-clause-kept c = ended_kept c.args.board.now c.end-in-Raised.new.board c.args.t _ c.args.kept.now c.requires.idle c.requires.kept c.end-in-Raised.ensures
