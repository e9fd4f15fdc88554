use Rattle.std.proofs.Common.{refl}
use Rattle.te_report.proofs.ReportsRead.{declared_still}
use Rattle.te_report.proofs.reading.note.Goals as goal

pub returns-in_default : goal.returns-in_default
returns-in_default c = declared_still c.args.hist.now.callers c.args.hist.now.entries _ c.args.entry.now c.args.declared.now c.in_default.not-Stuck refl c.requires
