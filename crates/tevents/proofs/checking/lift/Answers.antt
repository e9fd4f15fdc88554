-- A report that isn't read is refused for what is told.
use Rattle.std.proofs.Common.{◌≡◌, ◌≢◌}
use Rattle.std.proofs.lemmas.Result.{IfOk-weaker}
use Rattle.te_report.specs.declared.fault.ReportFault.TheVariants.{Memory}
use Rattle.tevents.specs.ReportLines.{report_fault_line}
use Rattle.tevents.specs.Checks.{IsLifted}
use Rattle.tevents.proofs.ReportsChecked.{refused_lift}
use Rattle.tevents.proofs.checking.lift.Goals as goal

pub returns-in-Err : goal.returns-in-Err
returns-in-Err c = IfOk-weaker c.refused.result
    (λ told. (c.in-Err.fault ≢ Memory) × (told.text ≡ report_fault_line c.in-Err.fault) × (told.status ≡ 8))
    (λ told. IsLifted c.args.script.now c.args.report.now told.text told.status)
    (λ told h. refused_lift c.args.script.now c.args.report.now told.text told.status c.in-Err.fault
    (λ history ending read. h.0 (c.readings_are_one.ensures.unrefused c.args.script.now c.args.report.now history ending c.in-Err.fault c.keeps.ensures read c.in-Err.ensures.refused))
    h.0 c.in-Err.ensures.refused h.1 h.2)
    c.refused.ensures
