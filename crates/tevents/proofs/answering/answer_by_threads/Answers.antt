-- The report is that of the run in threads of their own; the line of a fault is an answer where the bytes are no text of a script.
use Rattle.std.proofs.Common.{refl}
use Rattle.tevents.specs.declared.task.Task.TheVariants as tasks
use Rattle.tevents.specs.Runs.{in_threads}
use Rattle.tevents.proofs.AnswersTold.{fault_is_answer, told_is_answer}
use Rattle.tevents.proofs.answering.answer_by_threads.Goals as goal

pub report-requires-clause-ends : goal.report-requires-clause-ends
report-requires-clause-ends g c = (in_threads, c.args.budget, c.in_ok-run-in-Ok.ensures.ends)

pub returns-in_ok-run-in-Ok : goal.returns-in_ok-run-in-Ok
returns-in_ok-run-in-Ok g c = told_is_answer in_threads (tasks.Run c.args.budget) (λ told. told.text) (λ told. told.status) c.args.bytes.now
    c.args.bytes.now _ c.in-Ok.script c.report.result (refl, refl) c.in-Ok.ensures.ok
    (c.report.ensures in_threads c.args.budget c.in_ok-run-in-Ok.ensures.ends)

pub returns-in-Err : goal.returns-in-Err
returns-in-Err g c = fault_is_answer in_threads (tasks.Run c.args.budget) (λ told. told.text) (λ told. told.status) c.args.bytes.now c.args.bytes.now
    _ c.in-Err.told c.read_script.result c.fault.result (refl, refl) c.in-Err.is
    c.read_script.ensures.text c.in-Err.ensures.fault c.fault.ensures.named c.fault.ensures.line
