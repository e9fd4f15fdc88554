-- The line of a fault is an answer where the bytes are no text of a script.
use Rattle.tevents.specs.Runs.{in_rounds}
use Rattle.tevents.proofs.AnswersTold.{fault_is_answer, told_is_answer}
use Rattle.tevents.proofs.answering.answer.Goals as goal

pub returns-in-Ok : goal.returns-in-Ok
returns-in-Ok c = told_is_answer in_rounds c.args.task (λ told. told.text) (λ told. told.status) c.args.bytes.now
    c.parts_for.result.0.now c.parts_for.result.1.now c.in-Ok.script c.tell.result c.parts_for.ensures c.in-Ok.ensures.ok
    c.tell.ensures

pub returns-in-Err : goal.returns-in-Err
returns-in-Err c = fault_is_answer in_rounds c.args.task (λ told. told.text) (λ told. told.status) c.args.bytes.now c.parts_for.result.0.now
    c.parts_for.result.1.now c.in-Err.told c.read_script.result c.fault.result c.parts_for.ensures c.in-Err.is
    c.read_script.ensures.text c.in-Err.ensures.fault c.fault.ensures.named c.fault.ensures.line
