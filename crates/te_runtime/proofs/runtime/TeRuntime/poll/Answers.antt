use Rattle.std.proofs.lemmas.Result.{IfOk-weaker}
use Rattle.te_runtime.specs.Refusals.{RefusesPoll}
use Rattle.te_runtime.specs.Answers.{IsPolled}
use Rattle.te_runtime.specs.Acts.{Polls}
use Rattle.te_runtime.proofs.Refusing.{refused_call}
use Rattle.te_runtime.proofs.PollAnswers.{is_polled, waits_told}
use Rattle.te_runtime.proofs.runtime.TeRuntime.poll.Goals as goal

pub returns-clause-ok : goal.returns-clause-ok
returns-clause-ok c =
    let after = c.take-answer.new.board in
    IfOk-weaker
    c.take-answer.result
    (Polls c.in_ok-board.board after c.caller-by.result)
    (IsPolled c.args.pass.now c.exit.new.pass)
    (λ answer polls. is_polled after c.caller-by.result answer c.in_ok-board.ensures.ok polls c.exit.ensures c.caller-by.ensures.caller)
    c.take-answer.ensures.ok

pub returns-clause-refused : goal.returns-clause-refused
returns-clause-refused c =
    refused_call RefusesPoll (λ b by word is. is) c.take-answer.result c.take-answer.new.board c.caller-by.result c.in_ok-board.ensures.ok
    c.exit.ensures c.caller-by.ensures.caller c.take-answer.ensures.same
    c.take-answer.ensures.cause

pub returns-clause-waits : goal.returns-clause-waits
returns-clause-waits c = λ free waits.
    waits_told c.take-answer.result c.take-answer.new.board c.caller-by.result c.in_ok-board.ensures.ok c.take-answer.ensures.goes_on.callers
    c.exit.ensures c.caller-by.ensures.caller
    c.take-answer.ensures.ok c.take-answer.ensures.same c.take-answer.ensures.cause waits
