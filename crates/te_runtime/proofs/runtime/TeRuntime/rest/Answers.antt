use Rattle.std.proofs.Common.{[], ◌∷◌, refl}
use Rattle.std.proofs.lemmas.Result.{IfOk-weaker}
use Rattle.te_history.specs.declared.entry.Entry.TheVariants as entries
use Rattle.te_board.specs.Boards.{Appends}
use Rattle.te_runtime.specs.Calls.{Called}
use Rattle.te_runtime.specs.Refusals.{RefusesResting}
use Rattle.te_runtime.proofs.Refusing.{refused_after_wait}
use Rattle.te_runtime.proofs.PollAnswers.{appended}
use Rattle.te_runtime.proofs.runtime.TeRuntime.rest.Goals as goal

pub returns-clause-ok : goal.returns-clause-ok
returns-clause-ok g c =
    let b = c.wait_in-board.result in
    let after = c.rest-answer.new.board in
    IfOk-weaker
    c.rest-answer.result
    (λ done. Appends b after (entries.Rest c.caller-by.result))
    (λ done. Called c.args.pass.now c.exit.new.pass (entries.Rest c.exit.new.pass.caller ∷ []))
    (λ done a. appended c.caller-by.result entries.Rest (λ k. refl) c.wait_in-board.ensures a c.exit.ensures c.caller-by.ensures.caller)
    c.rest-answer.ensures.ok

pub returns-clause-refused : goal.returns-clause-refused
returns-clause-refused g c =
    refused_after_wait (λ board by. RefusesResting board) c.rest-answer.result c.rest-answer.new.board c.caller-by.result
    c.wait_in-board.ensures c.exit.ensures c.caller-by.ensures.caller c.rest-answer.ensures.same c.rest-answer.ensures.cause
