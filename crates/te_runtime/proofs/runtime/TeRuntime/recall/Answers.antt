use Rattle.std.proofs.Common.{[], ◌∷◌, refl}
use Rattle.std.proofs.lemmas.Result.{IfOk-weaker}
use Rattle.te_history.specs.declared.entry.Entry.TheVariants as entries
use Rattle.te_board.specs.Boards.{Appends}
use Rattle.te_runtime.specs.Refusals.{RefusesRecall}
use Rattle.te_runtime.specs.Calls.{Called}
use Rattle.te_runtime.proofs.Refusing.{refused_call}
use Rattle.te_runtime.proofs.PollAnswers.{appended}
use Rattle.te_runtime.proofs.runtime.TeRuntime.recall.Goals as goal

pub returns-clause-ok : goal.returns-clause-ok
returns-clause-ok c =
    let b = c.in_ok-board.board in
    let after = c.withdraw-answer.new.board in
    IfOk-weaker
    c.withdraw-answer.result
    (λ ticket. Appends b after (entries.Withdraw c.caller-by.result ticket))
    (λ ticket. Called c.args.pass.now c.exit.new.pass (entries.Withdraw c.exit.new.pass.caller ticket ∷ []))
    (λ ticket a. appended c.caller-by.result (λ k. entries.Withdraw k ticket) (λ k. refl) c.in_ok-board.ensures.ok a c.exit.ensures c.caller-by.ensures.caller)
    c.withdraw-answer.ensures.ok

pub returns-clause-refused : goal.returns-clause-refused
returns-clause-refused c =
    refused_call RefusesRecall (λ b by word is. is) c.withdraw-answer.result c.withdraw-answer.new.board c.caller-by.result c.in_ok-board.ensures.ok
    c.exit.ensures c.caller-by.ensures.caller c.withdraw-answer.ensures.same
    c.withdraw-answer.ensures.cause
