use Rattle.std.proofs.Common.{[], ◌∷◌, refl}
use Rattle.std.proofs.lemmas.Result.{IfOk-weaker}
use Rattle.te_history.specs.declared.entry.Entry.TheVariants as entries
use Rattle.te_board.specs.Boards.{Appends}
use Rattle.te_runtime.specs.Refusals.{RefusesOffer}
use Rattle.te_runtime.specs.Calls.{Called}
use Rattle.te_runtime.proofs.Refusing.{refused_call}
use Rattle.te_runtime.proofs.PollAnswers.{appended}
use Rattle.te_runtime.proofs.runtime.TeRuntime.offer.Goals as goal

pub returns-clause-ok : goal.returns-clause-ok
returns-clause-ok c =
    let b = c.in_ok-board.board in
    let after = c.post-answer.new.board in
    IfOk-weaker
    c.post-answer.result
    (λ ticket. Appends b after (entries.Post c.caller-by.result ticket c.args.event.now))
    (λ ticket. Called c.args.pass.now c.exit.new.pass (entries.Post c.exit.new.pass.caller ticket c.args.event.now ∷ []))
    (λ ticket a. appended c.caller-by.result (λ k. entries.Post k ticket c.args.event.now) (λ k. refl) c.in_ok-board.ensures.ok a c.exit.ensures
    c.caller-by.ensures.caller)
    c.post-answer.ensures.ok

pub returns-clause-refused : goal.returns-clause-refused
returns-clause-refused c =
    refused_call RefusesOffer (λ b by word is. is) c.post-answer.result c.post-answer.new.board c.caller-by.result c.in_ok-board.ensures.ok
    c.exit.ensures c.caller-by.ensures.caller c.post-answer.ensures.same
    c.post-answer.ensures.cause
