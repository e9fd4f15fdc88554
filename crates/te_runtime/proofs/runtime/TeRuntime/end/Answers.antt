use Rattle.std.proofs.Common.{[], ◌∷◌, refl}
use Rattle.std.proofs.lemmas.Result.{IfOk-weaker}
use Rattle.te_history.specs.declared.entry.Entry.TheVariants as entries
use Rattle.te_board.specs.Boards.{Appends}
use Rattle.te_runtime.specs.Calls.{Called}
use Rattle.te_runtime.specs.Refusals.{RefusesEnding}
use Rattle.te_runtime.proofs.Refusing.{refused_after_wait}
use Rattle.te_runtime.proofs.PollAnswers.{appended}
use Rattle.te_runtime.proofs.TurnsOfSync.{stuck_entered}
use Rattle.te_runtime.proofs.runtime.TeRuntime.end.Goals as goal

pub end-answer-requires-clause-how : goal.end-answer-requires-clause-how
end-answer-requires-clause-how g c = λ is. stuck_entered c.wait_in-board.ensures (c.requires.how is)

pub returns-clause-ok : goal.returns-clause-ok
returns-clause-ok g c =
    let b = c.wait_in-board.result in
    let after = c.end-answer.new.board in
    IfOk-weaker
    c.end-answer.result
    (λ done. Appends b after (entries.End c.caller-by.result c.args.how))
    (λ done. Called c.args.pass.now c.exit.new.pass (entries.End c.exit.new.pass.caller c.args.how ∷ []))
    (λ done a. appended c.caller-by.result (λ k. entries.End k c.args.how) (λ k. refl) c.wait_in-board.ensures a c.exit.ensures c.caller-by.ensures.caller)
    c.end-answer.ensures.ok

pub returns-clause-refused : goal.returns-clause-refused
returns-clause-refused g c =
    refused_after_wait (RefusesEnding c.args.how) c.end-answer.result c.end-answer.new.board c.caller-by.result
    c.wait_in-board.ensures c.exit.ensures c.caller-by.ensures.caller c.end-answer.ensures.same c.end-answer.ensures.cause
