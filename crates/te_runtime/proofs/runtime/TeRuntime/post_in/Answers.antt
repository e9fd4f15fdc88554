use Rattle.std.proofs.Common.{[], ◌∷◌, refl}
use Rattle.std.proofs.lemmas.Result.{IfOk-weaker}
use Rattle.te_history.specs.declared.entry.Entry.TheVariants as entries
use Rattle.te_board.specs.Boards.{Appends, state_of}
use Rattle.te_runtime.specs.Calls.{Called, board_of}
use Rattle.te_runtime.specs.Refusals.{RefusesOffer}
use Rattle.te_runtime.specs.Rounds.{HoldsTicket}
use Rattle.te_runtime.proofs.Refusing.{refused_after_wait}
use Rattle.te_runtime.proofs.PollAnswers.{appended}
use Rattle.te_runtime.proofs.TurnsOfSync.{posted}
use Rattle.te_runtime.proofs.runtime.TeRuntime.post_in.Goals as goal

pub returns-clause-ok : goal.returns-clause-ok
returns-clause-ok g c =
    let b = c.wait_in-board.result in
    let after = c.post-ticket.new.board in
    IfOk-weaker
    c.post-ticket.result
    (λ ticket. Appends b after (entries.Post c.caller-by.result ticket c.args.event.now))
    (λ ticket. Called c.args.pass.now c.exit.new.pass (entries.Post c.exit.new.pass.caller ticket c.args.event.now ∷ []))
    (λ ticket a. appended c.caller-by.result (λ k. entries.Post k ticket c.args.event.now) (λ k. refl) c.wait_in-board.ensures a c.exit.ensures
    c.caller-by.ensures.caller)
    c.post-ticket.ensures.ok

pub returns-clause-holds : goal.returns-clause-holds
returns-clause-holds g c =
    let b = c.wait_in-board.result in
    let after = c.post-ticket.new.board in
    IfOk-weaker
    c.post-ticket.result
    (λ ticket. Appends b after (entries.Post c.caller-by.result ticket c.args.event.now))
    (HoldsTicket (state_of (board_of c.exit.new.pass)) c.exit.new.pass.caller)
    (λ ticket a. posted c.caller-by.result ticket c.args.event.now c.wait_in-board.ensures a c.exit.ensures c.caller-by.ensures.caller)
    c.post-ticket.ensures.ok

pub returns-clause-refused : goal.returns-clause-refused
returns-clause-refused g c =
    refused_after_wait RefusesOffer c.post-ticket.result c.post-ticket.new.board c.caller-by.result c.wait_in-board.ensures c.exit.ensures
    c.caller-by.ensures.caller c.post-ticket.ensures.same c.post-ticket.ensures.cause
