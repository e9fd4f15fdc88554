use Rattle.std.proofs.Common.{◌≡◌, true≢false, ap, sym, ◌∙◌, subst}
use Rattle.te_terms.specs.Terms.{Term}
use Rattle.te_history.specs.State.{parked}
use Rattle.te_history.specs.Follows.{Stands}
use Rattle.te_history.specs.Histories.{now}
use Rattle.te_board.proofs.ParkedLists.{one_event}
use Rattle.te_board.proofs.matching.is_that.Goals as goal

pub returns-clause-yes : goal.returns-clause-yes
returns-clause-yes c =
    λ same.
    let stands = c.parked_event.ensures c.args.ticket c.requires.stands in
    let event = c.same.ensures.0 same in (
      subst (λ (e : Term). Stands (now c.args.hist.now) c.args.thread (parked c.args.ticket e)) (sym event) stands,
      c.if-parked-thread.false,
      c.if-parked-ticket.false,
    )

pub returns-clause-not : goal.returns-clause-not
returns-clause-not c =
    λ differs event stands same.
    let mine = c.parked_event.ensures c.args.ticket c.requires.stands in
    let one : event ≡ c.parked_event.result.now = one_event (now c.args.hist.now) c.args.thread c.args.ticket event c.parked_event.result.now stands mine in
    let is = c.same.ensures.1 (ap (λ p. p.event) same ∙ one) in
    true≢false (sym is ∙ differs)
