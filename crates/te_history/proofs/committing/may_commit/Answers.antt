use Rattle.std.proofs.Common.{◌≡◌, List, sym, subst, ◌∙◌}
use Rattle.std.proofs.lemmas.Result.{err_from_is_err_and}
use Rattle.te_terms.specs.declared.event.Outcome.{Outcome}
use Rattle.te_history.specs.Histories.{now}
use Rattle.te_history.specs.Follows.{Commits}
use Rattle.te_history.specs.Refusals.{IsFirstOther}
use Rattle.te_history.proofs.CanPlay.{play_refused}
use Rattle.te_history.proofs.committing.may_commit.Goals as goal

pub returns-clause-ok : goal.returns-clause-ok
returns-clause-ok c =
    let same : c.in_ok-played.played ≡ c.args.outcomes.now = sym c.as_slice.ensures ∙ sym c.in-None.ensures.none in
    subst (Commits (now c.args.hist.now) c.args.cert.now) same c.in_ok-played.ensures.ok

pub returns-in-Some-clause-refused : goal.returns-in-Some-clause-refused
returns-in-Some-clause-refused c =
    let p = c.in_ok-played.ensures.played in
    let first = subst (λ (os : List Outcome). IsFirstOther c.args.outcomes.now os c.in-Some.i) c.as_slice.ensures c.in-Some.ensures.some in
    (p.order, (p.events, c.in_ok-played.played, p.parked_all, p.gives, first))

pub returns-in_err-played-clause-refused : goal.returns-in_err-played-clause-refused
returns-in_err-played-clause-refused c =
    let p = err_from_is_err_and c.from_residual.result c.from_residual.ensures.1 in
    rw (p.1, p.2) (play_refused c.args.hist.now.callers (now c.args.hist.now) c.args.cert.now c.args.outcomes.now c.in_err-played.field-0.0 c.in_err-played.ensures.refused)
