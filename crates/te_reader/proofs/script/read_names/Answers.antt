use Rattle.std.proofs.Common.{[], ◌∷◌, length, sym, ◌∙◌, ap, arith, length-append}
use Rattle.std.proofs.lemmas.Result.{err_from_is_err_and}
use Rattle.te_reader.specs.NameReads.{declared_in}
use Rattle.te_reader.proofs.PassedOn.{declared_on}
use Rattle.te_reader.proofs.NameLemmas.{declared}
use Rattle.te_reader.proofs.LoopSteps.{names_end, names_no_end, names_refused, names_more}
use Rattle.te_reader.proofs.script.read_names.Goals as goal

pub names-smaller : goal.names-smaller
names-smaller c =
    let d = declared 256 _ _ _ c.in_ok-channels.ensures in
    omega (arith, d.room, ap length d.appended, length-append c.names.channels (c.in-Some.name.now ∷ []))

pub names-preserved : goal.names-preserved
names-preserved c = (sym (names_more _ _ _ _ _ c.in-Some.ensures.name.0 c.in_ok-channels.ensures) ∙ c.names.invariant.0, c.in-Some.ensures.name.1 ∙ c.names.invariant.1)

pub returns-in_err-channels : goal.returns-in_err-channels
returns-in_err-channels c =
    let p = err_from_is_err_and c.from_residual.result c.from_residual.ensures.1 in
    rw (p.1, p.2)
    (declared_on _ _ _ _ (declared_in 256 c.names.channels c.in-Some.name.now) _ c.in_err-channels.ensures
    (λ none. sym c.names.invariant.0 ∙ names_refused _ _ _ _ _ c.in-Some.ensures.name.0 none))

pub returns-then-not-take_sign : goal.returns-then-not-take_sign
returns-then-not-take_sign c = sym c.names.invariant.0 ∙ names_no_end _ _ _ c.in_default.ensures.name.0 (rw c.in_default.ensures.name.1 at c.if-not-take_sign.ensures.0)

pub returns : goal.returns
returns c = (
  sym c.names.invariant.0 ∙ names_end _ _ _ _ c.in_default.ensures.name.0 (rw c.in_default.ensures.name.1 at c.if-not-take_sign.ensures.0),
  c.if-not-take_sign.ensures.1 ∙ ap (λ s. s.whole) c.in_default.ensures.name.1 ∙ c.names.invariant.1,
)
