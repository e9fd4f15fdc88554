use Rattle.std.proofs.Common.{◌≡◌, ℕ, ◌+◌, ◌-◌, ◌<◌, List, [], ◌∷◌, ◌++◌, length, map, take, set, length-set, sym, ◌∙◌, ap, arith}
use Rattle.std.specs.Prelude.{Some}
use Rattle.std.proofs.lemmas.Result.{err_from_is_err_and}
use Rattle.std.proofs.lemmas.List.{take_more_set, map-append}
use Rattle.te_terms.specs.declared.expr.Calc.{Calc}
use Rattle.te_terms.specs.Codes.{calculation_of}
use Rattle.te_reader.specs.ExpressionReads.{read_calculation}
use Rattle.te_reader.proofs.PassedOn.{passed_on}
use Rattle.te_reader.proofs.CalculationSteps.{no_calculation, last_calculation, no_comma, more_calculations, no_more}
use Rattle.te_reader.proofs.expression.read_calculations.Goals as goal

-- the calculations of the first places, with one more
stored : (list : List Calc) (i : ℕ) (p : Calc) → i < length list → map calculation_of (take (i + 1) (set list i p)) ≡ map calculation_of (take i list) ++ calculation_of p ∷ []
stored list i p h = rw (take_more_set list i p h) (map-append calculation_of (take i list) (p ∷ []))

pub returns-in_err-calculation : goal.returns-in_err-calculation
returns-in_err-calculation c =
    let p = err_from_is_err_and c.from_residual.result c.from_residual.ensures.1 in
    rw (p.1, p.2)
    (passed_on _ calculation_of _ c.loop-i.cursor c.read_calculation.new.cursor _ _ (read_calculation c.args.names.now c.loop-i.cursor.tokens) _ c.in_err-calculation.ensures
    (no_calculation 4 c.loop-i.i _ _ _ _ c.loop-i-test.true c.loop-i.invariant.0))

pub returns-in-Some : goal.returns-in-Some
returns-in-Some c =
    let at : c.loop-i.i < length c.loop-i.list = omega (arith, c.loop-i.invariant.2) in (
      last_calculation 4 c.loop-i.i _ _ _ _ c.loop-i-test.true c.loop-i.invariant.0 _ _ c.in_ok-calculation.ensures.0 _ c.if-take_sign.ensures.0
          ∙ ap (λ xs. Some (xs, c.take_sign.new.self.tokens)) (sym (ap (map calculation_of) c.in-Some.ensures.some ∙ stored c.loop-i.list c.loop-i.i c.in_ok-calculation.calculation at)),
      c.if-take_sign.ensures.1 ∙ c.in_ok-calculation.ensures.1 ∙ c.loop-i.invariant.1,
    )

pub returns-then-not-take_sign : goal.returns-then-not-take_sign
returns-then-not-take_sign c =
    no_comma 4 c.loop-i.i _ _ _ _ c.loop-i-test.true c.loop-i.invariant.0 _ _ c.in_ok-calculation.ensures.0 c.if-take_sign.ensures.0 (rw c.if-take_sign.ensures.1 at c.if-not-take_sign.ensures.0)

pub loop-i-preserved : goal.loop-i-preserved
loop-i-preserved c =
    let at : c.loop-i.i < length c.loop-i.list = omega (arith, c.loop-i.invariant.2) in (
      (rw (stored c.loop-i.list c.loop-i.i c.in_ok-calculation.calculation at)
          (more_calculations 4 c.loop-i.i _ _ _ _ c.loop-i-test.true c.loop-i.invariant.0 _ _
          c.in_ok-calculation.ensures.0 _ c.if-take_sign.ensures.0
          (rw c.if-take_sign.ensures.1 at c.if-not-take_sign.ensures.0))),
      c.if-not-take_sign.ensures.1 ∙ ap (λ s. s.whole) c.if-take_sign.ensures.1 ∙ c.in_ok-calculation.ensures.1 ∙ c.loop-i.invariant.1,
      length-set c.loop-i.list c.loop-i.i (c.in_ok-calculation.calculation) ∙ c.loop-i.invariant.2,
    )

pub returns : goal.returns
returns c = no_more _ _ _ _ (4 - c.loop-i.i) (omega arith) c.loop-i.invariant.0
