use Rattle.std.proofs.Common.{sym, ◌∙◌, arith}
use Rattle.std.proofs.lemmas.Option.{slice_get_within}
use Rattle.te_path.proofs.FramesChained.{is_taken, is_passed}
use Rattle.te_path.proofs.frames.FrameCells.unwind.Goals as goal

pub returns-then-takes-clause-unwinds : goal.returns-then-takes-clause-unwinds
returns-then-takes-clause-unwinds c =
    is_taken c.args.self.now c.cell.ensures.are.linked c.args.outcome.now c.loop-link.link c.in_ok-frame.frame (λ e.
    omega (arith, c.loop-link-test.true)) (sym c.in_ok-frame.ensures.value) (sym c.takes.ensures ∙ c.if-takes.true)
    ∙ c.loop-link.invariant.as_far

pub loop-link-preserved : goal.loop-link-preserved
loop-link-preserved c = record {
  as_far = sym (is_passed c.args.self.now c.cell.ensures.are.linked c.args.outcome.now c.loop-link.link c.in_ok-frame.frame (λ e.
      omega (arith, c.loop-link-test.true)) (sym c.in_ok-frame.ensures.value) (sym c.takes.ensures ∙ c.if-takes.false))
      ∙ c.loop-link.invariant.as_far;
}

pub returns-then-takes-clause-within : goal.returns-then-takes-clause-within
returns-then-takes-clause-within c =
    omega (arith, c.cell.ensures.are.linked _ c.in_ok-frame.frame (sym c.in_ok-frame.ensures.value), slice_get_within c.args.self.now _ c.in_ok-frame.frame (sym c.in_ok-frame.ensures.value))
