use Rattle.std.proofs.Common.{sym, ◌∙◌, arith}
use Rattle.te_path.proofs.ValuesChained.{is_found, is_further}
use Rattle.te_path.proofs.values.ValueCells.find.Goals as goal

pub returns-then-cell-name : goal.returns-then-cell-name
returns-then-cell-name c =
    sym (is_found c.args.self.now c.cell.ensures.are c.loop-link.link c.in_ok-cell.cell.now c.args.name (λ e. omega (arith, c.loop-link-test.true))
    (sym c.in_ok-cell.ensures.value) c.if-cell-name.true)
    ∙ c.loop-link.invariant.as_far

pub loop-link-preserved : goal.loop-link-preserved
loop-link-preserved c = record {
  as_far = sym (is_further c.args.self.now c.cell.ensures.are c.loop-link.link c.in_ok-cell.cell.now c.args.name (λ e.
      omega (arith, c.loop-link-test.true)) (sym c.in_ok-cell.ensures.value) c.if-cell-name.false)
      ∙ c.loop-link.invariant.as_far;
}
