use Rattle.std.proofs.Common.{ap, arith}
use Rattle.te_script.specs.Cores.{emits_in}
use Rattle.te_script.proofs.EmitsDone.{statements_from, nothing_from}
use Rattle.te_script.proofs.wish.emits_among.Goals as goal
use Rattle.te_script.proofs.wish.emits_among.Goals.{in-Emit, in-Sync, in-Repeat}

pub loop-stmt-preserved : goal.loop-stmt-preserved
loop-stmt-preserved c =
    let here = ap emits_in (statements_from c.args.stmts.now c.loop-stmt.stmt-index c.stmt-item.result c.loop-stmt-test.true c.stmt-item.is) in
    elim c.match-stmt.branch [
      | in-Emit w ↦ let e = rw w.in-Emit.is at here in record { counted = omega (arith, e, w.count-is); within = omega (arith, w.count-is) }
      | in-Sync w ↦ let e = rw w.in-Sync.is at here in record { counted = omega (arith, e, w.count-is); within = omega (arith, w.count-is) }
      | in-Repeat w ↦ let e = rw w.in-Repeat.is at here in record { counted = omega (arith, e, w.count-is); within = omega (arith, w.count-is) }
    ]

pub returns : goal.returns
returns c = omega (arith, ap emits_in (nothing_from c.args.stmts.now c.loop-stmt.stmt-index c.loop-stmt-test.false))
