use Rattle.std.proofs.Common.{arith}
use Rattle.te_history.proofs.Places.{same_up_to}
use Rattle.te_report.proofs.judging.first_other.Goals as goal

pub returns-else-values-others-clause-none : goal.returns-else-values-others-clause-none
returns-else-values-others-clause-none c =
    let long = c.if-values-others.false in
    let past = c.loop-i-test.false in
    same_up_to c.args.others.now c.args.values.now c.loop-i.i (omega (arith, long, past)) past c.loop-i.invariant
