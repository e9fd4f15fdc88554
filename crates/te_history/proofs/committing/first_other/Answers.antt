use Rattle.std.proofs.Common.{arith}
use Rattle.te_history.proofs.Places.{same_up_to}
use Rattle.te_history.proofs.committing.first_other.Goals as goal

pub returns-else-played-outcomes-clause-none : goal.returns-else-played-outcomes-clause-none
returns-else-played-outcomes-clause-none c =
    let long = c.if-played-outcomes.false in
    let past = c.loop-i-test.false in
    same_up_to c.args.outcomes.now c.args.played.now c.loop-i.i (omega (arith, long, past)) past c.loop-i.invariant
