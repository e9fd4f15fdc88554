use Rattle.std.proofs.Common.{refl, arith}
use Rattle.te_history.proofs.Places.{same_up_to}
use Rattle.te_runtime.proofs.comparing.are_same.Goals as goal

pub returns : goal.returns
returns c =
    let long = c.if-ones-others.false in
    let past = c.loop-k-test.false in
    (λ yes. same_up_to c.args.ones.now c.args.others.now c.loop-k.k (omega (arith, past)) (omega (arith, long, past)) c.loop-k.invariant, λ same. refl)
