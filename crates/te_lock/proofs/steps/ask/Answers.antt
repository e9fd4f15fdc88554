use Rattle.std.proofs.Common.{arith}
use Rattle.te_lock.proofs.Asking.{asks}
use Rattle.te_lock.proofs.steps.ask.Goals as goal

pub fetch_or-requires : goal.fetch_or-requires
fetch_or-requires g c =
    let caller = c.requires.caller in
    (c.requires.here.0, omega arith, asks _ _ _ _ _ _ _ _ caller.0 caller.1 c.requires.idle)
