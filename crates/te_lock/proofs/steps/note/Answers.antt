use Rattle.std.proofs.Common.{arith}
use Rattle.te_lock.proofs.Noting.{notes}
use Rattle.te_lock.proofs.steps.note.Goals as goal

pub split_seat-requires : goal.split_seat-requires
split_seat-requires g c =
    let caller = c.requires.caller in
    (c.requires.here.0, omega arith, notes _ _ _ _ _ _ _ caller.0 caller.1)
