use Rattle.std.proofs.Common.{arith}
use Rattle.te_lock.proofs.Joining.{joins}
use Rattle.te_lock.proofs.steps.join.Goals as goal

pub join_seat-requires : goal.join_seat-requires
join_seat-requires g c =
    let caller = c.requires.caller in
    let r = c.requires in
    (r.here.0, r.there, r.idle.1, omega arith, joins _ _ _ _ _ _ _ caller.0 caller.1 _ _ r.no_maker r.not_spent r.idle.0)
