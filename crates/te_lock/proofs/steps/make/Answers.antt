use Rattle.std.proofs.Common.{arith}
use Rattle.te_lock.proofs.Making.{makes}
use Rattle.te_lock.proofs.steps.make.Goals as goal

pub split_seat-requires : goal.split_seat-requires
split_seat-requires g c =
    let n = c.requires.fewer in
    (c.requires.here.0, omega arith, makes _ _ _ _ _ _ n.0 _ n.1 n.2)
