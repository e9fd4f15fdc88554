use Rattle.std.proofs.Common.{arith}
use Rattle.te_lock.proofs.Looking.{confirms}
use Rattle.te_lock.proofs.steps.confirm.Goals as goal

pub load-requires : goal.load-requires
load-requires g c = (c.requires.here.0, omega arith, confirms _ _ _ _ _ _ _ _)
