use Rattle.std.proofs.Common.{arith}
use Rattle.te_lock.proofs.Looking.{loads}
use Rattle.te_lock.proofs.steps.load.Goals as goal

pub load-requires : goal.load-requires
load-requires g c = (c.requires.here.0, omega arith, loads _ _ _ _ _ _ _ _ c.requires.idle)
