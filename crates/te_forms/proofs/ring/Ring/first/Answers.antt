use Rattle.std.proofs.Common.{arith}
use Rattle.te_forms.proofs.ring.Ring.first.Goals as goal

pub channel-requires : goal.channel-requires
channel-requires c = omega (arith, c.len.ensures.ring.some)
