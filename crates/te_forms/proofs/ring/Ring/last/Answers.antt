use Rattle.std.proofs.Common.{◌≡◌, length, ap, ◌∙◌, arith}
use Rattle.te_forms.proofs.RingsMade.{last_of}
use Rattle.te_forms.proofs.ring.Ring.last.Goals as goal

pub channel-requires : goal.channel-requires
channel-requires c = let long = ap length c.self.view_is in omega (arith, long, c.self.invariant.as_long, c.self.invariant.ring.some)

pub returns : goal.returns
returns c =
    let long = ap length c.self.view_is in
    let same : c.self.inside.len ≡ length c.args.self.now = omega (arith, long, c.self.invariant.as_long) in
    c.channel.ensures ∙ last_of c.args.self.now c.self.inside.len same
