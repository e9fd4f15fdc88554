use Rattle.std.proofs.Common.{◌<◌, ◌≤◌, length, ap, sym, ◌∙◌, arith}
use Rattle.te_forms.proofs.RingsMade.{role_here, role_nowhere}
use Rattle.te_forms.proofs.ring.Ring.role_on.Goals as goal

pub returns-then-channel-clause-value : goal.returns-then-channel-clause-value
returns-then-channel-clause-value c =
    let long = ap length c.self.view_is in
    let lt : c.loop-role.role < length c.args.self.now = omega (arith, long, c.self.invariant.as_long, c.loop-role-test.true) in
    sym (role_here c.args.self.now c.args.channel c.loop-role.role lt c.loop-role.invariant (sym c.channel.ensures ∙ c.if-channel.true))

pub returns-clause-value : goal.returns-clause-value
returns-clause-value c =
    let long = ap length c.self.view_is in
    let past : length c.args.self.now ≤ c.loop-role.role = omega (arith, long, c.self.invariant.as_long, c.loop-role-test.false) in
    sym (role_nowhere c.args.self.now c.args.channel c.loop-role.role past c.loop-role.invariant)
