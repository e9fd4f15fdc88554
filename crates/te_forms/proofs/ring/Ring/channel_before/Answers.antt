use Rattle.te_forms.proofs.RingsMade.{first_before}
use Rattle.te_forms.proofs.ring.Ring.channel_before.Goals as goal

pub returns-then-role-eq0 : goal.returns-then-role-eq0
returns-then-role-eq0 c = first_before c.args.self.now c.args.role c.last.result c.if-role-eq0.true c.last.ensures
