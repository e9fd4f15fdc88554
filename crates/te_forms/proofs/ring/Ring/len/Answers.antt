use Rattle.std.proofs.Common.{length, ap, subst, arith}
use Rattle.te_forms.specs.Rings.{IsRing}
use Rattle.te_forms.proofs.ring.Ring.len.Goals as goal

pub returns-clause-value : goal.returns-clause-value
returns-clause-value c = let long = ap length c.self.view_is in omega (arith, long, c.self.invariant.as_long)

pub returns-clause-ring : goal.returns-clause-ring
returns-clause-ring c = subst IsRing c.self.view_is c.self.invariant.ring
