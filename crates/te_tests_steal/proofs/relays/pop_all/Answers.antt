use Rattle.te_steal.proofs.SameParties.{owner_on}
use Rattle.te_tests_steal.proofs.relays.pop_all.Goals as goal

pub pops-preserved : goal.pops-preserved
pops-preserved c = owner_on _ _ _ c.pops.invariant c.in-Some.ensures.same
