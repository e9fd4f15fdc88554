use Rattle.te_steal.proofs.SameParties.{thief_on}
use Rattle.te_tests_steal.proofs.relays.steal_all.Goals as goal

pub steals-preserved : goal.steals-preserved
steals-preserved c = thief_on _ _ _ c.steals.invariant c.in-Some.ensures.same
