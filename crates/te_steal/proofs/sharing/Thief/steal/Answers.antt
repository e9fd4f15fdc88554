use Rattle.std.proofs.Common.{inr, ap}
use Rattle.te_steal.proofs.RuleKept.{takes}
use Rattle.te_steal.proofs.sharing.Thief.steal.Goals as goal

pub steal_as-requires-clause-takes : goal.steal_as-requires-clause-takes
steal_as-requires-clause-takes c = takes _ _ (inr (ap (λ v. v.steals) c.tries.invariant.0.steals))
