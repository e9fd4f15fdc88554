use Rattle.std.proofs.Common.{inl}
use Rattle.te_steal.proofs.RuleKept.{takes, finds}
use Rattle.te_steal.proofs.sharing.Owner.pop.Goals as goal

pub pop_as-requires-clause-fifo : goal.pop_as-requires-clause-fifo
pop_as-requires-clause-fifo c fifo = takes _ _ (inl c.self.invariant.owns)

pub pop_as-requires-clause-empty : goal.pop_as-requires-clause-empty
pop_as-requires-clause-empty c = finds _ _
