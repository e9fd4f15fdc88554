use Rattle.std.proofs.Common.{arith}
use Rattle.te_terms.proofs.Measured.{weights_are_nodes}
use Rattle.te_terms.proofs.event.Event.weight.Goals as goal

pub overflow_add-result : goal.overflow_add-result
overflow_add-result c =
    omega (arith, c.counts-counts.ensures.sum, c.counts-counts.ensures.limits.few, weights_are_nodes 1 1 1 (omega arith) (omega arith) (omega arith) c.args.self.now)

pub overflow_add-result-2 : goal.overflow_add-result-2
overflow_add-result-2 c =
    omega (arith, c.counts-counts.ensures.sum, c.counts-counts.ensures.limits.few, weights_are_nodes 1 1 1 (omega arith) (omega arith) (omega arith) c.args.self.now)
