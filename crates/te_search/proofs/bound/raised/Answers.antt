use Rattle.std.proofs.Common.{◌*◌, min, ap, ◌∙◌}
use Rattle.te_search.proofs.CappedCounts.{one_power_more}
use Rattle.te_search.proofs.bound.raised.Goals as goal

pub times-preserved : goal.times-preserved
times-preserved c = c.min-product.ensures ∙ ap (λ n. min (n * c.args.factor) 1000001) c.times.invariant ∙ one_power_more c.args.number c.args.factor c.times.counter 1000001
