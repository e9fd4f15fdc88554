use Rattle.std.proofs.Common.{None, Some, ap, ◌∙◌}
use Rattle.te_terms.proofs.Lists.{get_at}
use Rattle.te_search.proofs.PastsBegin.{none_next}
use Rattle.te_search.proofs.finding.named_from.Goals as goal

pub places-preserved : goal.places-preserved
places-preserved c = none_next c.args.joined.now c.places.i (get_at c.args.joined.now c.places.i None c.places-test.true ∙ ap Some c.in-None.is) c.places.invariant
