use Rattle.std.proofs.Common.{sym, subst}
use Rattle.te_pair.specs.Places.{IsPlaced}
use Rattle.te_pair.proofs.PlacesKeep.{placed_none}
use Rattle.te_pair.proofs.waiting.Waiting.new.Goals as goal

pub invariant_of-result : goal.invariant_of-result
invariant_of-result c = subst (λ kept. IsPlaced kept c.new-2.result) (sym c.new.ensures.items) (placed_none c.new-2.result c.new-2.ensures)
