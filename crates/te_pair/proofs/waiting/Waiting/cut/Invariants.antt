use Rattle.std.proofs.Common.{◌≡◌, take, length}
use Rattle.te_pair.specs.Places.{IsPlaced}
use Rattle.te_pair.proofs.waiting.Waiting.cut.Given as goal

abbrev pub invariant-back : goal.invariant-back
invariant-back l = IsPlaced l.self-inside.kept.items l.self-inside.places × (take l.mark l.self-inside.kept.items ≡ take l.mark l.initial.self-inside.kept.items)

abbrev pub decreases-back : goal.decreases-back
decreases-back l = length l.self-inside.kept.items
