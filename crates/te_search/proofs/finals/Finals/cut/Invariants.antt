use Rattle.std.proofs.Common.{◌≡◌, take, length}
use Rattle.te_search.specs.Finals.{IsSorted}
use Rattle.te_search.proofs.finals.Finals.cut.Given as goal

abbrev pub invariant-back : goal.invariant-back
invariant-back l = IsSorted l.self-inside.kept.items l.self-inside.buckets.items × (take l.count l.self-inside.kept.items ≡ take l.count l.initial.self-inside.kept.items)

abbrev pub decreases-back : goal.decreases-back
decreases-back l = length l.self-inside.kept.items
