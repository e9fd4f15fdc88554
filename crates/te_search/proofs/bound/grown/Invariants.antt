use Rattle.std.proofs.Common.{◌≡◌, ◌*◌, ◌^◌, min, take}
use Rattle.te_terms.specs.Measures.{choice_count, send_count}
use Rattle.te_terms.specs.Joint.{as_group}
use Rattle.te_search.specs.Bounds.{over_all}
use Rattle.te_search.proofs.bound.grown.Given as goal

abbrev pub invariant-parked : goal.invariant-parked
invariant-parked l = l.product ≡ min (l.number * (3 ^ over_all choice_count (as_group (take l.i l.parked)) * l.factor ^ over_all send_count (as_group (take l.i l.parked)))) 1000001
