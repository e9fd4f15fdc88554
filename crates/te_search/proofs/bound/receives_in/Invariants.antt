use Rattle.std.proofs.Common.{◌≡◌, min, take}
use Rattle.te_terms.specs.Measures.{receive_count}
use Rattle.te_terms.specs.Joint.{as_group}
use Rattle.te_search.specs.Bounds.{over_all}
use Rattle.te_search.proofs.bound.receives_in.Given as goal

abbrev pub invariant-parked : goal.invariant-parked
invariant-parked l = l.receives ≡ min (over_all receive_count (as_group (take l.i l.parked))) 1000000
