use Rattle.std.proofs.Common.{◌≡◌}
use Rattle.std.specs.Prelude.{slice_get}
use Rattle.te_path.specs.Chains.{inner_at}
use Rattle.te_path.proofs.values.ValueCells.find.Given as goal

abbrev pub invariant-loop-link : goal.invariant-loop-link
invariant-loop-link l = record {
  as_far : slice_get (inner_at l.self l.link) l.name ≡ slice_get (inner_at l.self l.top) l.name;
}

abbrev pub decreases-loop-link : goal.decreases-loop-link
decreases-loop-link l = l.link
