use Rattle.std.proofs.Common.{◌≡◌}
use Rattle.te_path.specs.Growth.{Grows}
use Rattle.te_path.specs.Origins.{origin_of}
use Rattle.te_path.specs.Places.{placed, IsPlace, nodes_left, Alike}
use Rattle.te_path.proofs.place.settle.Given as goal

abbrev pub invariant-all : goal.invariant-all
invariant-all l = record {
  place : IsPlace (origin_of l.posted) l.cells l.place;
  alike : Alike (placed (origin_of l.posted) l.initial.cells l.fn.from) (placed (origin_of l.posted) l.cells l.place);
  kept : l.spot ≡ l.initial.spot;
  grows : Grows l.initial.cells l.cells;
}

abbrev pub decreases-all : goal.decreases-all
decreases-all l = nodes_left l.posted.code.now l.cells l.place
