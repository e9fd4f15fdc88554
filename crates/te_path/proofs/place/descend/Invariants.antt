use Rattle.te_path.specs.Growth.{Grows}
use Rattle.te_path.specs.Origins.{origin_of}
use Rattle.te_path.specs.Places.{placed, nodes_left}
use Rattle.te_path.specs.Wents.{ComesOn}
use Rattle.te_path.proofs.place.descend.Given as goal

abbrev pub invariant-down : goal.invariant-down
invariant-down l = record {
  on : ComesOn (origin_of l.posted) (placed (origin_of l.posted) l.initial.cells l.fn.from) (nodes_left l.posted.code.now l.initial.cells l.fn.from) l.cells l.place;
  grows : Grows l.initial.cells l.cells;
}

abbrev pub decreases-down : goal.decreases-down
decreases-down l = nodes_left l.posted.code.now l.cells l.place
