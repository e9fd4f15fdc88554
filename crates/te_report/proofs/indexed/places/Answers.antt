use Rattle.std.proofs.Common.{◌≡◌, sym, subst}
use Rattle.te_report.specs.FirstPlaces.{AreFirstPlaces}
use Rattle.te_report.proofs.PlacesIndexed.{none_told, one_told}
use Rattle.te_report.proofs.indexed.places.Goals as goal
use Rattle.te_report.proofs.indexed.places.Goals.{then-is_first, else-is_first}

pub names-init : goal.names-init
names-init c = none_told c.args.names.now 256

pub names-preserved : goal.names-preserved
names-preserved c = elim c.if-is_first.branch [
  | then-is_first w ↦ subst (AreFirstPlaces c.args.names.now) (sym w.likely-is)
      (one_told c.args.names.now c.names.likely w.slot.result c.names.place c.names.invariant (c.is_first.ensures w.if-is_first.true))
  | else-is_first w ↦ subst (AreFirstPlaces c.args.names.now) (sym w.likely-is) c.names.invariant
]
