use Rattle.te_report.specs.FirstPlaces.{AreFirstPlaces}
use Rattle.te_report.proofs.indexed.places.Given as goal

abbrev pub invariant-names : goal.invariant-names
invariant-names l = AreFirstPlaces l.names l.likely
