use Rattle.te_reader.proofs.PlaceLemmas.{IsPlaceBehind}
use Rattle.te_reader.proofs.place.place_behind.Given as goal

abbrev pub invariant-loop-b : goal.invariant-loop-b
invariant-loop-b l = IsPlaceBehind l.b-index l.before l.line l.column
