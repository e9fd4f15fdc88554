use Rattle.std.proofs.Common.{◌≡◌, take}
use Rattle.te_search.proofs.kept.copies_of.Given as goal

abbrev pub invariant-parked : goal.invariant-parked
invariant-parked l = l.copies ≡ take l.i l.parked
