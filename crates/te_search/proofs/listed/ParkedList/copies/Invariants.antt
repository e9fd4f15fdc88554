use Rattle.std.proofs.Common.{◌≡◌, take}
use Rattle.te_search.proofs.listed.ParkedList.copies.Given as goal

abbrev pub invariant-parked : goal.invariant-parked
invariant-parked l = l.parked.items ≡ take l.i l.self
