use Rattle.std.proofs.Common.{◌≡◌, take, false}
use Rattle.te_search.specs.Plantings.{has_number}
use Rattle.te_search.proofs.planted.place_of.Given as goal

abbrev pub invariant-threads : goal.invariant-threads
invariant-threads l = has_number (take l.i l.threads) l.thread ≡ false
