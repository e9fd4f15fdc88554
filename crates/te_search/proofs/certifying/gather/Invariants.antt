use Rattle.std.proofs.Common.{map, take}
use Rattle.te_trail.specs.Trails.{label_of}
use Rattle.te_search.specs.Picks.{AreGathered}
use Rattle.te_search.proofs.certifying.gather.Given as goal

abbrev pub invariant-parked : goal.invariant-parked
invariant-parked l = AreGathered l.store.events l.store.paths l.threads l.joined (map label_of l.word) (take l.i l.parked) l.gathered
