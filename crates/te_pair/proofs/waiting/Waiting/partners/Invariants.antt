use Rattle.std.proofs.Common.{take}
use Rattle.te_trail.specs.Trails.{AreAgreeing}
use Rattle.te_pair.proofs.PartnersFound.{Picks}
use Rattle.te_pair.proofs.waiting.Waiting.partners.Given as goal

abbrev pub invariant-ends : goal.invariant-ends
invariant-ends l = Picks (AreAgreeing l.store l.p) (take l.i l.ends) l.found.items
