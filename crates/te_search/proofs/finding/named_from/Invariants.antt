use Rattle.std.proofs.Common.{take}
use Rattle.te_search.specs.Assemblies.{AreNone}
use Rattle.te_search.proofs.finding.named_from.Given as goal

abbrev pub invariant-places : goal.invariant-places
invariant-places l = AreNone (take l.i l.joined)
