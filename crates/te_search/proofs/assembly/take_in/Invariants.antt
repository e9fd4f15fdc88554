use Rattle.std.proofs.Common.{◌≡◌, length}
use Rattle.te_search.specs.Assemblies.{AreNumbers}
use Rattle.te_search.proofs.Trying.{TakesTo}
use Rattle.te_search.proofs.assembly.take_in.Given as goal

abbrev pub invariant-places : goal.invariant-places
invariant-places l = (length l.more.items ≡ l.i) × AreNumbers l.store.paths l.more.items × TakesTo l.store.paths l.threads l.p l.joined l.more.items l.i
