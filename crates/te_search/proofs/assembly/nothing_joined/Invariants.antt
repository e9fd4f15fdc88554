use Rattle.std.proofs.Common.{◌≡◌, length}
use Rattle.te_search.specs.Assemblies.{AreNone}
use Rattle.te_search.proofs.assembly.nothing_joined.Given as goal

abbrev pub invariant-threads : goal.invariant-threads
invariant-threads l = (length l.joined.items ≡ l.counter) × AreNone l.joined.items
