use Rattle.te_search.proofs.Trying.{LinesTo}
use Rattle.te_search.proofs.assembly.is_lined.Given as goal

abbrev pub invariant-places : goal.invariant-places
invariant-places l = LinesTo l.store.paths l.threads l.p l.joined l.i
