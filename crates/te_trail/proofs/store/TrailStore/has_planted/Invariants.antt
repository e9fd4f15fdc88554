use Rattle.te_trail.specs.Walks.{NoneBefore, IsNoPlanting}
use Rattle.te_trail.proofs.store.TrailStore.has_planted.Given as goal

abbrev pub invariant-paths : goal.invariant-paths
invariant-paths l = NoneBefore (IsNoPlanting l.self.paths l.thread) l.k
