use Rattle.te_trail.specs.Walks.{NoneBefore, IsNoBranch}
use Rattle.te_trail.proofs.store.TrailStore.has_branched.Given as goal

abbrev pub invariant-paths : goal.invariant-paths
invariant-paths l = NoneBefore (IsNoBranch l.self.paths l.p l.left) l.k
