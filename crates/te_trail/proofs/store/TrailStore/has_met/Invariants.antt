use Rattle.te_trail.specs.Walks.{NoneBefore, IsNoMeeting}
use Rattle.te_trail.proofs.store.TrailStore.has_met.Given as goal

abbrev pub invariant-paths : goal.invariant-paths
invariant-paths l = NoneBefore (IsNoMeeting l.self.paths l.p l.q) l.k
