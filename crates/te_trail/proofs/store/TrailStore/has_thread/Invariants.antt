use Rattle.te_trail.specs.Walks.{NoneBefore, IsNoEvent}
use Rattle.te_trail.proofs.store.TrailStore.has_thread.Given as goal

abbrev pub invariant-events : goal.invariant-events
invariant-events l = NoneBefore (IsNoEvent l.self.events l.thread) l.i
