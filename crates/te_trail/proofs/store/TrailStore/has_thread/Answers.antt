use Rattle.std.proofs.Common.{arith, ◌≤◌}
use Rattle.te_trail.specs.Walks.{IsNoEvent}
use Rattle.te_trail.proofs.NotMade.{none_more, absent_by}
use Rattle.te_trail.proofs.store.TrailStore.has_thread.Goals as goal

pub events-preserved : goal.events-preserved
events-preserved c = none_more (IsNoEvent c.args.self.now.events c.args.thread) c.events.i c.events.invariant (c.is_event_of.ensures c.if-is_event_of.false)

pub returns : goal.returns
returns c = λ e. absent_by c.args.self.now.events c.args.thread c.events.i (omega (arith, c.events-test.false, c.count_events-i-end.ensures, c.events.auto.i-end)) c.events.invariant
