use Rattle.std.proofs.Common.{ap, ◌∙◌, sym, ◌≡◌, true, nat_eq, eq-eqb}
use Rattle.te_trail.specs.Trails.{Trail}
use Rattle.te_trail.proofs.CallsLeave.{event_there}
use Rattle.te_trail.proofs.NotMade.{event_thread, other_thread}
use Rattle.te_trail.proofs.store.TrailStore.is_event_of.Goals as goal

pub returns : goal.returns
returns c = λ e. other_thread c.self.inside.events.items c.args.self.now
    (ap (λ (t : Trail). t.events) c.self.view_is) c.args.i c.index.result.now c.args.thread
    (event_there c.self.inside.events.items c.self.inside.records.items c.self.inside.marks.items c.args.self.now
    c.self.view_is c.args.i c.index.result.now c.requires c.index.ensures) e
