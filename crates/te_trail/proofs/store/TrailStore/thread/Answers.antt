use Rattle.std.proofs.Common.{ap}
use Rattle.te_trail.proofs.ClocksWalk.{known}
use Rattle.te_trail.proofs.store.TrailStore.thread.Goals as goal

pub returns : goal.returns
returns c = (known c.self.inside.records.items c.self.inside.ticks.items c.args.self.now.paths c.self.invariant.kept.fit
    (ap (λ t. t.paths) c.self.view_is) c.args.p c.index.result.now c.requires c.index.ensures).thread
