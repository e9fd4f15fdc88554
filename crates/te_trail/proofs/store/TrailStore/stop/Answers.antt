use Rattle.std.proofs.Common.{◌≡◌, Some, ℕ, ap, ◌∙◌, sym, arith, subst}
use Rattle.te_terms.specs.Steps.{Member}
use Rattle.te_path.specs.declared.spot.Stop.{Stop}
use Rattle.te_path.specs.Paths.{StandsAt}
use Rattle.te_trail.specs.declared.store.PathRecord.{PathRecord}
use Rattle.te_trail.specs.Paths.{Path}
use Rattle.te_trail.specs.States.{path_state}
use Rattle.te_trail.specs.Trails.{Trail, IsStop}
use Rattle.te_trail.proofs.RecordsRead.{record_there}
use Rattle.te_trail.proofs.StoresHold.{Standing, standing, stop_told, stop_only}
use Rattle.te_trail.proofs.store.TrailStore.stop.Goals as goal

pub returns-clause-told : goal.returns-clause-told
returns-clause-told c = stop_told c.self.inside.events.items c.self.inside.records.items c.args.self.now c.args.p c.index.result.now c.stop.result
    (standing c.self.inside.events.items c.self.inside.cells c.self.inside.records.items c.self.inside.ticks.items
    c.self.invariant.kept c.args.p c.index.result.now (record_there c.self.inside.records.items c.args.self.now.paths
    c.args.p c.index.result.now (ap (λ t. t.paths) c.self.view_is) c.requires c.index.ensures))
    (ap (λ t. t.events) c.self.view_is) (ap (λ t. t.paths) c.self.view_is) c.stop.ensures

pub returns-clause-only : goal.returns-clause-only
returns-clause-only c = stop_only c.self.inside.events.items c.self.inside.records.items c.args.self.now c.args.p c.index.result.now c.stop.result
    (standing c.self.inside.events.items c.self.inside.cells c.self.inside.records.items c.self.inside.ticks.items
    c.self.invariant.kept c.args.p c.index.result.now (record_there c.self.inside.records.items c.args.self.now.paths
    c.args.p c.index.result.now (ap (λ t. t.paths) c.self.view_is) c.requires c.index.ensures))
    (ap (λ t. t.events) c.self.view_is) (ap (λ t. t.paths) c.self.view_is) c.stop.ensures
