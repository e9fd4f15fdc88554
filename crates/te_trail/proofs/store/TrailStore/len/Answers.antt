use Rattle.std.proofs.Common.{ap, ap₂, subst}
use Rattle.te_trail.specs.Stores.{IsStore}
use Rattle.te_trail.proofs.StoresHold.{is_store}
use Rattle.te_trail.proofs.store.TrailStore.len.Goals as goal

pub returns-clause-store : goal.returns-clause-store
returns-clause-store c = subst (λ t. IsStore t.events t.paths) c.self.view_is
    (is_store c.self.inside.events.items c.self.inside.cells c.self.inside.records.items c.self.inside.ticks.items
    c.self.invariant.kept)
