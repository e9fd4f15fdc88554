use Rattle.std.proofs.Common.{ap, arith, ◌≡◌, ◌∙◌, sym, subst}
use Rattle.te_trail.specs.Ticks.{named, ticks_of}
use Rattle.te_trail.specs.Trails.{IsClock}
use Rattle.te_trail.proofs.ClocksWalk.{IsKnown, known}
use Rattle.te_trail.proofs.store.TrailStore.clock.Goals as goal

pub slice_bounds-path_of-end : goal.slice_bounds-path_of-end
slice_bounds-path_of-end c = let w = (known c.self.inside.records.items c.self.inside.ticks.items c.args.self.now.paths
    c.self.invariant.kept.fit (ap (λ t. t.paths) c.self.view_is) c.args.p c.index.result.now c.requires
    c.index.ensures).within in omega (arith, w, c.deref.ensures.len)

pub returns : goal.returns
returns c = subst (IsClock c.args.self.now.paths c.args.p c.args.thread)
    (sym (c.path_of.ensures ∙ ap (λ ts. named c.args.thread (ticks_of ts c.index.result.now.clock))
    c.deref.ensures.value)) (λ x ex. (k.clocked x ex).clock c.args.thread)
  where
    k : IsKnown c.self.inside.records.items c.self.inside.ticks.items c.args.self.now.paths c.args.p c.index.result.now
    k = known c.self.inside.records.items c.self.inside.ticks.items c.args.self.now.paths c.self.invariant.kept.fit
        (ap (λ t. t.paths) c.self.view_is) c.args.p c.index.result.now c.requires c.index.ensures
