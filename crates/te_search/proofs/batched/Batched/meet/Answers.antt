use Rattle.std.proofs.Common.{arith, ◌≡◌, Bool, true, false, refl, slice_get, Some}
use Rattle.te_trail.specs.Paths.{Path}
use Rattle.te_path.specs.declared.spot.Stop.TheVariants as stops
use Rattle.te_pair.specs.declared.end.End.{End}
use Rattle.te_pair.proofs.EndsTold.{Seen, some_end}
use Rattle.te_search.specs.Batching.{MeetsThese}
use Rattle.te_search.proofs.Working.{on_ok}
use Rattle.te_search.proofs.Ending.{stop_waits}
use Rattle.te_search.proofs.BatchSteps.{meets_these}
use Rattle.te_search.proofs.batched.Batched.meet.Goals as goal

pub stop-requires : goal.stop-requires
stop-requires c = omega (arith, c.requires.some, c.requires.batched.opened.last)

pub meet_each-requires-clause-stands : goal.meet_each-requires-clause-stands
meet_each-requires-clause-stands c x ex = (
  c.in-Send.field-0,
  stop_waits c.args.self.now.work c.args.self.now.applied
      (stops.Send c.in-Send.field-0 c.in-Send.field-1) c.in-Send.field-0 true c.in-Send.ensures.told
      (λ t h. (record { channel = c.in-Send.field-0; value = c.in-Send.field-1 }, h, refl)) x ex,
)

pub meet_each-requires-in-Recv-clause-stands : goal.meet_each-requires-in-Recv-clause-stands
meet_each-requires-in-Recv-clause-stands c x ex = (
  c.in-Recv.field-0,
  stop_waits c.args.self.now.work c.args.self.now.applied
      (stops.Recv c.in-Recv.field-0) c.in-Recv.field-0 false c.in-Recv.ensures.told (λ t h. h) x ex,
)

pub returns-in-Send-clause-ok : goal.returns-in-Send-clause-ok
returns-in-Send-clause-ok c = on_ok _
    ((x : Path) → slice_get c.args.self.now.work.store.paths c.args.self.now.applied ≡ Some x
    → MeetsThese c.args.self.now c.meet_each.new.self x c.args.others.now) c.meet_each.result
    (λ g x ex. meets_these c.args.self.now c.meet_each.new.self x c.args.others.now c.in-Send.field-0 true
    (stop_waits c.args.self.now.work c.args.self.now.applied
    (stops.Send c.in-Send.field-0 c.in-Send.field-1) c.in-Send.field-0 true c.in-Send.ensures.told
    (λ t h. (record { channel = c.in-Send.field-0; value = c.in-Send.field-1 }, h, refl)) x ex)
    (g x ex)) c.meet_each.ensures.ok

pub returns-in-Recv-clause-ok : goal.returns-in-Recv-clause-ok
returns-in-Recv-clause-ok c = on_ok _
    ((x : Path) → slice_get c.args.self.now.work.store.paths c.args.self.now.applied ≡ Some x
    → MeetsThese c.args.self.now c.meet_each-in-Recv.new.self x c.args.others.now)
    c.meet_each-in-Recv.result
    (λ g x ex. meets_these c.args.self.now c.meet_each-in-Recv.new.self x c.args.others.now c.in-Recv.field-0 false
    (stop_waits c.args.self.now.work c.args.self.now.applied
    (stops.Recv c.in-Recv.field-0) c.in-Recv.field-0 false c.in-Recv.ensures.told (λ t h. h) x ex)
    (g x ex)) c.meet_each-in-Recv.ensures.ok

pub unreachable-requires : goal.unreachable-requires
unreachable-requires c = by (some_end c.args.self.now.work.store c.args.self.now.applied c.stop.result
    (omega (arith, c.requires.some, c.requires.batched.opened.last)) c.requires.look.0 c.stop.ensures.told
    c.stop.ensures.only)
  where
    side : (e : End) (s : Bool) → e.sends ≡ s → Seen e c.stop.result → ⊥
    side e true is h = c.in_default.not-Send e.channel (h.sends is).0 (h.sends is).1
    side e false is h = c.in_default.not-Recv e.channel (h.receives is)

    by : (e : End) × (e.path ≡ c.args.self.now.applied) × Seen e c.stop.result → ⊥
    by (e, is, h) = side e e.sends refl h
