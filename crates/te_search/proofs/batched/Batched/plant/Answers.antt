use Rattle.std.proofs.Common.{arith, ◌≡◌, ◌∙◌, ap, sym, subst, refl, length, slice_get, Some}
use Rattle.te_terms.specs.Joint.{as_member}
use Rattle.te_trail.specs.Paths.{planted}
use Rattle.te_trail.specs.Stores.{Holds}
use Rattle.te_search.proofs.BatchesTaken.{next_new, next_unplanted, event_at, planted_so_far, starts_more}
use Rattle.te_search.proofs.CappedCounts.{as_long}
use Rattle.te_search.proofs.batched.Batched.plant.Goals as goal

pub overflow_cast-event : goal.overflow_cast-event
overflow_cast-event c =
    let l : length c.args.self.now.work.store.paths ≡ c.args.i = planted_so_far c.args.self.now c.args.i
    c.requires.starting (omega (arith, c.requires.place)) in
    omega (arith, l, c.requires.starting.budget.1, c.requires.room)

pub push-requires : goal.push-requires
push-requires c = next_new c.args.self.now c.args.i c.at-parked.result.now c.requires.starting c.at-parked.ensures

pub plant-requires-clause-event : goal.plant-requires-clause-event
plant-requires-clause-event c =
    let e : length c.args.self.now.work.store.events ≡ length c.args.self.now.parked = ap length
    c.requires.starting.events ∙ as_long c.args.self.now.parked in
    omega (arith, e, c.requires.place)

pub plant-requires-clause-room : goal.plant-requires-clause-room
plant-requires-clause-room c = omega (arith, c.requires.starting.budget.1, c.requires.room)

pub plant-requires-clause-unplanted : goal.plant-requires-clause-unplanted
plant-requires-clause-unplanted c m e =
    let there = ap (λ g. slice_get g c.args.i) c.requires.starting.events
    ∙ event_at c.args.self.now.parked c.args.i c.at-parked.result.now c.at-parked.ensures in
    let one : as_member c.at-parked.result.now ≡ m = (let two : Some
    (as_member c.at-parked.result.now) ≡ Some m = sym there ∙ e in cc) in
    subst (λ k. ¬ Holds c.args.self.now.work.store.paths (planted k.thread)) one
    (next_unplanted c.args.self.now c.args.i c.at-parked.result.now c.requires.starting c.at-parked.ensures)

pub returns-clause-ok : goal.returns-clause-ok
returns-clause-ok c = starts_more c.args.self.now _ c.args.i c.at-parked.result.now c.requires.starting
    c.at-parked.ensures c.requires.room refl c.in_ok-push.ensures.ok
    (c.in_ok-plant.ensures.ok (as_member c.at-parked.result.now)
    (ap (λ g. slice_get g c.args.i) c.requires.starting.events
    ∙ event_at c.args.self.now.parked c.args.i c.at-parked.result.now c.at-parked.ensures))
    c.len-paths.ensures.store c.in_ok-push-2.ensures.items refl refl refl refl refl refl refl
