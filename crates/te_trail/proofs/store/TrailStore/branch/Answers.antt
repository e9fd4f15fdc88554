use Rattle.std.proofs.Common.{◌≡◌, ◌<◌, ◌≤◌, ap, ap₂, ◌∙◌, sym, subst, refl, length, ◌++◌, ◌∷◌, [], ◌+◌, Some, None, slice_get, get_or, take, arith, rules, vec_len, List, ℕ}
use Rattle.te_terms.specs.Steps.{Member}
use Rattle.te_terms.specs.Joint.{after_choice}
use Rattle.te_path.specs.declared.cells.Cells.{Cells}
use Rattle.te_path.specs.Paths.{StepsTo, IsChoice}
use Rattle.te_path.specs.Spots.{spelled, IsSpot}
use Rattle.te_path.proofs.Growing.{spelled_grown, spot_grown}
use Rattle.te_trail.specs.declared.planned.Planned.{Planned}
use Rattle.te_trail.specs.declared.store.PathRecord.{PathRecord}
use Rattle.te_trail.specs.declared.store.StoreMark.{StoreMark}
use Rattle.te_trail.specs.Trails.{Trail, FaceEachOther}
use Rattle.te_trail.specs.Records.{StoreIsWhole, SpotSpells, BothMet, origin_at}
use Rattle.te_terms.proofs.Lists.{get_low, found_here}
use Rattle.te_trail.proofs.StoresKeep.{whole_grown, whole_put, whole_marked, spells_grown}
use Rattle.te_trail.proofs.SpotsMove.{SpellsAt, spells_at, spells_low, choice_stop, send_stop, both_met}
use Rattle.te_trail.proofs.CallsLeave.{viewed, plant_leaves, PathThere, path_there, path_chooses, branch_leaves}
use Rattle.te_trail.proofs.CallsLeave.{paths_face, one_member, meet_leaves, mark_view, cut_done, event_there, on_one}
use Rattle.te_trail.proofs.CallsLeave.{on_two, kept_so}
use Rattle.te_trail.proofs.store.TrailStore.branch.Goals as goal

pub index-event-requires : goal.index-event-requires
index-event-requires c =
    let t : PathThere c.self.inside.events.items c.self.inside.cells c.self.inside.records.items
    c.self.inside.ticks.items c.args.p c.index-parent.result.now =
    path_there c.self.inside.events.items c.self.inside.cells c.self.inside.records.items
    c.self.inside.ticks.items c.self.inside.marks.items c.args.self.now c.self.invariant c.self.view_is c.args.p
    c.index-parent.result.now c.requires.path c.index-parent.ensures in
    let count : vec_len c.self.inside.events ≡ length c.self.inside.events.items = search rules in
    omega (arith, count, spells_low c.self.inside.events.items c.self.inside.cells c.index-parent.result.now.event c.index-parent.result.now.spot t.stands.member t.stands.spot)

pub choose-requires-clause-spot : goal.choose-requires-clause-spot
choose-requires-clause-spot c =
    let t : PathThere c.self.inside.events.items c.self.inside.cells c.self.inside.records.items
    c.self.inside.ticks.items c.args.p c.index-parent.result.now =
    path_there c.self.inside.events.items c.self.inside.cells c.self.inside.records.items
    c.self.inside.ticks.items c.self.inside.marks.items c.args.self.now c.self.invariant c.self.view_is c.args.p
    c.index-parent.result.now c.requires.path c.index-parent.ensures in
    (spells_at c.self.inside.events.items c.self.inside.cells c.index-parent.result.now.event
    c.index-parent.result.now.spot t.stands.member c.index-event.result.now t.stands.spot
    (found_here c.self.inside.events.items c.index-parent.result.now.event c.index-event.result.now
    (spells_low c.self.inside.events.items c.self.inside.cells c.index-parent.result.now.event
    c.index-parent.result.now.spot t.stands.member t.stands.spot) c.index-event.ensures)).is_spot

pub choose-requires-clause-choice : goal.choose-requires-clause-choice
choose-requires-clause-choice c =
    let t : PathThere c.self.inside.events.items c.self.inside.cells c.self.inside.records.items
    c.self.inside.ticks.items c.args.p c.index-parent.result.now =
    path_there c.self.inside.events.items c.self.inside.cells c.self.inside.records.items
    c.self.inside.ticks.items c.self.inside.marks.items c.args.self.now c.self.invariant c.self.view_is c.args.p
    c.index-parent.result.now c.requires.path c.index-parent.ensures in
    choice_stop c.self.inside.events.items c.self.inside.cells c.index-parent.result.now.event
    c.index-parent.result.now.spot t.stands.member t.stands.spot
    (path_chooses c.self.inside.events.items c.self.inside.cells c.self.inside.records.items c.self.inside.ticks.items
    c.self.inside.marks.items c.args.self.now c.self.view_is c.args.p c.index-parent.result.now t c.requires.stands)

pub invariant_of-self-in_err-choose : goal.invariant_of-self-in_err-choose
invariant_of-self-in_err-choose c = kept_so c.self.inside.events.items c.choose.new.cells c.self.inside.records.items
    c.reserve.new.self.items c.self.inside.ticks.items c.self.inside.ticks.items c.self.inside.marks.items
    (whole_grown c.self.inside.events.items c.self.inside.cells c.choose.new.cells c.self.inside.records.items
    c.self.inside.ticks.items c.self.inside.marks.items c.choose.ensures.grows c.self.invariant) c.reserve.ensures.items
    refl

pub raise-requires : goal.raise-requires
raise-requires c =
    let t : PathThere c.self.inside.events.items c.self.inside.cells c.self.inside.records.items
    c.self.inside.ticks.items c.args.p c.index-parent.result.now =
    path_there c.self.inside.events.items c.self.inside.cells c.self.inside.records.items
    c.self.inside.ticks.items c.self.inside.marks.items c.args.self.now c.self.invariant c.self.view_is c.args.p
    c.index-parent.result.now c.requires.path c.index-parent.ensures in
    t.within

pub invariant_of-self-in_err-clock : goal.invariant_of-self-in_err-clock
invariant_of-self-in_err-clock c = kept_so c.self.inside.events.items c.choose.new.cells c.self.inside.records.items
    c.reserve.new.self.items c.self.inside.ticks.items c.raise.new.ticks.items c.self.inside.marks.items
    (whole_grown c.self.inside.events.items c.self.inside.cells c.choose.new.cells c.self.inside.records.items
    c.self.inside.ticks.items c.self.inside.marks.items c.choose.ensures.grows c.self.invariant) c.reserve.ensures.items
    c.in_err-clock.ensures.same

pub invariant_of-self-2 : goal.invariant_of-self-2
invariant_of-self-2 c =
    let t : PathThere c.self.inside.events.items c.self.inside.cells c.self.inside.records.items
    c.self.inside.ticks.items c.args.p c.index-parent.result.now =
    path_there c.self.inside.events.items c.self.inside.cells c.self.inside.records.items
    c.self.inside.ticks.items c.self.inside.marks.items c.args.self.now c.self.invariant c.self.view_is c.args.p
    c.index-parent.result.now c.requires.path c.index-parent.ensures in
    let s : SpellsAt c.index-event.result.now c.self.inside.cells c.index-parent.result.now.spot t.stands.member =
    spells_at c.self.inside.events.items c.self.inside.cells c.index-parent.result.now.event
    c.index-parent.result.now.spot t.stands.member c.index-event.result.now t.stands.spot
    (found_here c.self.inside.events.items c.index-parent.result.now.event c.index-event.result.now
    (spells_low c.self.inside.events.items c.self.inside.cells c.index-parent.result.now.event
    c.index-parent.result.now.spot t.stands.member t.stands.spot) c.index-event.ensures) in
    let number : c.len-number.result ≡ length c.self.inside.records.items = search rules in
    let step : StepsTo t.stands.member (after_choice c.args.left t.stands.member.term)
    (spelled (origin_at c.index-event.result.now) c.choose.new.cells c.choose.new.spot) =
    subst (λ (z : Member). StepsTo z (after_choice c.args.left z.term)
    (spelled (origin_at c.index-event.result.now) c.choose.new.cells c.choose.new.spot)) s.spells
    c.in_ok-choose.ensures.step in
    (branch_leaves c.self.inside.events.items c.choose.new.cells c.self.inside.records.items c.self.inside.ticks.items
    c.self.inside.marks.items c.args.self.now (whole_grown c.self.inside.events.items c.self.inside.cells
    c.choose.new.cells c.self.inside.records.items c.self.inside.ticks.items c.self.inside.marks.items
    c.choose.ensures.grows c.self.invariant) c.self.view_is c.args.p c.index-parent.result.now t.path t.record_at
    t.path_at t.stands.member t.stands.state c.index-event.result.now
    (found_here c.self.inside.events.items c.index-parent.result.now.event c.index-event.result.now
    (spells_low c.self.inside.events.items c.self.inside.cells c.index-parent.result.now.event
    c.index-parent.result.now.spot t.stands.member t.stands.spot) c.index-event.ensures)
    c.choose.new.spot c.in_ok-choose.ensures.spot c.args.left c.side.result c.side.ensures step c.requires.unmade
    c.len-number.result number c.requires.room c.in_ok-clock.clock c.raise.new.ticks.items
    c.in_ok-clock.ensures.raised
    c.push_reserved.new.self.items (on_one c.self.inside.records.items _ _ _ c.push_reserved.ensures.items c.reserve.ensures.items)).0

pub returns-clause-ok : goal.returns-clause-ok
returns-clause-ok c =
    let t : PathThere c.self.inside.events.items c.self.inside.cells c.self.inside.records.items
    c.self.inside.ticks.items c.args.p c.index-parent.result.now =
    path_there c.self.inside.events.items c.self.inside.cells c.self.inside.records.items
    c.self.inside.ticks.items c.self.inside.marks.items c.args.self.now c.self.invariant c.self.view_is c.args.p
    c.index-parent.result.now c.requires.path c.index-parent.ensures in
    let s : SpellsAt c.index-event.result.now c.self.inside.cells c.index-parent.result.now.spot t.stands.member =
    spells_at c.self.inside.events.items c.self.inside.cells c.index-parent.result.now.event
    c.index-parent.result.now.spot t.stands.member c.index-event.result.now t.stands.spot
    (found_here c.self.inside.events.items c.index-parent.result.now.event c.index-event.result.now
    (spells_low c.self.inside.events.items c.self.inside.cells c.index-parent.result.now.event
    c.index-parent.result.now.spot t.stands.member t.stands.spot) c.index-event.ensures) in
    let number : c.len-number.result ≡ length c.self.inside.records.items = search rules in
    let step : StepsTo t.stands.member (after_choice c.args.left t.stands.member.term)
    (spelled (origin_at c.index-event.result.now) c.choose.new.cells c.choose.new.spot) =
    subst (λ (z : Member). StepsTo z (after_choice c.args.left z.term)
    (spelled (origin_at c.index-event.result.now) c.choose.new.cells c.choose.new.spot)) s.spells
    c.in_ok-choose.ensures.step in
    (branch_leaves c.self.inside.events.items c.choose.new.cells c.self.inside.records.items c.self.inside.ticks.items
    c.self.inside.marks.items c.args.self.now (whole_grown c.self.inside.events.items c.self.inside.cells
    c.choose.new.cells c.self.inside.records.items c.self.inside.ticks.items c.self.inside.marks.items
    c.choose.ensures.grows c.self.invariant) c.self.view_is c.args.p c.index-parent.result.now t.path t.record_at
    t.path_at t.stands.member t.stands.state c.index-event.result.now
    (found_here c.self.inside.events.items c.index-parent.result.now.event c.index-event.result.now
    (spells_low c.self.inside.events.items c.self.inside.cells c.index-parent.result.now.event
    c.index-parent.result.now.spot t.stands.member t.stands.spot) c.index-event.ensures)
    c.choose.new.spot c.in_ok-choose.ensures.spot c.args.left c.side.result c.side.ensures step c.requires.unmade
    c.len-number.result number c.requires.room c.in_ok-clock.clock c.raise.new.ticks.items
    c.in_ok-clock.ensures.raised
    c.push_reserved.new.self.items (on_one c.self.inside.records.items _ _ _ c.push_reserved.ensures.items c.reserve.ensures.items)).1
