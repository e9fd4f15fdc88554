use Rattle.std.proofs.Common.{◌≡◌, ◌<◌, ◌≤◌, ap, ap₂, ◌∙◌, sym, subst, refl, length, ◌++◌, ◌∷◌, [], ◌+◌, Some, None, slice_get, get_or, take, arith, rules, vec_len, List, ℕ}
use Rattle.te_terms.specs.Steps.{Member}
use Rattle.te_terms.specs.Joint.{after_choice}
use Rattle.te_path.specs.declared.cells.Cells.{Cells}
use Rattle.te_path.specs.Paths.{StepsTo, IsChoice}
use Rattle.te_path.specs.Spots.{spelled, IsSpot}
use Rattle.te_path.proofs.Growing.{spelled_grown, spot_grown}
use Rattle.te_trail.specs.declared.planned.Planned.{Planned}
use Rattle.te_trail.specs.declared.store.PathRecord.{PathRecord}
use Rattle.te_trail.specs.declared.store.StoreMark.{StoreMark}
use Rattle.te_trail.specs.Trails.{Trail, FaceEachOther}
use Rattle.te_trail.specs.Records.{StoreIsWhole, SpotSpells, BothMet, origin_at}
use Rattle.te_terms.proofs.Lists.{get_low, found_here}
use Rattle.te_trail.proofs.StoresKeep.{whole_grown, whole_put, whole_marked, spells_grown}
use Rattle.te_trail.proofs.SpotsMove.{SpellsAt, spells_at, spells_low, choice_stop, send_stop, both_met}
use Rattle.te_trail.proofs.CallsLeave.{viewed, plant_leaves, PathThere, path_there, path_chooses, branch_leaves}
use Rattle.te_trail.proofs.CallsLeave.{paths_face, one_member, meet_leaves, mark_view, cut_done, event_there, on_one}
use Rattle.te_trail.proofs.CallsLeave.{on_two, kept_so}
use Rattle.te_trail.proofs.store.TrailStore.plant.Goals as goal

pub invariant_of-self-in_err-spot : goal.invariant_of-self-in_err-spot
invariant_of-self-in_err-spot c = kept_so c.self.inside.events.items c.start.new.cells c.self.inside.records.items
    c.reserve.new.self.items c.self.inside.ticks.items c.self.inside.ticks.items c.self.inside.marks.items
    (whole_grown c.self.inside.events.items c.self.inside.cells c.start.new.cells c.self.inside.records.items
    c.self.inside.ticks.items c.self.inside.marks.items c.start.ensures.grows c.self.invariant) c.reserve.ensures.items
    refl

pub invariant_of-self-then-at-gt4294967294 : goal.invariant_of-self-then-at-gt4294967294
invariant_of-self-then-at-gt4294967294 c = kept_so c.self.inside.events.items c.start.new.cells
    c.self.inside.records.items c.reserve.new.self.items c.self.inside.ticks.items c.self.inside.ticks.items
    c.self.inside.marks.items (whole_grown c.self.inside.events.items c.self.inside.cells c.start.new.cells
    c.self.inside.records.items c.self.inside.ticks.items c.self.inside.marks.items c.start.ensures.grows
    c.self.invariant) c.reserve.ensures.items refl

pub invariant_of-self-in_err-reserve-2 : goal.invariant_of-self-in_err-reserve-2
invariant_of-self-in_err-reserve-2 c = kept_so c.self.inside.events.items c.start.new.cells c.self.inside.records.items
    c.reserve.new.self.items c.self.inside.ticks.items c.reserve-2.new.self.items c.self.inside.marks.items
    (whole_grown c.self.inside.events.items c.self.inside.cells c.start.new.cells c.self.inside.records.items
    c.self.inside.ticks.items c.self.inside.marks.items c.start.ensures.grows c.self.invariant) c.reserve.ensures.items
    c.reserve-2.ensures.items

pub invariant_of-self-2 : goal.invariant_of-self-2
invariant_of-self-2 c =
    let number : c.len-number.result ≡ length c.self.inside.records.items = search rules in
    let at : c.len-at.result ≡ length c.self.inside.ticks.items = search rules in
    (plant_leaves c.self.inside.events.items c.start.new.cells c.self.inside.records.items c.self.inside.ticks.items
    c.self.inside.marks.items c.args.self.now (whole_grown c.self.inside.events.items c.self.inside.cells
    c.start.new.cells c.self.inside.records.items c.self.inside.ticks.items c.self.inside.marks.items
    c.start.ensures.grows c.self.invariant) c.self.view_is c.args.i c.index-event.result.now
    (event_there c.self.inside.events.items c.self.inside.records.items c.self.inside.marks.items c.args.self.now
    c.self.view_is c.args.i c.index-event.result.now c.requires.event c.index-event.ensures) c.in_ok-spot.spot
    c.in_ok-spot.ensures.spot c.in_ok-spot.ensures.settles c.requires.unplanted c.len-number.result c.len-at.result
    number at c.requires.room
    c.push_reserved-2.new.self.items c.push_reserved.new.self.items
    (on_one c.self.inside.records.items _ _ _ c.push_reserved-2.ensures.items c.reserve.ensures.items)
    (on_one c.self.inside.ticks.items _ _ _ c.push_reserved.ensures.items c.reserve-2.ensures.items)).0

pub returns-clause-ok : goal.returns-clause-ok
returns-clause-ok c =
    let number : c.len-number.result ≡ length c.self.inside.records.items = search rules in
    let at : c.len-at.result ≡ length c.self.inside.ticks.items = search rules in
    (plant_leaves c.self.inside.events.items c.start.new.cells c.self.inside.records.items c.self.inside.ticks.items
    c.self.inside.marks.items c.args.self.now (whole_grown c.self.inside.events.items c.self.inside.cells
    c.start.new.cells c.self.inside.records.items c.self.inside.ticks.items c.self.inside.marks.items
    c.start.ensures.grows c.self.invariant) c.self.view_is c.args.i c.index-event.result.now
    (event_there c.self.inside.events.items c.self.inside.records.items c.self.inside.marks.items c.args.self.now
    c.self.view_is c.args.i c.index-event.result.now c.requires.event c.index-event.ensures) c.in_ok-spot.spot
    c.in_ok-spot.ensures.spot c.in_ok-spot.ensures.settles c.requires.unplanted c.len-number.result c.len-at.result
    number at c.requires.room
    c.push_reserved-2.new.self.items c.push_reserved.new.self.items
    (on_one c.self.inside.records.items _ _ _ c.push_reserved-2.ensures.items c.reserve.ensures.items)
    (on_one c.self.inside.ticks.items _ _ _ c.push_reserved.ensures.items c.reserve-2.ensures.items)).1
