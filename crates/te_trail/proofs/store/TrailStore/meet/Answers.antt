use Rattle.std.proofs.Common.{◌≡◌, ◌<◌, ◌≤◌, ap, ap₂, ◌∙◌, sym, subst, refl, length, ◌++◌, ◌∷◌, [], ◌+◌, Some, None, slice_get, get_or, take, arith, rules, vec_len, List, ℕ}
use Rattle.te_terms.specs.Steps.{Member}
use Rattle.te_terms.specs.Joint.{after_choice}
use Rattle.te_path.specs.declared.cells.Cells.{Cells}
use Rattle.te_path.specs.Paths.{StepsTo, IsChoice}
use Rattle.te_path.specs.Spots.{spelled, IsSpot}
use Rattle.te_path.proofs.Growing.{spelled_grown, spot_grown}
use Rattle.te_trail.specs.declared.planned.Planned.{Planned}
use Rattle.te_trail.specs.declared.store.PathRecord.{PathRecord}
use Rattle.te_trail.specs.declared.store.StoreMark.{StoreMark}
use Rattle.te_trail.specs.Trails.{Trail, FaceEachOther}
use Rattle.te_trail.specs.Records.{StoreIsWhole, SpotSpells, BothMet, origin_at}
use Rattle.te_terms.proofs.Lists.{get_low, found_here}
use Rattle.te_trail.proofs.StoresKeep.{whole_grown, whole_put, whole_marked, spells_grown}
use Rattle.te_trail.proofs.SpotsMove.{SpellsAt, spells_at, spells_low, choice_stop, send_stop, both_met}
use Rattle.te_trail.proofs.CallsLeave.{viewed, plant_leaves, PathThere, path_there, path_chooses, branch_leaves}
use Rattle.te_trail.proofs.CallsLeave.{paths_face, one_member, meet_leaves, mark_view, cut_done, event_there, on_one}
use Rattle.te_trail.proofs.CallsLeave.{on_two, kept_so}
use Rattle.te_trail.proofs.store.TrailStore.meet.Goals as goal

pub hand_over-requires-clause-sender : goal.hand_over-requires-clause-sender
hand_over-requires-clause-sender c =
    let t : PathThere c.self.inside.events.items c.self.inside.cells c.self.inside.records.items
    c.self.inside.ticks.items c.args.p c.index.result.now =
    path_there c.self.inside.events.items c.self.inside.cells c.self.inside.records.items
    c.self.inside.ticks.items c.self.inside.marks.items c.args.self.now c.self.invariant c.self.view_is c.args.p
    c.index.result.now c.requires.sender c.index.ensures in
    (t.stands.member, subst (λ (es : List Planned). SpotSpells es c.self.inside.cells c.index.result.now.event c.index.result.now.spot t.stands.member) (sym c.deref.ensures.value) t.stands.spot)

pub hand_over-requires-clause-receiver : goal.hand_over-requires-clause-receiver
hand_over-requires-clause-receiver c =
    let u : PathThere c.self.inside.events.items c.self.inside.cells c.self.inside.records.items
    c.self.inside.ticks.items c.args.q c.index-2.result.now =
    path_there c.self.inside.events.items c.self.inside.cells c.self.inside.records.items
    c.self.inside.ticks.items c.self.inside.marks.items c.args.self.now c.self.invariant c.self.view_is c.args.q
    c.index-2.result.now c.requires.receiver c.index-2.ensures in
    (u.stands.member, subst (λ (es : List Planned). SpotSpells es c.self.inside.cells c.index-2.result.now.event c.index-2.result.now.spot u.stands.member) (sym c.deref.ensures.value) u.stands.spot)

pub hand_over-requires-clause-face : goal.hand_over-requires-clause-face
hand_over-requires-clause-face c = λ a b sa sb. (
    let t : PathThere c.self.inside.events.items c.self.inside.cells c.self.inside.records.items
    c.self.inside.ticks.items c.args.p c.index.result.now =
    path_there c.self.inside.events.items c.self.inside.cells c.self.inside.records.items
    c.self.inside.ticks.items c.self.inside.marks.items c.args.self.now c.self.invariant c.self.view_is c.args.p
    c.index.result.now c.requires.sender c.index.ensures in
    let u : PathThere c.self.inside.events.items c.self.inside.cells c.self.inside.records.items
    c.self.inside.ticks.items c.args.q c.index-2.result.now =
    path_there c.self.inside.events.items c.self.inside.cells c.self.inside.records.items
    c.self.inside.ticks.items c.self.inside.marks.items c.args.self.now c.self.invariant c.self.view_is c.args.q
    c.index-2.result.now c.requires.receiver c.index-2.ensures in
    let ea : t.stands.member ≡ a = one_member c.self.inside.events.items c.self.inside.cells c.index.result.now.event
    c.index.result.now.spot t.stands.member a t.stands.spot
    (subst (λ (es : List Planned). SpotSpells es c.self.inside.cells c.index.result.now.event
    c.index.result.now.spot a) c.deref.ensures.value sa) in
    let eb : u.stands.member ≡ b = one_member c.self.inside.events.items c.self.inside.cells c.index-2.result.now.event
    c.index-2.result.now.spot u.stands.member b u.stands.spot
    (subst (λ (es : List Planned). SpotSpells es c.self.inside.cells c.index-2.result.now.event
    c.index-2.result.now.spot b) c.deref.ensures.value sb) in
    subst (λ z. FaceEachOther z b) ea (subst (FaceEachOther t.stands.member) eb
    (paths_face c.self.inside.events.items c.self.inside.cells c.self.inside.records.items c.self.inside.ticks.items
    c.self.inside.marks.items c.args.self.now c.self.view_is c.args.p c.args.q c.index.result.now c.index-2.result.now
    t u c.requires.stand)))

pub invariant_of-self-in_err-spots : goal.invariant_of-self-in_err-spots
invariant_of-self-in_err-spots c = kept_so c.self.inside.events.items c.hand_over.new.cells c.self.inside.records.items
    c.reserve.new.self.items c.self.inside.ticks.items c.self.inside.ticks.items c.self.inside.marks.items
    (whole_grown c.self.inside.events.items c.self.inside.cells c.hand_over.new.cells c.self.inside.records.items
    c.self.inside.ticks.items c.self.inside.marks.items c.hand_over.ensures.grows c.self.invariant)
    c.reserve.ensures.items refl

pub join-requires-clause-a_within : goal.join-requires-clause-a_within
join-requires-clause-a_within c =
    let t : PathThere c.self.inside.events.items c.self.inside.cells c.self.inside.records.items
    c.self.inside.ticks.items c.args.p c.index.result.now =
    path_there c.self.inside.events.items c.self.inside.cells c.self.inside.records.items
    c.self.inside.ticks.items c.self.inside.marks.items c.args.self.now c.self.invariant c.self.view_is c.args.p
    c.index.result.now c.requires.sender c.index.ensures in
    t.within

pub join-requires-clause-b_within : goal.join-requires-clause-b_within
join-requires-clause-b_within c =
    let u : PathThere c.self.inside.events.items c.self.inside.cells c.self.inside.records.items
    c.self.inside.ticks.items c.args.q c.index-2.result.now =
    path_there c.self.inside.events.items c.self.inside.cells c.self.inside.records.items
    c.self.inside.ticks.items c.self.inside.marks.items c.args.self.now c.self.invariant c.self.view_is c.args.q
    c.index-2.result.now c.requires.receiver c.index-2.ensures in
    u.within

pub invariant_of-self-in_err-clock : goal.invariant_of-self-in_err-clock
invariant_of-self-in_err-clock c = kept_so c.self.inside.events.items c.hand_over.new.cells c.self.inside.records.items
    c.reserve.new.self.items c.self.inside.ticks.items c.join.new.ticks.items c.self.inside.marks.items
    (whole_grown c.self.inside.events.items c.self.inside.cells c.hand_over.new.cells c.self.inside.records.items
    c.self.inside.ticks.items c.self.inside.marks.items c.hand_over.ensures.grows c.self.invariant)
    c.reserve.ensures.items c.in_err-clock.ensures.same

pub invariant_of-self-2 : goal.invariant_of-self-2
invariant_of-self-2 c =
    let t : PathThere c.self.inside.events.items c.self.inside.cells c.self.inside.records.items
    c.self.inside.ticks.items c.args.p c.index.result.now =
    path_there c.self.inside.events.items c.self.inside.cells c.self.inside.records.items
    c.self.inside.ticks.items c.self.inside.marks.items c.args.self.now c.self.invariant c.self.view_is c.args.p
    c.index.result.now c.requires.sender c.index.ensures in
    let u : PathThere c.self.inside.events.items c.self.inside.cells c.self.inside.records.items
    c.self.inside.ticks.items c.args.q c.index-2.result.now =
    path_there c.self.inside.events.items c.self.inside.cells c.self.inside.records.items
    c.self.inside.ticks.items c.self.inside.marks.items c.args.self.now c.self.invariant c.self.view_is c.args.q
    c.index-2.result.now c.requires.receiver c.index-2.ensures in
    let number : c.len-number.result ≡ length c.self.inside.records.items = search rules in
    (meet_leaves c.self.inside.events.items c.hand_over.new.cells c.self.inside.records.items c.self.inside.ticks.items
    c.self.inside.marks.items c.args.self.now (whole_grown c.self.inside.events.items c.self.inside.cells
    c.hand_over.new.cells c.self.inside.records.items c.self.inside.ticks.items c.self.inside.marks.items
    c.hand_over.ensures.grows c.self.invariant) c.self.view_is c.args.p c.args.q c.index.result.now
    c.index-2.result.now t.path u.path t.record_at t.path_at u.record_at u.path_at t.stands.member u.stands.member
    t.stands.state u.stands.state
    c.in_ok-spots.spots.0 c.in_ok-spots.spots.1 (subst (λ (es : List Planned).
    BothMet es c.hand_over.new.cells c.index.result.now.event c.in_ok-spots.spots.0 c.index-2.result.now.event
    c.in_ok-spots.spots.1 t.stands.member u.stands.member) c.deref.ensures.value
    (c.in_ok-spots.ensures.met t.stands.member u.stands.member
    (subst (λ (es : List Planned). SpotSpells es c.self.inside.cells c.index.result.now.event c.index.result.now.spot
    t.stands.member) (sym c.deref.ensures.value) t.stands.spot)
    (subst (λ (es : List Planned). SpotSpells es c.self.inside.cells c.index-2.result.now.event
    c.index-2.result.now.spot u.stands.member) (sym c.deref.ensures.value) u.stands.spot))) c.requires.agree
    c.requires.unmet c.len-number.result number c.requires.room c.in_ok-clock.clock c.join.new.ticks.items
    c.in_ok-clock.ensures.joined
    c.push_reserved-2.new.self.items (on_two c.self.inside.records.items _ _ _ _ _ c.push_reserved-2.ensures.items c.push_reserved.ensures.items c.reserve.ensures.items)).0

pub returns-clause-ok : goal.returns-clause-ok
returns-clause-ok c =
    let t : PathThere c.self.inside.events.items c.self.inside.cells c.self.inside.records.items
    c.self.inside.ticks.items c.args.p c.index.result.now =
    path_there c.self.inside.events.items c.self.inside.cells c.self.inside.records.items
    c.self.inside.ticks.items c.self.inside.marks.items c.args.self.now c.self.invariant c.self.view_is c.args.p
    c.index.result.now c.requires.sender c.index.ensures in
    let u : PathThere c.self.inside.events.items c.self.inside.cells c.self.inside.records.items
    c.self.inside.ticks.items c.args.q c.index-2.result.now =
    path_there c.self.inside.events.items c.self.inside.cells c.self.inside.records.items
    c.self.inside.ticks.items c.self.inside.marks.items c.args.self.now c.self.invariant c.self.view_is c.args.q
    c.index-2.result.now c.requires.receiver c.index-2.ensures in
    let number : c.len-number.result ≡ length c.self.inside.records.items = search rules in
    (meet_leaves c.self.inside.events.items c.hand_over.new.cells c.self.inside.records.items c.self.inside.ticks.items
    c.self.inside.marks.items c.args.self.now (whole_grown c.self.inside.events.items c.self.inside.cells
    c.hand_over.new.cells c.self.inside.records.items c.self.inside.ticks.items c.self.inside.marks.items
    c.hand_over.ensures.grows c.self.invariant) c.self.view_is c.args.p c.args.q c.index.result.now
    c.index-2.result.now t.path u.path t.record_at t.path_at u.record_at u.path_at t.stands.member u.stands.member
    t.stands.state u.stands.state
    c.in_ok-spots.spots.0 c.in_ok-spots.spots.1 (subst (λ (es : List Planned).
    BothMet es c.hand_over.new.cells c.index.result.now.event c.in_ok-spots.spots.0 c.index-2.result.now.event
    c.in_ok-spots.spots.1 t.stands.member u.stands.member) c.deref.ensures.value
    (c.in_ok-spots.ensures.met t.stands.member u.stands.member
    (subst (λ (es : List Planned). SpotSpells es c.self.inside.cells c.index.result.now.event c.index.result.now.spot
    t.stands.member) (sym c.deref.ensures.value) t.stands.spot)
    (subst (λ (es : List Planned). SpotSpells es c.self.inside.cells c.index-2.result.now.event
    c.index-2.result.now.spot u.stands.member) (sym c.deref.ensures.value) u.stands.spot))) c.requires.agree
    c.requires.unmet c.len-number.result number c.requires.room c.in_ok-clock.clock c.join.new.ticks.items
    c.in_ok-clock.ensures.joined
    c.push_reserved-2.new.self.items (on_two c.self.inside.records.items _ _ _ _ _ c.push_reserved-2.ensures.items c.push_reserved.ensures.items c.reserve.ensures.items)).1
