use Rattle.std.proofs.Common.{◌≡◌, ◌<◌, ◌≤◌, ap, ap₂, ◌∙◌, sym, subst, refl, length, ◌++◌, ◌∷◌, [], ◌+◌, Some, None, slice_get, get_or, take, arith, rules, vec_len, List, ℕ}
use Rattle.te_terms.specs.Steps.{Member}
use Rattle.te_terms.specs.Joint.{after_choice}
use Rattle.te_path.specs.declared.cells.Cells.{Cells}
use Rattle.te_path.specs.Paths.{StepsTo, IsChoice}
use Rattle.te_path.specs.Spots.{spelled, IsSpot}
use Rattle.te_path.proofs.Growing.{spelled_grown, spot_grown}
use Rattle.te_trail.specs.declared.planned.Planned.{Planned}
use Rattle.te_trail.specs.declared.store.PathRecord.{PathRecord}
use Rattle.te_trail.specs.declared.store.StoreMark.{StoreMark}
use Rattle.te_trail.specs.Trails.{Trail, FaceEachOther}
use Rattle.te_trail.specs.Records.{StoreIsWhole, SpotSpells, BothMet, origin_at}
use Rattle.te_terms.proofs.Lists.{get_low, found_here}
use Rattle.te_trail.proofs.StoresKeep.{whole_grown, whole_put, whole_marked, spells_grown}
use Rattle.te_trail.proofs.SpotsMove.{SpellsAt, spells_at, spells_low, choice_stop, send_stop, both_met, can_send, can_receive}
use Rattle.te_trail.proofs.CallsLeave.{viewed, plant_leaves, PathThere, path_there, path_chooses, branch_leaves}
use Rattle.te_trail.proofs.CallsLeave.{paths_face, one_member, meet_leaves, mark_view, cut_done, event_there, on_one}
use Rattle.te_trail.proofs.CallsLeave.{on_two, kept_so}
use Rattle.te_trail.proofs.making.hand_over.Goals as goal

pub unreachable-requires : goal.unreachable-requires
unreachable-requires c =
    let face : FaceEachOther c.requires.sender.0 c.requires.receiver.0 = c.requires.face c.requires.sender.0 c.requires.receiver.0 c.requires.sender.1 c.requires.receiver.1 in
    c.in_default.not-Send face.message.channel face.message.value
    (c.stop.ensures ∙ send_stop c.args.events.now c.args.cells.now c.args.sender.now.event c.args.sender.now.spot
    c.requires.sender.0 face.message c.requires.sender.1 face.sends)

pub bounds-events-sender : goal.bounds-events-sender
bounds-events-sender c = spells_low c.args.events.now c.args.cells.now c.args.sender.now.event c.args.sender.now.spot c.requires.sender.0 c.requires.sender.1

pub sent-requires-clause-spot : goal.sent-requires-clause-spot
sent-requires-clause-spot c = (spells_at c.args.events.now c.args.cells.now c.args.sender.now.event
    c.args.sender.now.spot c.requires.sender.0 c.index-events-sender.result c.requires.sender.1
    (found_here c.args.events.now c.args.sender.now.event c.index-events-sender.result
    (spells_low c.args.events.now c.args.cells.now c.args.sender.now.event c.args.sender.now.spot c.requires.sender.0
    c.requires.sender.1) c.index-events-sender.is)).is_spot

pub sent-requires-clause-send : goal.sent-requires-clause-send
sent-requires-clause-send c =
    let face : FaceEachOther c.requires.sender.0 c.requires.receiver.0 = c.requires.face c.requires.sender.0 c.requires.receiver.0 c.requires.sender.1 c.requires.receiver.1 in
    can_send c.args.events.now c.index-events-sender.result c.args.cells.now c.args.sender.now.event
    c.args.sender.now.spot c.requires.sender.0 face.message
    (found_here c.args.events.now c.args.sender.now.event c.index-events-sender.result
    (spells_low c.args.events.now c.args.cells.now c.args.sender.now.event c.args.sender.now.spot c.requires.sender.0
    c.requires.sender.1) c.index-events-sender.is) c.requires.sender.1 face.sends

pub bounds-events-receiver : goal.bounds-events-receiver
bounds-events-receiver c = spells_low c.args.events.now c.args.cells.now c.args.receiver.now.event c.args.receiver.now.spot c.requires.receiver.0 c.requires.receiver.1

pub received-requires-clause-spot : goal.received-requires-clause-spot
received-requires-clause-spot c = spot_grown (origin_at c.index-events-receiver.result) c.args.cells.now
    c.sent.new.cells c.args.receiver.now.spot c.sent.ensures.grows
    (spells_at c.args.events.now c.args.cells.now c.args.receiver.now.event c.args.receiver.now.spot
    c.requires.receiver.0 c.index-events-receiver.result c.requires.receiver.1
    (found_here c.args.events.now c.args.receiver.now.event c.index-events-receiver.result
    (spells_low c.args.events.now c.args.cells.now c.args.receiver.now.event c.args.receiver.now.spot
    c.requires.receiver.0 c.requires.receiver.1) c.index-events-receiver.is)).is_spot

pub received-requires-clause-receive : goal.received-requires-clause-receive
received-requires-clause-receive c =
    let face : FaceEachOther c.requires.sender.0 c.requires.receiver.0 = c.requires.face c.requires.sender.0 c.requires.receiver.0 c.requires.sender.1 c.requires.receiver.1 in
    can_receive c.args.events.now c.index-events-receiver.result c.args.cells.now c.sent.new.cells
    c.args.receiver.now.event c.args.receiver.now.spot c.requires.receiver.0 face.message.channel c.sent.ensures.grows
    (found_here c.args.events.now c.args.receiver.now.event c.index-events-receiver.result
    (spells_low c.args.events.now c.args.cells.now c.args.receiver.now.event c.args.receiver.now.spot
    c.requires.receiver.0 c.requires.receiver.1) c.index-events-receiver.is) c.requires.receiver.1 face.receives

pub returns-clause-met : goal.returns-clause-met
returns-clause-met c = λ a b sa sb. both_met c.args.events.now c.index-events-sender.result
    c.index-events-receiver.result c.args.cells.now c.sent.new.cells c.received.new.cells c.args.sender.now.event
    c.args.receiver.now.event c.args.sender.now.spot c.sent.new.spot c.args.receiver.now.spot c.received.new.spot
    c.in-Send.field-0 c.in-Send.value a b (found_here c.args.events.now c.args.sender.now.event
    c.index-events-sender.result (spells_low c.args.events.now c.args.cells.now c.args.sender.now.event
    c.args.sender.now.spot c.requires.sender.0 c.requires.sender.1) c.index-events-sender.is)
    (found_here c.args.events.now c.args.receiver.now.event c.index-events-receiver.result
    (spells_low c.args.events.now c.args.cells.now c.args.receiver.now.event c.args.receiver.now.spot
    c.requires.receiver.0 c.requires.receiver.1) c.index-events-receiver.is) sa sb (c.requires.face a b sa sb)
    (sym c.stop.ensures ∙ c.in-Send.is) (record {
      first = c.sent.ensures.grows;
      second = c.received.ensures.grows;
      sender = c.in_ok-sent.ensures.spot;
      sends = c.in_ok-sent.ensures.step;
      receiver = c.in_ok-received.ensures.spot;
      receives = c.in_ok-received.ensures.step;
    })
