use Rattle.std.proofs.Common.{◌≡◌, ◌<◌, ◌≤◌, ap, ap₂, ◌∙◌, sym, subst, refl, length, ◌++◌, ◌∷◌, [], ◌+◌, Some, None, slice_get, get_or, take, arith, rules, vec_len, List, ℕ}
use Rattle.te_terms.specs.Steps.{Member}
use Rattle.te_terms.specs.Joint.{after_choice}
use Rattle.te_path.specs.declared.cells.Cells.{Cells}
use Rattle.te_path.specs.Paths.{StepsTo, IsChoice}
use Rattle.te_path.specs.Spots.{spelled, IsSpot}
use Rattle.te_path.proofs.Growing.{spelled_grown, spot_grown}
use Rattle.te_trail.specs.declared.planned.Planned.{Planned}
use Rattle.te_trail.specs.declared.store.PathRecord.{PathRecord}
use Rattle.te_trail.specs.declared.store.StoreMark.{StoreMark}
use Rattle.te_trail.specs.Trails.{Trail, FaceEachOther}
use Rattle.te_trail.specs.Records.{StoreIsWhole, SpotSpells, BothMet, origin_at}
use Rattle.te_terms.proofs.Lists.{get_low, found_here}
use Rattle.te_trail.proofs.StoresKeep.{whole_grown, whole_put, whole_marked, spells_grown}
use Rattle.te_trail.proofs.SpotsMove.{SpellsAt, spells_at, spells_low, choice_stop, send_stop, both_met}
use Rattle.te_trail.proofs.CallsLeave.{viewed, plant_leaves, PathThere, path_there, path_chooses, branch_leaves}
use Rattle.te_trail.proofs.CallsLeave.{paths_face, one_member, meet_leaves, mark_view, cut_done, event_there, on_one}
use Rattle.te_trail.proofs.CallsLeave.{on_two, kept_so}
use Rattle.te_trail.proofs.store.TrailStore.mark.Goals as goal

pub invariant_of-self-2 : goal.invariant_of-self-2
invariant_of-self-2 c =
    let new : StoreMark = record { events = c.len.result; cells = c.mark.result; paths = c.len-2.result; ticks = c.len-3.result } in
    let events : c.len.result ≡ length c.self.inside.events.items = search rules in
    let paths : c.len-2.result ≡ length c.self.inside.records.items = search rules in
    let ticks : c.len-3.result ≡ length c.self.inside.ticks.items = search rules in
    subst (λ ms. StoreIsWhole c.self.inside.events.items c.self.inside.cells c.self.inside.records.items
    c.self.inside.ticks.items ms) (sym (on_one c.self.inside.marks.items _ _ new c.push_reserved.ensures.items
    c.reserve.ensures.items))
    (whole_marked c.self.inside.events.items c.self.inside.cells c.self.inside.records.items c.self.inside.ticks.items
    c.self.inside.marks.items new c.self.invariant events c.mark.ensures.is paths ticks)

pub returns-clause-ok : goal.returns-clause-ok
returns-clause-ok c =
    let new : StoreMark = record { events = c.len.result; cells = c.mark.result; paths = c.len-2.result; ticks = c.len-3.result } in
    let events : c.len.result ≡ length c.self.inside.events.items = search rules in
    let paths : c.len-2.result ≡ length c.self.inside.records.items = search rules in
    ap (λ ms. viewed c.self.inside.events.items c.self.inside.records.items ms) (on_one c.self.inside.marks.items _ _ new c.push_reserved.ensures.items c.reserve.ensures.items)
    ∙ mark_view c.self.inside.events.items c.self.inside.records.items c.self.inside.marks.items new c.args.self.now c.self.view_is events paths
