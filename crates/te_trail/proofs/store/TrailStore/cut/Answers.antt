use Rattle.std.proofs.Common.{◌≡◌, ◌<◌, ◌≤◌, ap, ap₂, ◌∙◌, sym, subst, refl, length, ◌++◌, ◌∷◌, [], ◌+◌, Some, None, slice_get, get_or, take, arith, rules, vec_len, List, ℕ}
use Rattle.te_terms.specs.Steps.{Member}
use Rattle.te_terms.specs.Joint.{after_choice}
use Rattle.te_path.specs.declared.cells.Cells.{Cells}
use Rattle.te_path.specs.Paths.{StepsTo, IsChoice}
use Rattle.te_path.specs.Spots.{spelled, IsSpot}
use Rattle.te_path.proofs.Growing.{spelled_grown, spot_grown}
use Rattle.te_trail.specs.declared.planned.Planned.{Planned}
use Rattle.te_trail.specs.declared.store.PathRecord.{PathRecord}
use Rattle.te_trail.specs.declared.store.StoreMark.{StoreMark}
use Rattle.te_trail.specs.Trails.{Trail, FaceEachOther}
use Rattle.te_trail.specs.Records.{StoreIsWhole, SpotSpells, BothMet, origin_at}
use Rattle.te_terms.proofs.Lists.{get_low, found_here}
use Rattle.te_trail.proofs.StoresKeep.{whole_grown, whole_put, whole_marked, spells_grown}
use Rattle.te_trail.proofs.SpotsMove.{SpellsAt, spells_at, spells_low, choice_stop, send_stop, both_met}
use Rattle.te_trail.proofs.CallsLeave.{viewed, plant_leaves, PathThere, path_there, path_chooses, branch_leaves}
use Rattle.te_trail.proofs.CallsLeave.{paths_face, one_member, meet_leaves, mark_view, cut_done, event_there, on_one}
use Rattle.te_trail.proofs.CallsLeave.{on_two, kept_so}
use Rattle.te_trail.proofs.store.TrailStore.cut.Goals as goal

pub invariant_of-self : goal.invariant_of-self
invariant_of-self c = (cut_done c.self.inside.events.items c.self.inside.cells c.self.inside.records.items
    c.self.inside.ticks.items c.self.inside.marks.items c.args.self.now c.self.invariant c.self.view_is c.args.i
    c.index-mark.result.now c.requires c.index-mark.ensures c.truncate.new.self.items c.cut.new.self
    c.truncate-2.new.self.items c.truncate-3.new.self.items c.truncate-4.new.self.items c.truncate.ensures.items
    c.cut.ensures.cut c.truncate-2.ensures.items c.truncate-3.ensures.items c.truncate-4.ensures.items).0

pub returns : goal.returns
returns c = (cut_done c.self.inside.events.items c.self.inside.cells c.self.inside.records.items
    c.self.inside.ticks.items c.self.inside.marks.items c.args.self.now c.self.invariant c.self.view_is c.args.i
    c.index-mark.result.now c.requires c.index-mark.ensures c.truncate.new.self.items c.cut.new.self
    c.truncate-2.new.self.items c.truncate-3.new.self.items c.truncate-4.new.self.items c.truncate.ensures.items
    c.cut.ensures.cut c.truncate-2.ensures.items c.truncate-3.ensures.items c.truncate-4.ensures.items).1
