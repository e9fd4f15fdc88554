use Rattle.std.proofs.Common.{◌≡◌, ◌<◌, ap, ap₂, ◌∙◌, sym, subst, refl, length, map, ◌++◌, ◌∷◌, [], ◌+◌, Some, None, true, false, slice_get, take, arith, rules, vec_len, List, ℕ, Option}
use Rattle.std.proofs.lemmas.List.{map-append}
use Rattle.te_trail.specs.declared.store.PathRecord.{PathRecord}
use Rattle.te_trail.specs.declared.moves.Move.{Move}
use Rattle.te_trail.specs.Paths.{Path}
use Rattle.te_trail.specs.Clocks.{IsSound}
use Rattle.te_trail.specs.Stores.{IsStore}
use Rattle.te_trail.specs.Trails.{Trail, TellsWhether, IsClock, label_of}
use Rattle.te_trail.specs.Walks.{IsInPast, TellsPastMove, TellsMove}
use Rattle.te_trail.specs.Records.{paths_of}
use Rattle.te_trail.proofs.RecordsRead.{record_there, length_paths}
use Rattle.te_terms.proofs.Lists.{found_here, take_all}
use Rattle.te_trail.proofs.StoresHold.{is_store, held, sounds}
use Rattle.te_trail.proofs.PastsTold.{clock_low, rests_by_clock, rests_not, move_told, no_label_root, no_label_receiver}
use Rattle.te_trail.proofs.PastsTold.{label_left, label_right, Mate, mate_there, past_told, past_not, TrailSo}
use Rattle.te_trail.proofs.PastsTold.{trail_step, trail_end}
use Rattle.te_trail.proofs.store.TrailStore.rests.Goals as goal

pub above-requires-clause-q_within : goal.above-requires-clause-q_within
above-requires-clause-q_within c = clock_low c.args.self.now.paths c.args.p c.thread.result c.in-Some.deepest
    c.requires.p_within (subst (IsClock c.args.self.now.paths c.args.p c.thread.result) c.in-Some.is c.clock.ensures)

pub returns-in-Some : goal.returns-in-Some
returns-in-Some c = rests_by_clock c.args.self.now.paths (sounds c.self.inside.events.items c.self.inside.cells
    c.self.inside.records.items c.self.inside.ticks.items c.args.self.now.paths c.self.invariant.kept
    (ap (λ (t : Trail). t.paths) c.self.view_is)) c.args.p c.args.i c.thread.result c.in-Some.deepest c.above.result
    c.thread.ensures (subst (IsClock c.args.self.now.paths c.args.p c.thread.result) c.in-Some.is c.clock.ensures)
    c.above.ensures

pub returns-in-None : goal.returns-in-None
returns-in-None c = rests_not c.args.self.now.paths (sounds c.self.inside.events.items c.self.inside.cells
    c.self.inside.records.items c.self.inside.ticks.items c.args.self.now.paths c.self.invariant.kept
    (ap (λ (t : Trail). t.paths) c.self.view_is)) c.args.p c.args.i c.thread.result c.thread.ensures
    (subst (IsClock c.args.self.now.paths c.args.p c.thread.result) c.in-None.is c.clock.ensures)
