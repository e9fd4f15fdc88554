use Rattle.std.proofs.Common.{suc, ◌≡◌, ◌<◌, ap, ap₂, ◌∙◌, sym, subst, refl, length, map, ◌++◌, ◌∷◌, [], ◌+◌, Some, None, true, false, slice_get, take, arith, rules, vec_len, List, ℕ, Option}
use Rattle.std.proofs.lemmas.List.{map-append}
use Rattle.te_trail.specs.declared.store.PathRecord.{PathRecord}
use Rattle.te_trail.specs.declared.moves.Move.{Move}
use Rattle.te_trail.specs.declared.moves.Move.TheVariants as moves
use Rattle.te_trail.specs.Paths.{Path}
use Rattle.te_trail.specs.Clocks.{IsSound}
use Rattle.te_trail.specs.Stores.{IsStore}
use Rattle.te_trail.specs.Trails.{Trail, TellsWhether, IsClock, label_of}
use Rattle.te_trail.specs.Walks.{IsInPast, TellsPastMove, TellsMove}
use Rattle.te_trail.specs.Records.{paths_of}
use Rattle.te_trail.proofs.RecordsRead.{record_there, length_paths}
use Rattle.te_terms.proofs.Lists.{found_here, take_all}
use Rattle.te_trail.proofs.StoresHold.{is_store, held, sounds}
use Rattle.te_trail.proofs.PastsTold.{clock_low, rests_by_clock, rests_not, move_told, no_label_root, no_label_receiver}
use Rattle.te_trail.proofs.PastsTold.{label_left, label_right, Mate, mate_there, past_told, past_not, TrailSo}
use Rattle.te_trail.proofs.PastsTold.{trail_step, trail_end}
use Rattle.te_trail.proofs.store.TrailStore.move_at.Goals as goal

pub index-mate-requires : goal.index-mate-requires
index-mate-requires c =
    let low = (mate_there c.self.inside.records.items c.self.inside.ticks.items c.self.invariant.kept.fit
    c.self.invariant.kept.pairs c.args.i c.index-record.result.now
    (record_there c.self.inside.records.items c.args.self.now.paths c.args.i c.index-record.result.now
    (ap (λ (t : Trail). t.paths) c.self.view_is) c.requires c.index-record.ensures) c.in-Sender.is).low in
    let count : vec_len c.self.inside.records ≡ length c.self.inside.records.items = search rules in
    omega (arith, count, low)

pub returns-in-Root : goal.returns-in-Root
returns-in-Root c = move_told c.self.inside.records.items c.self.inside.ticks.items c.args.self.now.paths
    c.self.invariant.kept.fit (ap (λ (t : Trail). t.paths) c.self.view_is) c.args.i c.index-record.result.now
    (record_there c.self.inside.records.items c.args.self.now.paths c.args.i c.index-record.result.now
    (ap (λ (t : Trail). t.paths) c.self.view_is) c.requires c.index-record.ensures) None
    (λ y ey made same. no_label_root c.index-record.result.now.last y c.in-Root.is made)

pub returns-in-Left : goal.returns-in-Left
returns-in-Left c = move_told c.self.inside.records.items c.self.inside.ticks.items c.args.self.now.paths
    c.self.invariant.kept.fit (ap (λ (t : Trail). t.paths) c.self.view_is) c.args.i c.index-record.result.now
    (record_there c.self.inside.records.items c.args.self.now.paths c.args.i c.index-record.result.now
    (ap (λ (t : Trail). t.paths) c.self.view_is) c.requires c.index-record.ensures)
    (Some (moves.Branch c.index-record.result.now.thread true))
    (λ y ey made same. label_left c.index-record.result.now.last y c.index-record.result.now.thread c.in-Left.is made
    same)

pub returns-in-Right : goal.returns-in-Right
returns-in-Right c = move_told c.self.inside.records.items c.self.inside.ticks.items c.args.self.now.paths
    c.self.invariant.kept.fit (ap (λ (t : Trail). t.paths) c.self.view_is) c.args.i c.index-record.result.now
    (record_there c.self.inside.records.items c.args.self.now.paths c.args.i c.index-record.result.now
    (ap (λ (t : Trail). t.paths) c.self.view_is) c.requires c.index-record.ensures)
    (Some (moves.Branch c.index-record.result.now.thread false))
    (λ y ey made same. label_right c.index-record.result.now.last y c.index-record.result.now.thread c.in-Right.is made
    same)

pub returns-in-Sender : goal.returns-in-Sender
returns-in-Sender c =
    let m : Mate c.self.inside.records.items c.args.i = mate_there c.self.inside.records.items c.self.inside.ticks.items
    c.self.invariant.kept.fit c.self.invariant.kept.pairs c.args.i c.index-record.result.now
    (record_there c.self.inside.records.items c.args.self.now.paths c.args.i c.index-record.result.now
    (ap (λ (t : Trail). t.paths) c.self.view_is) c.requires c.index-record.ensures) c.in-Sender.is in
    let there : slice_get c.self.inside.records.items (c.args.i + 1) ≡ Some c.index-mate.result.now =
    found_here c.self.inside.records.items (c.args.i + 1) c.index-mate.result.now
    (omega (arith, m.low)) c.index-mate.ensures in
    move_told c.self.inside.records.items c.self.inside.ticks.items c.args.self.now.paths c.self.invariant.kept.fit
    (ap (λ (t : Trail). t.paths) c.self.view_is) c.args.i c.index-record.result.now
    (record_there c.self.inside.records.items c.args.self.now.paths c.args.i c.index-record.result.now
    (ap (λ (t : Trail). t.paths) c.self.view_is) c.requires c.index-record.ensures)
    (Some (moves.Meet c.index-record.result.now.thread c.index-mate.result.now.thread))
    (λ y ey made same. m.tells y c.index-mate.result.now c.index-record.result.now.thread ey
    (ap (slice_get c.self.inside.records.items) (let n : suc c.args.i ≡ c.args.i + 1 = omega arith in n) ∙ there)
    same)

pub returns-in-Receiver : goal.returns-in-Receiver
returns-in-Receiver c = move_told c.self.inside.records.items c.self.inside.ticks.items c.args.self.now.paths
    c.self.invariant.kept.fit (ap (λ (t : Trail). t.paths) c.self.view_is) c.args.i c.index-record.result.now
    (record_there c.self.inside.records.items c.args.self.now.paths c.args.i c.index-record.result.now
    (ap (λ (t : Trail). t.paths) c.self.view_is) c.requires c.index-record.ensures) None
    (λ y ey made same. no_label_receiver c.index-record.result.now.last y c.in-Receiver.is made)
