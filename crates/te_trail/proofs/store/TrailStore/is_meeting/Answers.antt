use Rattle.std.proofs.Common.{◌≡◌, ◌<◌, ◌≤◌, ap, ap₂, ◌∙◌, sym, subst, refl, length, suc, ◌+◌, Some, None, true, false, slice_get, arith, rules, vec_len, get_or, List, ℕ, nat_eq}
use Rattle.te_trail.specs.declared.store.PathRecord.{PathRecord}
use Rattle.te_trail.specs.Paths.{Path, sent, got}
use Rattle.te_trail.specs.Trails.{Trail}
use Rattle.te_trail.specs.Walks.{IsNoPlanting, IsNoBranch, IsNoMeeting}
use Rattle.te_trail.proofs.RecordsRead.{record_there, length_paths}
use Rattle.te_terms.proofs.Lists.{found_here}
use Rattle.te_trail.proofs.PastsTold.{Mate, mate_there}
use Rattle.te_trail.proofs.CallsLeave.{event_there}
use Rattle.te_trail.proofs.NotMade.{none_more, unplanted_by, unmade_by, unmet_by, Here, here, planting_none}
use Rattle.te_trail.proofs.NotMade.{planting_other, branch_none, branch_other, meeting_none, meeting_mate}
use Rattle.te_trail.proofs.NotMade.{meeting_other, meeting_apart, event_thread, at_choice, are_ends, agreeing}
use Rattle.te_trail.proofs.store.TrailStore.is_meeting.Goals as goal

pub index-mate-requires : goal.index-mate-requires
index-mate-requires c =
    let low = (mate_there c.self.inside.records.items c.self.inside.ticks.items c.self.invariant.kept.fit
    c.self.invariant.kept.pairs c.args.k c.index-record.result.now
    (record_there c.self.inside.records.items c.args.self.now.paths c.args.k c.index-record.result.now
    (ap (λ (t : Trail). t.paths) c.self.view_is) c.requires c.index-record.ensures) c.in-Sender.is).low in
    let count : vec_len c.self.inside.records ≡ length c.self.inside.records.items = search rules in
    omega (arith, count, low)

pub returns-then-record-p : goal.returns-then-record-p
returns-then-record-p c =
    let m : Mate c.self.inside.records.items c.args.k = mate_there c.self.inside.records.items c.self.inside.ticks.items
    c.self.invariant.kept.fit c.self.invariant.kept.pairs c.args.k c.index-record.result.now
    (record_there c.self.inside.records.items c.args.self.now.paths c.args.k c.index-record.result.now
    (ap (λ (t : Trail). t.paths) c.self.view_is) c.requires c.index-record.ensures) c.in-Sender.is in
    let there : slice_get c.self.inside.records.items (suc c.args.k) ≡ Some c.index-mate.result.now =
    found_here c.self.inside.records.items (suc c.args.k) c.index-mate.result.now m.low
    (c.index-mate.ensures ∙ ap (λ i. get_or c.self.inside.records.items i c.index-mate.result.now)
    (let n : c.args.k + 1 ≡ suc c.args.k = omega arith in n)) in
    λ e. meeting_mate c.args.self.now.paths c.args.k c.args.p c.args.q c.index-mate.result.now
    (subst (λ (ps : List Path). (i : ℕ) (s r : Path) → slice_get ps i ≡ Some (sent s r)
    → slice_get ps (suc i) ≡ Some (got s r)) (ap (λ (t : Trail). t.paths) c.self.view_is) c.self.invariant.kept.pairs)
    (here c.self.inside.records.items c.self.inside.ticks.items c.args.self.now.paths c.self.invariant.kept.fit
    (ap (λ (t : Trail). t.paths) c.self.view_is) (suc c.args.k) c.index-mate.result.now there) e

pub returns-else-record-p : goal.returns-else-record-p
returns-else-record-p c = λ e. meeting_apart c.args.self.now.paths c.args.k c.args.p c.args.q c.index-record.result.now
    (here c.self.inside.records.items c.self.inside.ticks.items c.args.self.now.paths c.self.invariant.kept.fit
    (ap (λ (t : Trail). t.paths) c.self.view_is) c.args.k c.index-record.result.now
    (record_there c.self.inside.records.items c.args.self.now.paths c.args.k c.index-record.result.now
    (ap (λ (t : Trail). t.paths) c.self.view_is) c.requires c.index-record.ensures)) c.if-record-p.false

pub returns-in_default : goal.returns-in_default
returns-in_default c = λ e. meeting_other c.args.self.now.paths c.args.k c.args.p c.args.q c.index-record.result.now
    (here c.self.inside.records.items c.self.inside.ticks.items c.args.self.now.paths c.self.invariant.kept.fit
    (ap (λ (t : Trail). t.paths) c.self.view_is) c.args.k c.index-record.result.now
    (record_there c.self.inside.records.items c.args.self.now.paths c.args.k c.index-record.result.now
    (ap (λ (t : Trail). t.paths) c.self.view_is) c.requires c.index-record.ensures)) c.in_default.not-Sender
