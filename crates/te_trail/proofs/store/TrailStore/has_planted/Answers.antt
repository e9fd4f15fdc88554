use Rattle.std.proofs.Common.{◌≡◌, ◌<◌, ◌≤◌, ap, ap₂, ◌∙◌, sym, subst, refl, length, suc, ◌+◌, Some, None, true, false, slice_get, arith, rules, vec_len, List, ℕ, nat_eq}
use Rattle.te_trail.specs.declared.store.PathRecord.{PathRecord}
use Rattle.te_trail.specs.Paths.{Path, sent, got}
use Rattle.te_trail.specs.Trails.{Trail}
use Rattle.te_trail.specs.Walks.{IsNoPlanting, IsNoBranch, IsNoMeeting}
use Rattle.te_trail.proofs.RecordsRead.{record_there, length_paths}
use Rattle.te_terms.proofs.Lists.{found_here}
use Rattle.te_trail.proofs.PastsTold.{Mate, mate_there}
use Rattle.te_trail.proofs.CallsLeave.{event_there}
use Rattle.te_trail.proofs.NotMade.{none_more, unplanted_by, unmade_by, unmet_by, Here, here, planting_none}
use Rattle.te_trail.proofs.NotMade.{planting_other, branch_none, branch_other, meeting_none, meeting_mate}
use Rattle.te_trail.proofs.NotMade.{meeting_other, meeting_apart, event_thread, at_choice, are_ends, agreeing}
use Rattle.te_trail.proofs.store.TrailStore.has_planted.Goals as goal

pub paths-preserved : goal.paths-preserved
paths-preserved c = none_more (IsNoPlanting c.args.self.now.paths c.index.result.now.thread) c.paths.k c.paths.invariant (c.is_planting.ensures c.if-is_planting.false)

pub returns : goal.returns
returns c = λ e. unplanted_by c.args.self.now c.args.i c.index.result.now.thread c.paths.k
    (event_thread c.self.inside.events.items c.args.self.now
    (ap (λ (t : Trail). t.events) c.self.view_is) c.args.i c.index.result.now
    (event_there c.self.inside.events.items c.self.inside.records.items c.self.inside.marks.items c.args.self.now
    c.self.view_is c.args.i c.index.result.now c.requires c.index.ensures))
    (omega (arith, c.paths-test.false, c.len-k-end.ensures.number, c.paths.auto.k-end)) c.paths.invariant
