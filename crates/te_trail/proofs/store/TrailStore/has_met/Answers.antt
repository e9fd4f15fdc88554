use Rattle.std.proofs.Common.{◌≡◌, ◌<◌, ◌≤◌, ap, ap₂, ◌∙◌, sym, subst, refl, length, suc, ◌+◌, Some, None, true, false, slice_get, arith, rules, vec_len, List, ℕ, nat_eq}
use Rattle.te_trail.specs.declared.store.PathRecord.{PathRecord}
use Rattle.te_trail.specs.Paths.{Path, sent, got}
use Rattle.te_trail.specs.Trails.{Trail}
use Rattle.te_trail.specs.Walks.{IsNoPlanting, IsNoBranch, IsNoMeeting}
use Rattle.te_trail.proofs.RecordsRead.{record_there, length_paths}
use Rattle.te_terms.proofs.Lists.{found_here}
use Rattle.te_trail.proofs.PastsTold.{Mate, mate_there}
use Rattle.te_trail.proofs.CallsLeave.{event_there}
use Rattle.te_trail.proofs.NotMade.{none_more, unplanted_by, unmade_by, unmet_by, Here, here, planting_none}
use Rattle.te_trail.proofs.NotMade.{planting_other, branch_none, branch_other, meeting_none, meeting_mate}
use Rattle.te_trail.proofs.NotMade.{meeting_other, meeting_apart, event_thread, at_choice, are_ends, agreeing}
use Rattle.te_trail.proofs.store.TrailStore.has_met.Goals as goal

pub paths-preserved : goal.paths-preserved
paths-preserved c = none_more (IsNoMeeting c.args.self.now.paths c.args.p c.args.q) c.paths.k c.paths.invariant (c.is_meeting.ensures c.if-is_meeting.false)

pub returns : goal.returns
returns c = λ e. unmet_by c.args.self.now c.args.p c.args.q c.paths.k (omega (arith, c.paths-test.false, c.len-k-end.ensures.number, c.paths.auto.k-end)) c.paths.invariant
