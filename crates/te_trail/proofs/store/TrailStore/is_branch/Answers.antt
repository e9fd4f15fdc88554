use Rattle.std.proofs.Common.{◌≡◌, ◌<◌, ◌≤◌, ap, ap₂, ◌∙◌, sym, subst, refl, length, suc, ◌+◌, Some, None, true, false, slice_get, arith, rules, vec_len, List, ℕ, nat_eq}
use Rattle.te_trail.specs.declared.store.PathRecord.{PathRecord}
use Rattle.te_trail.specs.declared.store.Last.TheVariants as lasts
use Rattle.te_trail.specs.Paths.{Path, sent, got}
use Rattle.te_trail.specs.Trails.{Trail}
use Rattle.te_trail.specs.Walks.{IsNoPlanting, IsNoBranch, IsNoMeeting}
use Rattle.te_trail.proofs.RecordsRead.{record_there, length_paths}
use Rattle.te_terms.proofs.Lists.{found_here}
use Rattle.te_trail.proofs.PastsTold.{Mate, mate_there}
use Rattle.te_trail.proofs.CallsLeave.{event_there}
use Rattle.te_trail.proofs.NotMade.{none_more, unplanted_by, unmade_by, unmet_by, Here, here, planting_none}
use Rattle.te_trail.proofs.NotMade.{planting_other, branch_none, branch_other, meeting_none, meeting_mate}
use Rattle.te_trail.proofs.NotMade.{meeting_other, meeting_apart, event_thread, at_choice, are_ends, agreeing}
use Rattle.te_trail.proofs.store.TrailStore.is_branch.Goals as goal

pub returns-then-left : goal.returns-then-left
returns-then-left c = λ e. branch_none c.args.self.now.paths c.args.k c.args.p c.args.left c.index-record.result.now
    (here c.self.inside.records.items c.self.inside.ticks.items c.args.self.now.paths c.self.invariant.kept.fit
    (ap (λ (t : Trail). t.paths) c.self.view_is) c.args.k c.index-record.result.now
    (record_there c.self.inside.records.items c.args.self.now.paths c.args.k c.index-record.result.now
    (ap (λ (t : Trail). t.paths) c.self.view_is) c.requires c.index-record.ensures)) e

pub returns-else-left : goal.returns-else-left
returns-else-left c = λ e. branch_other c.args.self.now.paths c.args.k c.args.p c.args.left c.index-record.result.now
    (here c.self.inside.records.items c.self.inside.ticks.items c.args.self.now.paths c.self.invariant.kept.fit
    (ap (λ (t : Trail). t.paths) c.self.view_is) c.args.k c.index-record.result.now
    (record_there c.self.inside.records.items c.args.self.now.paths c.args.k c.index-record.result.now
    (ap (λ (t : Trail). t.paths) c.self.view_is) c.requires c.index-record.ensures)) (λ l. c.if-left.false)
    (λ r. (let both : lasts.Left ≡ lasts.Right = sym c.in-Left.is ∙ r in cc))

pub returns-then-not-left : goal.returns-then-not-left
returns-then-not-left c = λ e. branch_none c.args.self.now.paths c.args.k c.args.p c.args.left c.index-record.result.now
    (here c.self.inside.records.items c.self.inside.ticks.items c.args.self.now.paths c.self.invariant.kept.fit
    (ap (λ (t : Trail). t.paths) c.self.view_is) c.args.k c.index-record.result.now
    (record_there c.self.inside.records.items c.args.self.now.paths c.args.k c.index-record.result.now
    (ap (λ (t : Trail). t.paths) c.self.view_is) c.requires c.index-record.ensures)) e

pub returns-else-not-left : goal.returns-else-not-left
returns-else-not-left c = λ e. branch_other c.args.self.now.paths c.args.k c.args.p c.args.left
    c.index-record.result.now (here c.self.inside.records.items c.self.inside.ticks.items c.args.self.now.paths
    c.self.invariant.kept.fit (ap (λ (t : Trail). t.paths) c.self.view_is) c.args.k c.index-record.result.now
    (record_there c.self.inside.records.items c.args.self.now.paths c.args.k c.index-record.result.now
    (ap (λ (t : Trail). t.paths) c.self.view_is) c.requires c.index-record.ensures))
    (λ l. (let both : lasts.Right ≡ lasts.Left = sym c.in-Right.is ∙ l in cc)) (λ r. c.if-not-left.false)

pub returns-in_default : goal.returns-in_default
returns-in_default c = λ e. branch_other c.args.self.now.paths c.args.k c.args.p c.args.left c.index-record.result.now
    (here c.self.inside.records.items c.self.inside.ticks.items c.args.self.now.paths c.self.invariant.kept.fit
    (ap (λ (t : Trail). t.paths) c.self.view_is) c.args.k c.index-record.result.now
    (record_there c.self.inside.records.items c.args.self.now.paths c.args.k c.index-record.result.now
    (ap (λ (t : Trail). t.paths) c.self.view_is) c.requires c.index-record.ensures))
    (λ l. absurd (c.in_default.not-Left l)) (λ r. absurd (c.in_default.not-Right r))
