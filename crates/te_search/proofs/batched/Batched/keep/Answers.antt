use Rattle.std.proofs.Common.{refl}
use Rattle.te_terms.specs.declared.event.Outcome.TheVariants as outcomes
use Rattle.te_path.specs.declared.spot.Stop.TheVariants as stops
use Rattle.te_search.specs.Batching.{KeepsOne}
use Rattle.te_search.proofs.Working.{on_ok}
use Rattle.te_search.proofs.EndsKept.{not_yet_kept, keeps_sender, keeps_receiver, keeps_no_end, keeps_no_choice}
use Rattle.te_search.proofs.EndsKept.{keeps_no_dead_end}
use Rattle.te_search.proofs.batched.Batched.keep.Goals as goal

pub returns-in-Send-clause-ok : goal.returns-in-Send-clause-ok
returns-in-Send-clause-ok c = on_ok _ (KeepsOne c.args.self.now.work _ c.args.p) c.keep_at.result
    (λ wa. keeps_sender c.args.self.now.work _ c.args.p c.in-Send.channel c.in-Send.field-1 c.requires.kept
    c.requires.path c.in-Send.ensures.told refl wa) c.keep_at.ensures.ok

pub returns-in-Recv-clause-ok : goal.returns-in-Recv-clause-ok
returns-in-Recv-clause-ok c = on_ok _ (KeepsOne c.args.self.now.work _ c.args.p) c.keep_at-in-Recv.result
    (λ wa. keeps_receiver c.args.self.now.work _ c.args.p c.in-Recv.channel c.requires.kept c.requires.path
    c.in-Recv.ensures.told refl wa) c.keep_at-in-Recv.ensures.ok

pub returns-in-Done-clause-ok : goal.returns-in-Done-clause-ok
returns-in-Done-clause-ok c = keeps_no_end c.args.self.now.work c.args.p
    (stops.Done c.in-Done.field-0) c.requires.kept c.requires.path c.in-Done.ensures.told
    (λ t h. (outcomes.Gives c.in-Done.field-0, h))

pub returns-in-Raised-clause-ok : goal.returns-in-Raised-clause-ok
returns-in-Raised-clause-ok c = keeps_no_end c.args.self.now.work c.args.p
    (stops.Raised c.in-Raised.field-0) c.requires.kept c.requires.path c.in-Raised.ensures.told
    (λ t h. (outcomes.Raises c.in-Raised.field-0, h))

pub returns-in-Choice-clause-ok : goal.returns-in-Choice-clause-ok
returns-in-Choice-clause-ok c = keeps_no_choice c.args.self.now.work c.args.p c.requires.kept c.requires.path
    c.in-Choice.ensures.told

pub returns-in-Dead-clause-ok : goal.returns-in-Dead-clause-ok
returns-in-Dead-clause-ok c = keeps_no_dead_end c.args.self.now.work c.args.p c.requires.kept c.requires.path
    c.in-Dead.ensures.told

pub keep_at-requires : goal.keep_at-requires
keep_at-requires c = not_yet_kept c.args.self.now.work c.args.p c.requires.kept

pub keep_at-requires-in-Recv : goal.keep_at-requires-in-Recv
keep_at-requires-in-Recv c = not_yet_kept c.args.self.now.work c.args.p c.requires.kept
