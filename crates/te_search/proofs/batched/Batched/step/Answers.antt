use Rattle.std.proofs.Common.{◌∙◌, ap, sym, subst, Some}
use Rattle.te_search.specs.declared.batched.Look.TheVariants as looks
use Rattle.te_search.specs.Batches.{IsLook}
use Rattle.te_search.specs.Batching.{EndsWith, BatchStepsTo, batches_of}
use Rattle.te_terms.proofs.Lists.{if_ok}
use Rattle.te_search.proofs.BatchSteps.{ends_step, dead_step, fork_step, meet_step}
use Rattle.te_search.proofs.batched.Batched.step.Goals as goal

pub end-requires-clause-at_end : goal.end-requires-clause-at_end
end-requires-clause-at_end c = subst
    (IsLook (batches_of (Some c.args.self.now)) c.args.self.now.applied) c.in-Final.is c.requires.look

pub returns-in-Final-clause-ok : goal.returns-in-Final-clause-ok
returns-in-Final-clause-ok c = if_ok (EndsWith c.args.self.now c.end.new.self)
    (BatchStepsTo c.args.self.now c.args.look.now c.end.new.self) c.end.result
    (λ found g. ends_step c.args.self.now c.end.new.self c.args.look.now found c.in-Final.is g) c.end.ensures.ok

pub returns-in-Dead-clause-ok : goal.returns-in-Dead-clause-ok
returns-in-Dead-clause-ok c = dead_step c.args.self.now c.args.look.now c.requires.batched c.requires.some c.in-Dead.is
    c.requires.look

pub fork-requires-clause-stands : goal.fork-requires-clause-stands
fork-requires-clause-stands c = subst
    (IsLook (batches_of (Some c.args.self.now)) c.args.self.now.applied) c.in-Fork.is c.requires.look

pub meet-requires-clause-look : goal.meet-requires-clause-look
meet-requires-clause-look c = subst (λ l. IsLook (batches_of (Some c.args.self.now)) c.args.self.now.applied
    (looks.Ends l)) (sym c.as_slice.ensures)
    (subst (IsLook (batches_of (Some c.args.self.now)) c.args.self.now.applied) c.in-Ends.is c.requires.look)

pub returns-in-Ok-clause-ok : goal.returns-in-Ok-clause-ok
returns-in-Ok-clause-ok c = fork_step c.args.self.now c.fork.new.self c.args.look.now c.in-Fork.is c.in-Ok.ensures.ok

pub returns-in-Ok-meet-clause-ok : goal.returns-in-Ok-meet-clause-ok
returns-in-Ok-meet-clause-ok c = meet_step c.args.self.now c.meet.new.self c.args.look.now c.as_slice.result.now
    (c.in-Ends.is ∙ ap (λ l. looks.Ends l) (sym c.as_slice.ensures)) c.in-Ok-meet.ensures.ok
