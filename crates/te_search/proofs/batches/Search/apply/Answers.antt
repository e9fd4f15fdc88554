use Rattle.std.proofs.Common.{◌<◌, ◌∙◌, ℕ, List, Ok, Some, ap, sym, subst}
use Rattle.te_terms.specs.declared.event.Outcome.{Outcome}
use Rattle.te_search.specs.declared.batched.Look.{Look}
use Rattle.te_search.specs.Findings.{IsGroupOf}
use Rattle.te_search.specs.Batches.{Batches, IsLook, IsApplied, NoneTogether}
use Rattle.te_search.specs.Batching.{batches_of}
use Rattle.te_search.proofs.SearchSeen.{seen_as, held}
use Rattle.te_search.proofs.batches.Search.apply.Goals as goal

pub unreachable-requires : goal.unreachable-requires
unreachable-requires c = held c.self.inside.batched c.args.self.now c.in-None.is c.self.view_is c.requires.in_batch.goes_on

pub apply-requires-clause-lowest : goal.apply-requires-clause-lowest
apply-requires-clause-lowest c = c.requires.lowest ∙ ap (λ (s : Batches). s.applied)
    (sym (seen_as c.self.inside.batched c.in-Some.batched c.args.self.now c.in-Some.is c.self.view_is))

pub apply-requires-clause-some : goal.apply-requires-clause-some
apply-requires-clause-some c = subst (λ (s : Batches). c.args.p < s.batched)
    (sym (seen_as c.self.inside.batched c.in-Some.batched c.args.self.now c.in-Some.is c.self.view_is)) c.requires.in_batch.before

pub apply-requires-clause-look : goal.apply-requires-clause-look
apply-requires-clause-look c = subst (λ (s : Batches). IsLook s c.args.p c.args.look)
    (sym (seen_as c.self.inside.batched c.in-Some.batched c.args.self.now c.in-Some.is c.self.view_is)) c.requires.look

pub returns-in-Ok-None-clause-applied : goal.returns-in-Ok-None-clause-applied
returns-in-Ok-None-clause-applied c e = subst (λ (s : Batches). IsApplied s c.args.p c.args.look (batches_of (Some c.apply.new.self)))
    (seen_as c.self.inside.batched c.in-Some.batched c.args.self.now c.in-Some.is c.self.view_is)
    (c.in-Ok-None.ensures.applied (ap Ok c.in-Ok-None.field-0-is))

pub returns-in-Ok-None-clause-looks : goal.returns-in-Ok-None-clause-looks
returns-in-Ok-None-clause-looks c e = subst (λ (s : Batches). (q : ℕ) (l : Look) → q < s.batched → IsLook s q l → IsLook (batches_of (Some c.apply.new.self)) q l)
    (seen_as c.self.inside.batched c.in-Some.batched c.args.self.now c.in-Some.is c.self.view_is)
    (c.in-Ok-None.ensures.looks (ap Ok c.in-Ok-None.field-0-is))

pub returns-in-Ok-None-clause-none : goal.returns-in-Ok-None-clause-none
returns-in-Ok-None-clause-none c e = subst (λ (s : Batches). NoneTogether s c.args.p)
    (seen_as c.self.inside.batched c.in-Some.batched c.args.self.now c.in-Some.is c.self.view_is)
    (c.in-Ok-None.ensures.none (ap Ok c.in-Ok-None.field-0-is))

pub returns-in-Ok-Some-clause-group : goal.returns-in-Ok-Some-clause-group
returns-in-Ok-Some-clause-group c cert e = subst (λ (s : Batches). (outcomes : List Outcome) × IsGroupOf s.parked cert outcomes)
    (seen_as c.self.inside.batched c.in-Some.batched c.args.self.now c.in-Some.is c.self.view_is)
    (c.in-Ok-Some.ensures.group cert (ap Ok c.in-Ok-Some.field-0-is ∙ e))
