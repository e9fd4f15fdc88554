use Rattle.std.proofs.Common.{◌≡◌, ◌↔◌, [], Some, length, sym, subst}
use Rattle.te_terms.specs.Joint.{CanCommit}
use Rattle.te_search.specs.Batches.{Batches, NextBatch}
use Rattle.te_search.specs.Batching.{batches_of}
use Rattle.te_search.proofs.SearchSeen.{seen_as, held}
use Rattle.te_search.proofs.batches.Search.batch.Goals as goal

pub unreachable-requires : goal.unreachable-requires
unreachable-requires c = held c.self.inside.batched c.args.self.now c.in-None.is c.self.view_is c.requires.goes_on

pub next_batch-requires-clause-applied : goal.next_batch-requires-clause-applied
next_batch-requires-clause-applied c = subst (λ (s : Batches). s.applied ≡ s.batched)
    (sym (seen_as c.self.inside.batched c.in-Some.batched c.args.self.now c.in-Some.is c.self.view_is)) c.requires.applied

pub returns-in-Ok-clause-ok : goal.returns-in-Ok-clause-ok
returns-in-Ok-clause-ok c = subst (λ (s : Batches). NextBatch s c.in-Ok.batch (batches_of (Some c.next_batch.new.self)))
    (seen_as c.self.inside.batched c.in-Some.batched c.args.self.now c.in-Some.is c.self.view_is) c.in-Ok.ensures.ok

pub returns-in-Ok-clause-empty : goal.returns-in-Ok-clause-empty
returns-in-Ok-clause-empty c = subst (λ (s : Batches). (c.in-Ok.batch ≡ []) ↔ (s.batched ≡ length s.trail.paths))
    (seen_as c.self.inside.batched c.in-Some.batched c.args.self.now c.in-Some.is c.self.view_is) c.in-Ok.ensures.empty

pub returns-in-Ok-clause-blocked : goal.returns-in-Ok-clause-blocked
returns-in-Ok-clause-blocked c e = subst (λ (s : Batches). ¬ CanCommit s.parked)
    (seen_as c.self.inside.batched c.in-Some.batched c.args.self.now c.in-Some.is c.self.view_is) (c.in-Ok.ensures.none e)
