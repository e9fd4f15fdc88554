use Rattle.te_search.proofs.EndsKept.{IsKeeping}
use Rattle.te_search.proofs.batched.Batched.next_batch.Given as goal

abbrev pub invariant-paths : goal.invariant-paths
invariant-paths l = IsKeeping l.fn.self l.self l.p l.batch
