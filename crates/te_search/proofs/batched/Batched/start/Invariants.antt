use Rattle.std.proofs.Common.{◌≡◌}
use Rattle.te_search.specs.Batching.{IsStarting}
use Rattle.te_search.proofs.batched.Batched.start.Given as goal

abbrev pub invariant-events : goal.invariant-events
invariant-events l = IsStarting l.batched l.i × (l.batched.parked ≡ l.parked) × (l.batched.budget ≡ l.budget)
