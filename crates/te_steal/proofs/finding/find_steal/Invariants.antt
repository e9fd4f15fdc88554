use Rattle.std.proofs.Common.{◌≡◌, ◌-◌, ◌^◌}
use Rattle.te_crew.specs.Shares.{IsBetweenBatches}
use Rattle.te_steal.proofs.finding.find_steal.Given as goal

abbrev pub invariant-batches : goal.invariant-batches
invariant-batches g l = IsBetweenBatches l.search × (l.search.parked ≡ l.parked) × (l.search.budget ≡ l.budget)

abbrev pub decreases-batches : goal.decreases-batches
decreases-batches g l = 2 ^ 32 - l.search.batched
