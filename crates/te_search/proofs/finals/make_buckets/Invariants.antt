use Rattle.std.proofs.Common.{◌≡◌, ℕ, ◌+◌, ◌-◌, length}
use Rattle.te_search.specs.Finals.{numbers_at}
use Rattle.te_search.proofs.finals.make_buckets.Given as goal

abbrev pub invariant-more : goal.invariant-more
invariant-more l = (k : ℕ) → numbers_at l.buckets.items k ≡ numbers_at l.initial.buckets.items k

abbrev pub decreases-more : goal.decreases-more
decreases-more l = l.bucket + 1 - length l.buckets.items
