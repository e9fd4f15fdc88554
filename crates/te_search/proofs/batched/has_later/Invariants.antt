use Rattle.std.proofs.Common.{◌≡◌, ◌<◌, ◌≤◌, ℕ, slice_get, Some}
use Rattle.te_search.proofs.batched.has_later.Given as goal

abbrev pub invariant-places : goal.invariant-places
invariant-places l = (k m : ℕ) → k < l.i → slice_get l.joined k ≡ Some (Some m) → m ≤ l.p
