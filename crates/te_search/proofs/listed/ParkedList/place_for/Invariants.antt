use Rattle.std.proofs.Common.{◌≡◌, ◌<◌, ℕ, Some, slice_get}
use Rattle.te_terms.specs.declared.event.Parked.{Parked}
use Rattle.te_search.proofs.listed.ParkedList.place_for.Given as goal

abbrev pub invariant-places : goal.invariant-places
invariant-places l = (j : ℕ) (p : Parked) → j < l.i → slice_get l.self j ≡ Some p → ¬ (l.thread < p.thread)
