use Rattle.std.proofs.Common.{◌≡◌, ◌<◌, ℕ, slice_get, Some}
use Rattle.te_trail.specs.Paths.{Path}
use Rattle.te_search.specs.Groups.{IsFinal}
use Rattle.te_search.proofs.assembly.open_place.Given as goal

abbrev pub invariant-places : goal.invariant-places
invariant-places l = (k m : ℕ) (x : Path) → k < l.i → slice_get l.joined k ≡ Some (Some m) → slice_get l.store.paths m ≡ Some x → IsFinal l.store.events x
