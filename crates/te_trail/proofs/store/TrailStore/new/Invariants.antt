use Rattle.std.proofs.Common.{◌≡◌, take, []}
use Rattle.te_terms.specs.Joint.{as_group}
use Rattle.te_trail.proofs.store.TrailStore.new.Given as goal

abbrev pub invariant-events : goal.invariant-events
invariant-events l = (l.store.events ≡ as_group (take l.i l.parked)) × (l.store.paths ≡ []) × (l.store.marks ≡ [])
