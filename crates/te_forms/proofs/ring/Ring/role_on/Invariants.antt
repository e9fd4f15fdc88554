use Rattle.std.proofs.Common.{◌≢◌, ℕ, ◌<◌}
use Rattle.std.specs.Prelude.{slice_index}
use Rattle.te_forms.proofs.ring.Ring.role_on.Given as goal

abbrev pub invariant-loop-role : goal.invariant-loop-role
invariant-loop-role l = (k : ℕ) → k < l.role → slice_index l.self k ≢ l.channel
