use Rattle.std.proofs.Common.{◌≢◌, ℕ, ◌<◌}
use Rattle.std.specs.Prelude.{slice_index}
use Rattle.te_forms.proofs.ring.is_among.Given as goal

abbrev pub invariant-loop-c : goal.invariant-loop-c
invariant-loop-c l = (k : ℕ) → k < l.c-index → slice_index l.channels k ≢ l.channel
