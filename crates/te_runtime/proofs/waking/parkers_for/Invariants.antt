use Rattle.std.proofs.Common.{◌≡◌, length}
use Rattle.te_runtime.proofs.waking.parkers_for.Given as goal

-- so many parkers were made
abbrev pub invariant-loop-made : goal.invariant-loop-made
invariant-loop-made l = length l.parkers.items ≡ l.made
