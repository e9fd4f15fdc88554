use Rattle.std.proofs.Common.{◌≤◌, length}
use Rattle.te_example.proofs.events.barriers.Given as goal

abbrev pub invariant-role : goal.invariant-role
invariant-role l = length l.events.items ≤ l.role
