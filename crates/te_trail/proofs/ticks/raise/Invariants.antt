use Rattle.std.proofs.Common.{◌≡◌, ◌≤◌, ◌+◌, ◌-◌, vec_capacity}
use Rattle.te_trail.proofs.TicksMerge.{IsRaising}
use Rattle.te_trail.proofs.ticks.raise.Given as goal

abbrev pub invariant-copy : goal.invariant-copy
invariant-copy l = IsRaising l.fn.ticks.items l.ticks.items l.fn.a l.own l.i (vec_capacity l.ticks)
