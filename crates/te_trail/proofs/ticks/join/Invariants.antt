use Rattle.std.proofs.Common.{◌≡◌, ◌≤◌, ◌+◌, ◌-◌, vec_capacity}
use Rattle.te_trail.proofs.TicksMerge.{IsJoining}
use Rattle.te_trail.proofs.ticks.join.Given as goal

abbrev pub invariant-merge : goal.invariant-merge
invariant-merge l = IsJoining l.fn.ticks.items l.ticks.items l.fn.a l.fn.b l.one l.two l.i l.j (vec_capacity l.ticks)

abbrev pub decreases-merge : goal.decreases-merge
decreases-merge l = (l.i_end + l.j_end) - (l.i + l.j)
