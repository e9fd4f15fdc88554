use Rattle.std.proofs.Common.{◌≡◌, ◌++◌, ◌≤◌, length, drop}
use Rattle.te_reader.proofs.finder.want.Given as goal

abbrev pub decreases-loop-i : goal.decreases-loop-i
decreases-loop-i l = l.i

abbrev pub invariant-loop-i : goal.invariant-loop-i
invariant-loop-i l = (l.wanted ≡ drop l.i l.parts ++ l.initial.wanted) × (l.i ≤ length l.parts)
