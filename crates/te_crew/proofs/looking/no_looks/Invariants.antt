use Rattle.std.proofs.Common.{◌≡◌, ◌≤◌, ◌-◌, length, All, None}
use Rattle.te_crew.proofs.looking.no_looks.Given as goal

abbrev pub invariant-loop-looks : goal.invariant-loop-looks
invariant-loop-looks l = (length l.looks.items ≤ l.count) × All (λ look. look ≡ None) l.looks.items

abbrev pub decreases-loop-looks : goal.decreases-loop-looks
decreases-loop-looks l = l.count - length l.looks.items
