use Rattle.std.proofs.Common.{◌≡◌, ◌-◌, ◌≤◌, take, drop, length}
use Rattle.te_runtime.proofs.telling.entries_from.Given as goal

abbrev pub invariant-loop-entry : goal.invariant-loop-entry
invariant-loop-entry l = (l.from ≤ l.place) × (l.place ≤ length l.history.entries) × (l.copies.items ≡ drop l.from (take l.place l.history.entries))

abbrev pub decreases-loop-entry : goal.decreases-loop-entry
decreases-loop-entry l = length l.history.entries - l.place
