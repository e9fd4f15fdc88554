use Rattle.std.proofs.Common.{◌≡◌, length}
use Rattle.te_search.specs.Stacks.{IsStack}
use Rattle.te_search.proofs.stack.Stack.cut_within.Given as goal

abbrev pub invariant-levels : goal.invariant-levels
invariant-levels l = IsStack l.self × (l.self.parked ≡ l.fn.self.parked)

abbrev pub decreases-levels : goal.decreases-levels
decreases-levels l = length l.self.levels.items
