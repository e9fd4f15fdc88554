use Rattle.std.proofs.Common.{◌≡◌}
use Rattle.te_search.specs.Works.{IsWithinBudget}
use Rattle.te_search.specs.Stacks.{IsStack, count_left}
use Rattle.te_search.proofs.stack.Stack.search.Given as goal

abbrev pub invariant-events : goal.invariant-events
invariant-events l = IsStack l.self × (l.self.parked ≡ l.fn.self.parked) × IsWithinBudget l.self.work l.budget

abbrev pub decreases-events : goal.decreases-events
decreases-events l = count_left l.self.threads l.self.parked
