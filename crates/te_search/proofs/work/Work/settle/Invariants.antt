use Rattle.std.proofs.Common.{◌≡◌, ◌+◌, ◌-◌, ◌*◌, length}
use Rattle.te_search.specs.Works.{IsWork, IsWithinBudget, WorkKeeps}
use Rattle.te_search.proofs.work.Work.settle.Given as goal

abbrev pub invariant-work : goal.invariant-work
invariant-work l = IsWork l.self × IsWithinBudget l.self l.budget × (l.self.store.events ≡ l.fn.self.store.events) × WorkKeeps l.fn.self l.self

abbrev pub decreases-work : goal.decreases-work
decreases-work l = length l.self.pending.items + 2 * (l.budget - length l.self.store.paths)
