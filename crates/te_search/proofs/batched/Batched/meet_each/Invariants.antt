use Rattle.std.proofs.Common.{◌≡◌, slice_get, Some}
use Rattle.te_trail.specs.Paths.{Path}
use Rattle.te_search.specs.Works.{IsWithinBudget}
use Rattle.te_search.specs.Batching.{BatchStays}
use Rattle.te_search.proofs.EndsMet.{Meets}
use Rattle.te_search.proofs.batched.Batched.meet_each.Given as goal

abbrev pub invariant-others : goal.invariant-others
invariant-others l = IsWithinBudget l.self.work l.fn.self.budget
    × ((x : Path) → slice_get l.fn.self.work.store.paths l.fn.self.applied ≡ Some x
    → Meets l.fn.self.work l.self.work l.fn.self.applied x l.sends l.others l.i)
    × BatchStays l.fn.self l.self
