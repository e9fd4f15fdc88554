use Rattle.std.proofs.Common.{◌≡◌, slice_get, Some}
use Rattle.te_trail.specs.Paths.{Path}
use Rattle.te_search.specs.Works.{IsWithinBudget, IsMeeting, others_of, WorkKeeps}
use Rattle.te_search.proofs.work.Work.meet_all.Given as goal

abbrev pub invariant-others : goal.invariant-others
invariant-others l = IsWithinBudget l.self l.budget
    × ((x : Path) → slice_get l.fn.self.store.paths l.p ≡ Some x → IsMeeting l.fn.self l.self x l.sends (others_of l.fn.self l.channel l.sends) l.i)
    × WorkKeeps l.fn.self l.self
