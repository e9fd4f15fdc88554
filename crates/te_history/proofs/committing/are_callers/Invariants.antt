use Rattle.std.proofs.Common.{◌≡◌, ℕ, ◌<◌, Some}
use Rattle.std.specs.List.{slice_get}
use Rattle.te_cert.specs.declared.cert.Member.{Member}
use Rattle.te_history.proofs.committing.are_callers.Given as goal

abbrev pub invariant-loop-i : goal.invariant-loop-i
invariant-loop-i l = (k : ℕ) (m : Member) → k < l.i → slice_get l.members k ≡ Some m → m.thread < l.callers
