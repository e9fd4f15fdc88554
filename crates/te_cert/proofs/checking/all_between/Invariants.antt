use Rattle.std.proofs.Common.{◌≡◌, ℕ, ◌<◌, Some, slice_get}
use Rattle.te_cert.specs.declared.cert.Meeting.{Meeting}
use Rattle.te_cert.specs.Checks.{IsBetween}
use Rattle.te_cert.proofs.checking.all_between.Given as goal

abbrev pub invariant-loop-j : goal.invariant-loop-j
invariant-loop-j l = record { before : (k : ℕ) (m : Meeting) → k < l.j → slice_get l.meetings k ≡ Some m → IsBetween l.members m }
