use Rattle.std.proofs.Common.{ℕ, ◌<◌}
use Rattle.te_history.specs.Follows.{Stands, IsParkedOrEnded}
use Rattle.te_history.specs.Histories.{now}
use Rattle.te_history.proofs.following.first_live.Given as goal

abbrev pub invariant-loop-t : goal.invariant-loop-t
invariant-loop-t l = (k : ℕ) (standing : _) → k < l.t → Stands (now l.hist) k standing → IsParkedOrEnded standing
