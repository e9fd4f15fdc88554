use Rattle.std.proofs.Common.{◌≡◌, ◌++◌}
use Rattle.te_history.specs.State.{parked_list}
use Rattle.te_history.specs.Histories.{now}
use Rattle.te_history.proofs.ParkedLists.{parked_after}
use Rattle.te_history.proofs.parking.parked_of.Given as goal

-- the callers so far are copied, and those from here on are left
abbrev pub invariant-loop-thread : goal.invariant-loop-thread
invariant-loop-thread l = l.parked.items ++ parked_after l.thread (now l.hist) ≡ parked_list (now l.hist)
