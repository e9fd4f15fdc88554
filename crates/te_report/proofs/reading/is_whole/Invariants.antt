use Rattle.std.proofs.Common.{◌≡◌, take}
use Rattle.std.specs.List.{AllByRecursion}
use Rattle.te_history.specs.State.{ended}
use Rattle.te_history.specs.Histories.{now}
use Rattle.te_report.proofs.reading.is_whole.Given as goal

abbrev pub invariant-loop-t : goal.invariant-loop-t
invariant-loop-t l = AllByRecursion (λ c. c ≡ ended) (take l.t (now l.hist).callers)
