use Rattle.std.proofs.Common.{◌≡◌, List, subst, arith}
use Rattle.std.specs.List.{AllByRecursion}
use Rattle.te_history.specs.State.{Standing, ended}
use Rattle.te_history.specs.Histories.{now}
use Rattle.te_history.proofs.AfterEntry.{length-state}
use Rattle.te_report.proofs.FirstCores.{take_past}
use Rattle.te_report.proofs.reading.is_whole.Goals as goal

pub returns : goal.returns
returns c =
    let h = c.args.hist.now in
    subst (λ (cs : List Standing). AllByRecursion (λ x. x ≡ ended) cs)
    (take_past c.loop-t.t (now h).callers (omega (arith, c.loop-t-test.false, c.callers-t-end.ensures.value, length-state h.callers h.entries))) c.loop-t.invariant
