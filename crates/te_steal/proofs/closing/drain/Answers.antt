use Rattle.std.proofs.Common.{ap, inl, ◌∙◌, arith, length, length-append}
use Rattle.crossbeam_deque.specs.Handles.{worker_view}
use Rattle.te_steal.proofs.OrderKept.{no_longer}
use Rattle.te_steal.proofs.RuleKept.{takes, finds}
use Rattle.te_steal.proofs.closing.drain.Goals as goal

pub pop_as-requires-clause-fifo : goal.pop_as-requires-clause-fifo
pop_as-requires-clause-fifo c fifo = takes _ _ (inl (ap (λ v. v.owns) c.numbers.invariant.1 ∙ c.requires.owns))

pub pop_as-requires-clause-empty : goal.pop_as-requires-clause-empty
pop_as-requires-clause-empty c = finds _ _

-- more than were pushed can't have been taken
pub unreachable-requires : goal.unreachable-requires
unreachable-requires c =
    let is = c.numbers.invariant in
    let v = worker_view c.args.worker in
    let all = no_longer (worker_view c.numbers.worker).took (worker_view c.numbers.worker).pushed is.3 in
    let took = ap (λ w. length w.took) is.1 ∙ length-append v.took c.numbers.left.items in
    let pushed = ap (λ w. length w.pushed) is.1 in
    omega (arith, all, took, pushed, is.2, c.numbers-test.false, c.requires.few)
