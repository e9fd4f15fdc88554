use Rattle.std.proofs.Common.{◌≡◌, subst, arith, List}
use Rattle.std.specs.List.{AllByRecursion}
use Rattle.te_history.specs.State.{Standing, ended}
use Rattle.te_board.specs.Boards.{state_of}
use Rattle.te_terms.proofs.Lists.{take_all}
use Rattle.te_serial.proofs.rounds.all_ended.Goals as goal

pub returns-clause-all : goal.returns-clause-all
returns-clause-all c =
    subst (λ (cs : List Standing). AllByRecursion (λ x. x ≡ ended) cs)
    (take_all (state_of c.args.board.now).callers c.loop-t.t
    (let le = c.loop-t-test.false in let n = c.callers_of-t-end.ensures.value in let m = c.callers_of-t-end.ensures.each in omega arith)) c.loop-t.invariant
