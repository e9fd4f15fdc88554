use Rattle.std.proofs.Common.{sym, subst, List}
use Rattle.std.specs.List.{AllByRecursion}
use Rattle.te_history.specs.State.{Standing, parked}
use Rattle.te_history.specs.Follows.{IsParkedOrEnded}
use Rattle.te_board.specs.Boards.{state_of}
use Rattle.te_serial.proofs.BoardStates.{caller_within}
use Rattle.te_serial.proofs.ClosingsSoFar.{lowest_stands, stuck_state, closed_stuck}
use Rattle.te_serial.proofs.closing.close.Goals as goal

pub declare_stuck-requires-clause-parked : goal.declare_stuck-requires-clause-parked
declare_stuck-requires-clause-parked c = lowest_stands (state_of c.args.board.now) c.in-Some.lowest c.in-Some.ensures.some.1

pub declare_stuck-requires-clause-caller : goal.declare_stuck-requires-clause-caller
declare_stuck-requires-clause-caller c =
    let stood = lowest_stands (state_of c.args.board.now) c.in-Some.lowest c.in-Some.ensures.some.1 in
    caller_within c.args.board.now c.in-Some.lowest (parked stood.0 stood.1) stood.2

pub end_parked-requires-clause-stuck : goal.end_parked-requires-clause-stuck
end_parked-requires-clause-stuck c = (stuck_state c.args.board.now c.declare_stuck.new.board c.in-Some.lowest c.in_ok-declare_stuck-in-Some.ensures.ok).0

pub end_parked-requires-clause-settled : goal.end_parked-requires-clause-settled
end_parked-requires-clause-settled c =
    subst (λ (cs : List Standing). AllByRecursion IsParkedOrEnded cs)
    (sym (stuck_state c.args.board.now c.declare_stuck.new.board c.in-Some.lowest c.in_ok-declare_stuck-in-Some.ensures.ok).1) c.in-Some.ensures.some.0.settled

pub returns-in_ok-declare_stuck-in-Some-clause-ok : goal.returns-in_ok-declare_stuck-in-Some-clause-ok
returns-in_ok-declare_stuck-in-Some-clause-ok c =
    closed_stuck c.args.board.now c.declare_stuck.new.board c.end_parked.new.board c.in-Some.lowest c.in-Some.ensures.some.0 c.in-Some.ensures.some.1
    c.in_ok-declare_stuck-in-Some.ensures.ok c.end_parked.ensures
