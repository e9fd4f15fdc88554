use Rattle.te_board.specs.Boards.{state_of}
use Rattle.te_serial.proofs.Continuing.{goes_on}
use Rattle.te_serial.proofs.RoundsDone.{stuck_settled, shown_stuck, ended_continues, told_whole, told_rounds}
use Rattle.te_serial.proofs.finishing.finish_cores.Goals as goal

pub end_parked-requires-clause-settled : goal.end_parked-requires-clause-settled
end_parked-requires-clause-settled c =
    stuck_settled c.take_given.new.board c.callers_of-callers.ensures.legal (shown_stuck (state_of c.take_given.new.board).stuck c.in-Stuck.ensures)

pub returns-in-Stuck-clause-continues : goal.returns-in-Stuck-clause-continues
returns-in-Stuck-clause-continues c =
    let first = c.take_given.ensures.continues in
    let cores = c.take_given.new.cores.items in
    goes_on c.args.board.now c.take_given.new.board c.end_parked.new.board c.args.cores.now.items cores cores first
    (ended_continues c.take_given.new.board c.end_parked.new.board cores first.house c.end_parked.ensures)

pub returns-in-Running-clause-whole : goal.returns-in-Running-clause-whole
returns-in-Running-clause-whole c = told_whole c.run.result c.take_given.new.board c.run.new.board c.run.ensures.rounds

pub returns-in-Running-clause-rounds : goal.returns-in-Running-clause-rounds
returns-in-Running-clause-rounds c = told_rounds c.run.result c.args.board.now c.take_given.new.board c.run.new.board c.take_given.ensures.taken c.run.ensures.rounds
