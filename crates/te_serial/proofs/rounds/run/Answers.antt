use Rattle.te_serial.proofs.Continuing.{goes_on}
use Rattle.te_serial.proofs.RoundsDone.{run_more, run_done}
use Rattle.te_serial.proofs.rounds.run.Goals as goal

pub rounds-preserved : goal.rounds-preserved
rounds-preserved c = record {
  rounds = run_more c.args.board.now c.rounds.board c.round.new.board c.rounds.invariant.rounds c.in_ok-round.ensures.round;
  ready = c.in_ok-round.ensures.ready;
  continues = goes_on c.args.board.now c.rounds.board c.round.new.board c.args.cores.now.items c.rounds.cores.items c.round.new.cores.items
      c.rounds.invariant.continues c.in_ok-round.ensures.continues;
}

pub returns-clause-rounds : goal.returns-clause-rounds
returns-clause-rounds c = run_done c.args.board.now c.rounds.board c.rounds.invariant.rounds c.rounds-test.ensures.all
