use Rattle.te_serial.specs.Finishing.{HasCause}
use Rattle.te_serial.proofs.Continuing.{goes_on}
use Rattle.te_serial.proofs.Openings.{told}
use Rattle.te_serial.proofs.RoundsDone.{round_done, settled_none, closed_continues}
use Rattle.te_serial.proofs.rounds.round.Goals as goal

pub returns-in_err-open_all-clause-cause : goal.returns-in_err-open_all-clause-cause
returns-in_err-open_all-clause-cause c =
    told c.from_residual.result c.in_err-open_all.field-0.0
    (λ fault. HasCause c.open_all.new.board c.args.cores.now.items c.args.budget fault) c.from_residual.ensures.1 (c.in_err-open_all.ensures.cause c.args.budget)

pub commit_all-requires-clause-none : goal.commit_all-requires-clause-none
commit_all-requires-clause-none c = settled_none c.open_all.new.board c.in_ok-open_all.ensures.opened.settled

pub returns-clause-round : goal.returns-clause-round
returns-clause-round c = round_done c.args.board.now c.open_all.new.board c.commit_all.new.board c.close.new.board c.in_ok-open_all.ensures.opened
    c.in_ok-commit_all.ensures.committed c.in_ok-close.ensures.ok

pub returns-clause-continues : goal.returns-clause-continues
returns-clause-continues c =
    let first = c.in_ok-open_all.ensures.continues in
    let second = c.in_ok-commit_all.ensures.continues in
    let cores = c.commit_all.new.cores.items in
    goes_on c.args.board.now c.commit_all.new.board c.close.new.board c.args.cores.now.items cores cores
    (goes_on c.args.board.now c.open_all.new.board c.commit_all.new.board c.args.cores.now.items c.args.cores.now.items cores first second)
    (closed_continues c.commit_all.new.board c.close.new.board cores second.house c.in_ok-close.ensures.ok)
