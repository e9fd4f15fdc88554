use Rattle.te_path.proofs.Growing.{grows_on}
use Rattle.te_cert.specs.Players.{entered, seat_of, value_at}
use Rattle.te_cert.proofs.Seats.{handed_comes_so}
use Rattle.te_cert.proofs.seat.hand.Goals as goal

pub returns-clause-grows : goal.returns-clause-grows
returns-clause-grows c = grows_on c.args.cells.now c.pass_on.new.cells c.advance.new.cells c.in_ok-pass_on.ensures.grows c.advance.ensures.grows

pub returns-clause-comes : goal.returns-clause-comes
returns-clause-comes c =
    let e = entered c.args.entrant.now in
    handed_comes_so (value_at c.args.end) (seat_of c.args.cells.now e c.args.seat.now) (seat_of c.pass_on.new.cells e c.pass_on.new.seat)
    (seat_of c.advance.new.cells e c.advance.new.seat) c.advance.result
    c.in_ok-pass_on.ensures.passed c.advance.ensures.comes
