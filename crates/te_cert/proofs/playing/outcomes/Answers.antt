use Rattle.std.proofs.Common.{arith}
use Rattle.std.proofs.lemmas.Result.{err_from_is_err_and}
use Rattle.te_cert.specs.Players.{of_group, entered}
use Rattle.te_cert.proofs.SeatsByPlace.{as_many_enter, has_seat, seat_read, is_seat}
use Rattle.te_cert.proofs.SoFar.{ended_on, ended_fails, all_ended}
use Rattle.te_cert.proofs.playing.outcomes.Goals as goal

pub bounds-seats-i : goal.bounds-seats-i
bounds-seats-i c = has_seat c.args.cells.now c.args.group.now.members.now c.args.group.now.lents.now c.args.seats.now c.loop-i.i c.requires.as_many c.requires.seated c.loop-i-test.true

pub ending-requires : goal.ending-requires
ending-requires c =
    let here = seat_read c.args.cells.now c.args.group.now.members.now c.args.group.now.lents.now c.args.seats.now c.loop-i.i c.index-seats-i.result
    c.requires.as_many c.requires.seated c.loop-i-test.true c.index-seats-i.is in
    is_seat c.args.cells.now (of_group c.args.group.now) c.args.seats.now c.loop-i.i (entered c.entrant.result) c.index-seats-i.result c.requires.seated c.entrant.ensures.is here

pub returns-in_err-outcome-clause-err : goal.returns-in_err-outcome-clause-err
returns-in_err-outcome-clause-err c =
    let here = seat_read c.args.cells.now c.args.group.now.members.now c.args.group.now.lents.now c.args.seats.now c.loop-i.i c.index-seats-i.result
    c.requires.as_many c.requires.seated c.loop-i-test.true c.index-seats-i.is in
    let p = err_from_is_err_and c.from_residual.result c.from_residual.ensures.1 in
    rw (p.1, p.2)
    (ended_fails c.args.cells.now (of_group c.args.group.now) c.args.seats.now c.loop-i.outcomes c.loop-i.i (entered c.entrant.result)
    c.index-seats-i.result _ c.entrant.ensures.is here c.loop-i.invariant.so_far c.in_err-outcome.field-0.0 c.in_err-outcome.ensures)

pub loop-i-preserved : goal.loop-i-preserved
loop-i-preserved c =
    let here = seat_read c.args.cells.now c.args.group.now.members.now c.args.group.now.lents.now c.args.seats.now c.loop-i.i c.index-seats-i.result
    c.requires.as_many c.requires.seated c.loop-i-test.true c.index-seats-i.is in
    rw c.in-Ok.ensures.ok (record {
      so_far = ended_on c.args.cells.now (of_group c.args.group.now) c.args.seats.now c.loop-i.outcomes c.loop-i.i (entered c.entrant.result)
          c.index-seats-i.result _ c.entrant.ensures.is here c.loop-i.invariant.so_far c.in_ok-outcome.outcome c.in_ok-outcome.ensures;
    })

pub returns-clause-ok : goal.returns-clause-ok
returns-clause-ok c =
    all_ended c.args.cells.now (of_group c.args.group.now) c.args.seats.now c.loop-i.outcomes c.loop-i.i
    (omega (arith, as_many_enter c.args.group.now.members.now c.args.group.now.lents.now c.requires.as_many, c.loop-i-test.false))
    c.loop-i.invariant.so_far
