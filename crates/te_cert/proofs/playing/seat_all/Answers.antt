use Rattle.std.proofs.Common.{arith}
use Rattle.std.proofs.lemmas.Result.{err_from_is_err_and}
use Rattle.te_path.proofs.Growing.{grows_on, grows_none}
use Rattle.te_cert.specs.Players.{of_group, entered}
use Rattle.te_cert.proofs.SeatsByPlace.{as_many_enter}
use Rattle.te_cert.proofs.SoFar.{advanced_none, advanced_more, advances_fail, all_seated, all_have_advanced}
use Rattle.te_cert.proofs.playing.seat_all.Goals as goal

pub loop-i-init : goal.loop-i-init
loop-i-init c = record {
  grows = grows_none c.args.cells.now c.requires.linked;
  so_far = rw c.requires.empty (advanced_none c.args.cells.now (of_group c.args.group.now));
}

pub returns-in_err-take_seat-clause-err : goal.returns-in_err-take_seat-clause-err
returns-in_err-take_seat-clause-err c =
    let p = err_from_is_err_and c.from_residual.result c.from_residual.ensures.1 in
    rw (p.1, p.2) (advances_fail c.loop-i.cells (of_group c.args.group.now) c.loop-i.seats.items c.loop-i.i (entered c.entrant.result) _
    c.entrant.ensures.is c.loop-i.invariant.so_far c.in_err-take_seat.ensures.err)

pub loop-i-preserved : goal.loop-i-preserved
loop-i-preserved c =
    let taken = c.in_ok-take_seat.ensures.ok in
    record {
      grows = grows_on c.args.cells.now c.loop-i.cells c.take_seat.new.cells c.loop-i.invariant.grows c.in_ok-take_seat.ensures.grows;
      so_far = rw taken.put
          (advanced_more c.loop-i.cells c.take_seat.new.cells (of_group c.args.group.now) c.loop-i.seats.items c.loop-i.i (entered c.entrant.result)
          taken.seat c.entrant.ensures.is c.in_ok-take_seat.ensures.grows c.loop-i.invariant.so_far taken.seated);
    }

pub returns-clause-seated : goal.returns-clause-seated
returns-clause-seated c =
    let many = as_many_enter c.args.group.now.members.now c.args.group.now.lents.now c.requires.as_many in
    all_seated c.loop-i.cells (of_group c.args.group.now) c.loop-i.seats.items c.loop-i.i (omega (arith, many, c.loop-i-test.false)) c.loop-i.invariant.so_far

pub returns-clause-ok : goal.returns-clause-ok
returns-clause-ok c =
    let many = as_many_enter c.args.group.now.members.now c.args.group.now.lents.now c.requires.as_many in
    all_have_advanced c.loop-i.cells (of_group c.args.group.now) c.loop-i.seats.items c.loop-i.i (omega (arith, many, c.loop-i-test.false)) c.loop-i.invariant.so_far
