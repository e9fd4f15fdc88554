use Rattle.std.proofs.Common.{Bool, inr, refl, subst}
use Rattle.te_cert.specs.Players.{of_group, entered, seat_of, value_at, Comes, player_handed}
use Rattle.te_cert.proofs.SeatsByPlace.{has_seat, seat_read, is_seat, seat_there, seated_stay, still_seated, went_on, lacked}
use Rattle.te_cert.proofs.playing.go_on.Goals as goal

pub bounds-seats-i : goal.bounds-seats-i
bounds-seats-i c = has_seat c.args.cells.now c.args.group.now.members.now c.args.group.now.lents.now c.args.seats.now c.args.i c.requires.as_many c.requires.seated c.requires.within

pub bounds-seats-i-in-Ok-true : goal.bounds-seats-i-in-Ok-true
bounds-seats-i-in-Ok-true c = has_seat c.args.cells.now c.args.group.now.members.now c.args.group.now.lents.now c.args.seats.now c.args.i c.requires.as_many c.requires.seated c.requires.within

pub hand-requires-clause-seat : goal.hand-requires-clause-seat
hand-requires-clause-seat c =
    let here = seat_read c.args.cells.now c.args.group.now.members.now c.args.group.now.lents.now c.args.seats.now c.args.i c.index-seats-i.result
    c.requires.as_many c.requires.seated c.requires.within c.index-seats-i.is in
    is_seat c.args.cells.now (of_group c.args.group.now) c.args.seats.now c.args.i (entered c.entrant.result) c.index-seats-i.result c.requires.seated c.entrant.ensures.is here

pub hand-requires-clause-stands : goal.hand-requires-clause-stands
hand-requires-clause-stands c =
    let here = seat_read c.args.cells.now c.args.group.now.members.now c.args.group.now.lents.now c.args.seats.now c.args.i c.index-seats-i.result
    c.requires.as_many c.requires.seated c.requires.within c.index-seats-i.is in
    c.requires.stands (seat_of c.args.cells.now (entered c.entrant.result) c.index-seats-i.result)
    (seat_there c.args.cells.now (of_group c.args.group.now) c.args.seats.now c.args.i (entered c.entrant.result) c.index-seats-i.result c.entrant.ensures.is here)

pub returns-in-Ok-true-clause-seated : goal.returns-in-Ok-true-clause-seated
returns-in-Ok-true-clause-seated c =
    still_seated c.hand.new.cells (of_group c.args.group.now) c.args.seats.now c.args.i (entered c.entrant.result) c.hand.new.seat
    (seated_stay c.args.cells.now c.hand.new.cells (of_group c.args.group.now) c.args.seats.now c.in-Ok-true.ensures.grows c.requires.seated) c.entrant.ensures.is c.in-Ok-true.ensures.seat

pub returns-in-Ok-true-clause-ok : goal.returns-in-Ok-true-clause-ok
returns-in-Ok-true-clause-ok c =
    let here = seat_read c.args.cells.now c.args.group.now.members.now c.args.group.now.lents.now c.args.seats.now c.args.i c.index-seats-i.result
    c.requires.as_many c.requires.seated c.requires.within c.index-seats-i.is in
    let start = seat_of c.args.cells.now (entered c.entrant.result) c.index-seats-i.result in
    let end = seat_of c.hand.new.cells (entered c.entrant.result) c.hand.new.seat in
    went_on c.args.cells.now c.hand.new.cells (of_group c.args.group.now) c.args.seats.now c.args.i (entered c.entrant.result) c.index-seats-i.result
    (value_at c.args.end) c.requires.seated c.entrant.ensures.is here
    c.hand.new.seat c.in-Ok-true.ensures.grows (subst (λ (done : Bool). Comes (player_handed (value_at c.args.end) start) done end) c.in-Ok-true.field-0-test c.in-Ok-true.ensures.comes)

pub returns-in-Ok-false-clause-err : goal.returns-in-Ok-false-clause-err
returns-in-Ok-false-clause-err c =
    let here = seat_read c.args.cells.now c.args.group.now.members.now c.args.group.now.lents.now c.args.seats.now c.args.i c.index-seats-i.result
    c.requires.as_many c.requires.seated c.requires.within c.index-seats-i.is in
    let start = seat_of c.args.cells.now (entered c.entrant.result) c.index-seats-i.result in
    let end = seat_of c.hand.new.cells (entered c.entrant.result) c.hand.new.seat in
    inr (
      refl,
      lacked c.args.cells.now c.hand.new.cells (of_group c.args.group.now) c.args.seats.now c.args.i (entered c.entrant.result) c.index-seats-i.result
          (value_at c.args.end) c.requires.seated c.entrant.ensures.is here
          end (subst (λ (done : Bool). Comes (player_handed (value_at c.args.end) start) done end) c.in-Ok-false.field-0-test c.in-Ok-false.ensures.comes),
    )
