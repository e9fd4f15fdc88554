use Rattle.std.proofs.Common.{Bool, refl, subst}
use Rattle.te_cert.specs.Players.{entered, seat_of, Comes}
use Rattle.te_cert.proofs.Seats.{takes_seat, lacks_so}
use Rattle.te_cert.proofs.seat.take_seat.Goals as goal

pub returns-in-Ok-false-clause-err : goal.returns-in-Ok-false-clause-err
returns-in-Ok-false-clause-err c =
    let e = entered c.args.entrant.now in
    let start = seat_of c.start.new.self e (record { spot = c.in-Ok.spot; used = 0 }) in
    let end = seat_of c.advance.new.cells e c.advance.new.seat in
    lacks_so c.args.i e start end c.in-Ok.ensures.settles refl (subst (λ (done : Bool). Comes start done end) c.in-Ok-false.field-0-test c.in-Ok-false.ensures.comes)

pub returns-in-Ok-push-clause-ok : goal.returns-in-Ok-push-clause-ok
returns-in-Ok-push-clause-ok c =
    let e = entered c.args.entrant.now in
    let start = seat_of c.start.new.self e (record { spot = c.in-Ok.spot; used = 0 }) in
    let end = seat_of c.advance.new.cells e c.advance.new.seat in
    takes_seat c.args.i e start c.advance.new.cells c.advance.new.seat c.args.seats.now.items c.push.new.self.items c.in-Ok.ensures.settles refl
    (subst (λ (done : Bool). Comes start done end) c.in-Ok-true.field-0-test c.in-Ok-true.ensures.comes) c.in-Ok-true.ensures.seat c.in-Ok-push.ensures.items
