use Rattle.std.proofs.Common.{sym, ◌∙◌}
use Rattle.std.proofs.lemmas.Result.{err_from_is_err_and}
use Rattle.te_cert.specs.Players.{of_group, seats_of}
use Rattle.te_cert.proofs.SeatsByPlace.{has_seat, standing}
use Rattle.te_cert.proofs.Meets.{misfit, sender_fails, receiver_fails_so, both_go_so, sends_there, receives_there}
use Rattle.te_cert.proofs.playing.meet.Goals as goal

pub bounds-seats-sender : goal.bounds-seats-sender
bounds-seats-sender c = has_seat c.args.cells.now c.args.group.now.members.now c.args.group.now.lents.now c.args.seats.now c.args.meeting.now.sender
    c.requires.as_many c.requires.seated c.requires.between.0

pub bounds-seats-receiver : goal.bounds-seats-receiver
bounds-seats-receiver c = has_seat c.args.cells.now c.args.group.now.members.now c.args.group.now.lents.now c.args.seats.now
    c.args.meeting.now.receiver c.requires.as_many c.requires.seated c.requires.between.1

pub returns-in_default-clause-err : goal.returns-in_default-clause-err
returns-in_default-clause-err c =
    let ps = seats_of c.args.cells.now (of_group c.args.group.now) c.args.seats.now in
    let sender = standing c.args.cells.now c.args.group.now.members.now c.args.group.now.lents.now c.args.seats.now c.args.meeting.now.sender
    c.index-seats-sender.result c.requires.as_many c.requires.seated c.requires.between.0 c.index-seats-sender.is in
    let receiver = standing c.args.cells.now c.args.group.now.members.now c.args.group.now.lents.now c.args.seats.now c.args.meeting.now.receiver
    c.index-seats-receiver.result c.requires.as_many c.requires.seated c.requires.between.1 c.index-seats-receiver.is in
    let a = c.index-seats-sender.result.spot.stop in
    let b = c.index-seats-receiver.result.spot.stop in
    misfit c.args.j c.args.meeting.now ps a b sender receiver (sym c.passes.ensures ∙ c.in_default.is)

pub go_on-requires-clause-stands : goal.go_on-requires-clause-stands
go_on-requires-clause-stands c =
    let ps = seats_of c.args.cells.now (of_group c.args.group.now) c.args.seats.now in
    let sender = standing c.args.cells.now c.args.group.now.members.now c.args.group.now.lents.now c.args.seats.now c.args.meeting.now.sender
    c.index-seats-sender.result c.requires.as_many c.requires.seated c.requires.between.0 c.index-seats-sender.is in
    let receiver = standing c.args.cells.now c.args.group.now.members.now c.args.group.now.lents.now c.args.seats.now c.args.meeting.now.receiver
    c.index-seats-receiver.result c.requires.as_many c.requires.seated c.requires.between.1 c.index-seats-receiver.is in
    let a = c.index-seats-sender.result.spot.stop in
    let b = c.index-seats-receiver.result.spot.stop in
    sends_there c.args.j c.args.meeting.now ps a b sender receiver c.in-Some.value (sym c.passes.ensures ∙ c.in-Some.is)

pub returns-in_err-go_on-clause-err : goal.returns-in_err-go_on-clause-err
returns-in_err-go_on-clause-err c =
    let ps = seats_of c.args.cells.now (of_group c.args.group.now) c.args.seats.now in
    let sender = standing c.args.cells.now c.args.group.now.members.now c.args.group.now.lents.now c.args.seats.now c.args.meeting.now.sender
    c.index-seats-sender.result c.requires.as_many c.requires.seated c.requires.between.0 c.index-seats-sender.is in
    let receiver = standing c.args.cells.now c.args.group.now.members.now c.args.group.now.lents.now c.args.seats.now c.args.meeting.now.receiver
    c.index-seats-receiver.result c.requires.as_many c.requires.seated c.requires.between.1 c.index-seats-receiver.is in
    let a = c.index-seats-sender.result.spot.stop in
    let b = c.index-seats-receiver.result.spot.stop in
    let p = err_from_is_err_and c.from_residual.result c.from_residual.ensures.1 in
    rw (p.1, p.2) (sender_fails c.args.j c.args.meeting.now ps a b sender receiver c.in-Some.value (sym c.passes.ensures ∙ c.in-Some.is) c.in_err-go_on.field-0.0 c.in_err-go_on.ensures.err)

pub go_on-requires-2-clause-stands : goal.go_on-requires-2-clause-stands
go_on-requires-2-clause-stands c =
    let ps = seats_of c.args.cells.now (of_group c.args.group.now) c.args.seats.now in
    let sender = standing c.args.cells.now c.args.group.now.members.now c.args.group.now.lents.now c.args.seats.now c.args.meeting.now.sender
    c.index-seats-sender.result c.requires.as_many c.requires.seated c.requires.between.0 c.index-seats-sender.is in
    let receiver = standing c.args.cells.now c.args.group.now.members.now c.args.group.now.lents.now c.args.seats.now c.args.meeting.now.receiver
    c.index-seats-receiver.result c.requires.as_many c.requires.seated c.requires.between.1 c.index-seats-receiver.is in
    let a = c.index-seats-sender.result.spot.stop in
    let b = c.index-seats-receiver.result.spot.stop in
    receives_there c.args.j c.args.meeting.now ps a b sender receiver c.in-Some.value (sym c.passes.ensures ∙ c.in-Some.is) c.requires.between.2
    (seats_of c.go_on.new.cells (of_group c.args.group.now) c.go_on.new.seats) c.in_ok-go_on.ensures.ok

pub returns-clause-ok : goal.returns-clause-ok
returns-clause-ok c =
    let ps = seats_of c.args.cells.now (of_group c.args.group.now) c.args.seats.now in
    let sender = standing c.args.cells.now c.args.group.now.members.now c.args.group.now.lents.now c.args.seats.now c.args.meeting.now.sender
    c.index-seats-sender.result c.requires.as_many c.requires.seated c.requires.between.0 c.index-seats-sender.is in
    let receiver = standing c.args.cells.now c.args.group.now.members.now c.args.group.now.lents.now c.args.seats.now c.args.meeting.now.receiver
    c.index-seats-receiver.result c.requires.as_many c.requires.seated c.requires.between.1 c.index-seats-receiver.is in
    let a = c.index-seats-sender.result.spot.stop in
    let b = c.index-seats-receiver.result.spot.stop in
    both_go_so c.args.j c.args.meeting.now ps a b sender receiver c.in-Some.value (sym c.passes.ensures ∙ c.in-Some.is) c.requires.between.2
    (seats_of c.go_on.new.cells (of_group c.args.group.now) c.go_on.new.seats) c.in_ok-go_on.ensures.ok
    (seats_of c.go_on-2.new.cells (of_group c.args.group.now) c.go_on-2.new.seats) c.go_on-2.result c.go_on-2.ensures.ok

pub returns-clause-err : goal.returns-clause-err
returns-clause-err c =
    let ps = seats_of c.args.cells.now (of_group c.args.group.now) c.args.seats.now in
    let sender = standing c.args.cells.now c.args.group.now.members.now c.args.group.now.lents.now c.args.seats.now c.args.meeting.now.sender
    c.index-seats-sender.result c.requires.as_many c.requires.seated c.requires.between.0 c.index-seats-sender.is in
    let receiver = standing c.args.cells.now c.args.group.now.members.now c.args.group.now.lents.now c.args.seats.now c.args.meeting.now.receiver
    c.index-seats-receiver.result c.requires.as_many c.requires.seated c.requires.between.1 c.index-seats-receiver.is in
    let a = c.index-seats-sender.result.spot.stop in
    let b = c.index-seats-receiver.result.spot.stop in
    receiver_fails_so c.args.j c.args.meeting.now ps a b sender receiver c.in-Some.value (sym c.passes.ensures ∙ c.in-Some.is) c.requires.between.2
    (seats_of c.go_on.new.cells (of_group c.args.group.now) c.go_on.new.seats) c.in_ok-go_on.ensures.ok
    c.go_on-2.result c.go_on-2.ensures.err
