use Rattle.std.proofs.Common.{◌≡◌, List, Ok, length, sym, ap, subst, ◌∙◌}
use Rattle.std.specs.Prelude.{IfOk, IfErr}
use Rattle.std.proofs.lemmas.Result.{err_from_is_err_and}
use Rattle.te_terms.specs.Joint.{Label}
use Rattle.te_cert.specs.declared.seat.Seat.{Seat}
use Rattle.te_cert.specs.Play.{all_meet, endings}
use Rattle.te_cert.specs.Players.{of_group, seats_of, table_of, BecomesTable, TellsFault}
use Rattle.te_cert.proofs.SeatsByPlace.{as_many_seats, read_again}
use Rattle.te_cert.proofs.Checked.{meets_fail, ends_so}
use Rattle.te_cert.proofs.playing.stages.Goals as goal

pub returns-in_err-meet_all-clause-plays : goal.returns-in_err-meet_all-clause-plays
returns-in_err-meet_all-clause-plays c =
    let p = err_from_is_err_and c.from_residual-in_err-meet_all.result c.from_residual-in_err-meet_all.ensures.1 in
    let advanced = c.in_ok-seat_all.ensures.ok in
    let fails = subst (λ (ks : List Seat). (word : List Label)
    → TellsFault (all_meet 0 c.args.meetings.now (table_of c.seat_all.new.cells (of_group c.args.group.now) ks word)) c.in_err-meet_all.field-0.0)
    c.deref_mut.ensures.value c.in_err-meet_all.ensures.err in
    rw (p.1, p.2) (meets_fail (of_group c.args.group.now) c.args.meetings.now (seats_of c.seat_all.new.cells (of_group c.args.group.now)
    c.seat_all.new.seats.items) advanced.0 advanced.1 c.in_err-meet_all.field-0.0 (fails advanced.0))

pub returns-clause-plays : goal.returns-clause-plays
returns-clause-plays c =
    let es = (of_group c.args.group.now) in
    let old = c.seat_all.new.seats.items in
    let new = c.meet_all.new.seats in
    let advanced = c.in_ok-seat_all.ensures.ok in
    let meets = subst (λ (ks : List Seat). (word : List Label)
    → BecomesTable (all_meet 0 c.args.meetings.now (table_of c.seat_all.new.cells (of_group c.args.group.now) ks word))
    (seats_of c.meet_all.new.cells (of_group c.args.group.now) new)) c.deref_mut.ensures.value c.in_ok-meet_all.ensures.ok in
    let met = meets advanced.0 in
    let same : length old ≡ length new = sym (as_many_seats c.seat_all.new.cells es old c.in_ok-seat_all.ensures.seated) ∙ as_many_seats c.meet_all.new.cells es new c.in_ok-meet_all.ensures.seated in
    let read : c.deref.result.now ≡ new = read_again old new c.deref.result.now c.seat_all.new.seats.len (ap length (sym c.deref_mut.ensures.value) ∙
    c.deref_mut.ensures.len) same c.deref.ensures.value in
    ends_so es c.args.meetings.now (seats_of c.seat_all.new.cells es old) advanced.0 advanced.1 (seats_of c.meet_all.new.cells es new) met.0 met.1 c.outcomes.result
    (subst (λ (ks : List Seat). IfOk c.outcomes.result (λ os. endings 0 (seats_of c.meet_all.new.cells (of_group c.args.group.now) ks) ≡ Ok os)) read c.outcomes.ensures.ok)
    (subst (λ (ks : List Seat). IfErr c.outcomes.result (λ e. TellsFault (endings 0 (seats_of c.meet_all.new.cells (of_group c.args.group.now) ks)) e)) read c.outcomes.ensures.err)
