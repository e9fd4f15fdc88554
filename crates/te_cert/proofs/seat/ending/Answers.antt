use Rattle.std.proofs.Common.{◌<◌, drop, length, length-drop, arith, sym, subst, ◌∙◌}
use Rattle.te_terms.specs.declared.event.Outcome.TheVariants.{Gives, Raises}
use Rattle.te_terms.specs.Steps.{outcome_of}
use Rattle.te_path.specs.Paths.{StandsAt}
use Rattle.te_path.specs.Spots.{spelled}
use Rattle.te_cert.specs.Players.{entered}
use Rattle.te_cert.proofs.Seats.{letters_over}
use Rattle.te_cert.proofs.seat.ending.Goals.{in-Done, in-Raised}
use Rattle.te_cert.proofs.seat.ending.Goals as goal

pub returns-then-seat-entrant : goal.returns-then-seat-entrant
returns-then-seat-entrant c =
    let some : 0 < length (drop c.args.seat.now.used c.args.entrant.now.choices.now) = omega (arith, length-drop c.args.seat.now.used c.args.entrant.now.choices.now) in
    let t = (spelled (entered c.args.entrant.now).origin c.args.cells.now c.args.seat.now.spot).term in
    elim c.match-stop.branch [
      | in-Done w ↦ letters_over c.args.i (outcome_of t) (Gives w.in-Done.value) (drop c.args.seat.now.used c.args.entrant.now.choices.now)
          (subst (StandsAt t) (sym c.stop.ensures ∙ w.in-Done.is) c.requires.spot.stands) some
      | in-Raised w ↦ letters_over c.args.i (outcome_of t) (Raises w.in-Raised.value) (drop c.args.seat.now.used c.args.entrant.now.choices.now)
          (subst (StandsAt t) (sym c.stop.ensures ∙ w.in-Raised.is) c.requires.spot.stands) some
    ]
