use Rattle.std.proofs.Common.{◌≡◌, ◌≢◌, ◌+◌, true, false, refl, subst, arith}
use Rattle.std.proofs.Math.ListN.{drop_of_length-le}
use Rattle.te_path.specs.declared.spot.Stop.TheVariants.{Choice}
use Rattle.te_path.specs.Paths.{IsChoice, StandsAt}
use Rattle.te_path.specs.Spots.{spelled}
use Rattle.te_path.proofs.Growing.{grows_on, grows_none}
use Rattle.te_cert.specs.Players.{entered, seat_of}
use Rattle.te_cert.proofs.Letters.{as_itself, comes_to_stand, comes_to_lack, goes_on, letters_here}
use Rattle.te_cert.proofs.seat.advance.Goals as goal

pub letters-init : goal.letters-init
letters-init c = record {
  seat = c.requires.seat;
  grows = grows_none c.args.cells.now c.requires.seat.spot.around.linked;
  as_far = as_itself (seat_of c.args.cells.now (entered c.args.entrant.now) c.args.seat.now);
}

pub returns-in_default-clause-comes : goal.returns-in_default-clause-comes
returns-in_default-clause-comes c =
    let e = entered c.args.entrant.now in
    let at : IsChoice (spelled e.origin c.letters.cells c.letters.seat.spot).term =
    subst (StandsAt (spelled e.origin c.letters.cells c.letters.seat.spot).term) (c.letters-test.ensures.0 refl) c.letters.invariant.seat.spot.stands in
    comes_to_lack (seat_of c.args.cells.now e c.args.seat.now) (seat_of c.letters.cells e c.letters.seat) c.letters.invariant.as_far c.letters.invariant.seat.spot.settled at
    (drop_of_length-le c.args.entrant.now.choices.now c.in_default.ensures.lookup.3)

pub letters-preserved : goal.letters-preserved
letters-preserved c =
    let e = entered c.args.entrant.now in
    let at : IsChoice (spelled e.origin c.letters.cells c.letters.seat.spot).term =
    subst (StandsAt (spelled e.origin c.letters.cells c.letters.seat.spot).term) (c.letters-test.ensures.0 refl) c.letters.invariant.seat.spot.stands in
    let within = c.in-Some.ensures.lookup.3.0 in
    record {
      seat = record { spot = c.in_ok-choose.ensures.spot; within = omega (arith, within) };
      grows = grows_on c.args.cells.now c.letters.cells c.choose.new.self c.letters.invariant.grows c.in_ok-choose.ensures.grows;
      as_far = goes_on (seat_of c.args.cells.now e c.args.seat.now) (seat_of c.letters.cells e c.letters.seat) (seat_of c.choose.new.self e
          (record { spot = c.choose.new.spot; used = c.letters.seat.used + 1 })) c.in-Some.left.now
          c.letters.invariant.as_far c.letters.invariant.seat.spot.settled at (letters_here c.args.entrant.now.choices.now c.letters.seat.used c.in-Some.left.now within c.in-Some.ensures.lookup.1)
          c.in_ok-choose.ensures.step;
    }

pub returns-clause-comes : goal.returns-clause-comes
returns-clause-comes c =
    let e = entered c.args.entrant.now in
    let other : c.letters.seat.spot.stop ≢ Choice = λ is. let so : false ≡ true = c.letters-test.ensures.1 is in absurd cc in
    comes_to_stand (seat_of c.args.cells.now e c.args.seat.now) (seat_of c.letters.cells e c.letters.seat) c.letters.seat.spot.stop
    c.letters.invariant.as_far c.letters.invariant.seat.spot.settled c.letters.invariant.seat.spot.stands other
