use Rattle.std.proofs.Common.{◌-◌, length}
use Rattle.te_path.specs.Growth.{Grows}
use Rattle.te_cert.specs.Players.{entered, seat_of, IsSeat, AdvancesAs}
use Rattle.te_cert.proofs.seat.advance.Given as goal

abbrev pub invariant-letters : goal.invariant-letters
invariant-letters l = record {
  seat : IsSeat l.cells (entered l.entrant) l.seat;
  grows : Grows l.initial.cells l.cells;
  as_far : AdvancesAs (seat_of l.initial.cells (entered l.entrant) l.initial.seat) (seat_of l.cells (entered l.entrant) l.seat);
}

abbrev pub decreases-letters : goal.decreases-letters
decreases-letters l = length l.entrant.choices.now - l.seat.used
