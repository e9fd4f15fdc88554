use Rattle.std.proofs.Common.{◌≡◌, List, drop}
use Rattle.te_terms.specs.Joint.{Label}
use Rattle.te_path.specs.Growth.{Grows}
use Rattle.te_cert.specs.Play.{all_meet}
use Rattle.te_cert.specs.Players.{of_group, AreSeated, table_of}
use Rattle.te_cert.proofs.playing.meet_all.Given as goal

abbrev pub invariant-loop-j : goal.invariant-loop-j
invariant-loop-j l = record {
  grows : Grows l.initial.cells l.cells;
  seated : AreSeated l.cells (of_group l.group) l.seats;
  so_far : (first : List Label) → (word : List Label) × (all_meet 0 l.meetings (table_of l.initial.cells (of_group l.group) l.initial.seats first) ≡
      all_meet l.j (drop l.j l.meetings) (table_of l.cells (of_group l.group) l.seats word));
}
