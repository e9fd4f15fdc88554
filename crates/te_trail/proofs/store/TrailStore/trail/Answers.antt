use Rattle.std.proofs.Common.{append-nil, ◌≤◌, ◌≡◌, ◌<◌, ap, ap₂, ◌∙◌, sym, subst, refl, length, map, ◌++◌, ◌∷◌, []}
use Rattle.std.proofs.Common.{◌+◌, Some, None, true, false, slice_get, take, arith, rules, vec_len, List, ℕ, Option}
use Rattle.std.proofs.lemmas.List.{map-append}
use Rattle.te_trail.specs.declared.store.PathRecord.{PathRecord}
use Rattle.te_trail.specs.declared.moves.Move.{Move}
use Rattle.te_trail.specs.Paths.{Path}
use Rattle.te_trail.specs.Clocks.{IsSound}
use Rattle.te_trail.specs.Stores.{IsStore}
use Rattle.te_trail.specs.Trails.{Trail, TellsWhether, IsClock, label_of}
use Rattle.te_trail.specs.Walks.{IsInPast, TellsPastMove, TellsMove}
use Rattle.te_trail.specs.Records.{paths_of}
use Rattle.te_trail.proofs.RecordsRead.{record_there, length_paths}
use Rattle.te_terms.proofs.Lists.{found_here, take_all}
use Rattle.te_trail.proofs.StoresHold.{is_store, held, sounds}
use Rattle.te_trail.proofs.PastsTold.{clock_low, rests_by_clock, rests_not, move_told, no_label_root, no_label_receiver}
use Rattle.te_trail.proofs.PastsTold.{label_left, label_right, Mate, mate_there, past_told, past_not, TrailSo}
use Rattle.te_trail.proofs.PastsTold.{trail_step, trail_end}
use Rattle.te_trail.proofs.store.TrailStore.trail.Goals.{in-Some+in_ok-push, in_default}
use Rattle.te_trail.proofs.store.TrailStore.trail.Goals as goal

pub moves-preserved : goal.moves-preserved
moves-preserved c =
    let low : c.moves.i < length c.args.self.now.paths = omega (arith, c.moves-test.true, c.len-i-end.ensures.number, c.moves.auto.i-end) in
    elim c.match-past_move.branch [
      | in-Some+in_ok-push w ↦ trail_step c.args.self.now.paths c.args.p c.moves.i c.moves.moves c.match-past_move.moves
          (Some w.in-Some.made) low c.moves.invariant (subst (TellsPastMove c.args.self.now.paths c.args.p c.moves.i)
          w.in-Some.is c.past_move.ensures)
          (ap (map label_of) (w.moves-is ∙ w.in_ok-push.ensures.ok) ∙ map-append label_of c.moves.moves (w.in-Some.made ∷ []))
      | in_default w ↦ trail_step c.args.self.now.paths c.args.p c.moves.i c.moves.moves c.match-past_move.moves None
          low c.moves.invariant (subst (TellsPastMove c.args.self.now.paths c.args.p c.moves.i) w.in_default.is
          c.past_move.ensures)
          (ap (map label_of) w.moves-is ∙ sym (append-nil (map label_of c.moves.moves)))
    ]

pub returns : goal.returns
returns c = trail_end c.args.self.now.paths c.args.p c.moves.i c.moves.moves
    (take_all c.args.self.now.paths c.moves.i (omega (
      arith,
      c.moves-test.false,
      c.len-i-end.ensures.number,
      c.moves.auto.i-end,
    ))) c.moves.invariant
