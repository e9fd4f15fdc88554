use Rattle.std.proofs.Common.{◌≡◌, ◌<◌, ap, ap₂, ◌∙◌, sym, subst, refl, length, map, ◌++◌, ◌∷◌, [], ◌+◌, Some, None, true, false, slice_get, take, arith, rules, vec_len, List, ℕ, Option}
use Rattle.std.proofs.lemmas.List.{map-append}
use Rattle.te_trail.specs.declared.store.PathRecord.{PathRecord}
use Rattle.te_trail.specs.declared.moves.Move.{Move}
use Rattle.te_trail.specs.Paths.{Path}
use Rattle.te_trail.specs.Clocks.{IsSound}
use Rattle.te_trail.specs.Stores.{IsStore}
use Rattle.te_trail.specs.Trails.{Trail, TellsWhether, IsClock, label_of}
use Rattle.te_trail.specs.Walks.{IsInPast, TellsPastMove, TellsMove}
use Rattle.te_trail.specs.Records.{paths_of}
use Rattle.te_trail.proofs.RecordsRead.{record_there, length_paths}
use Rattle.te_terms.proofs.Lists.{found_here, take_all}
use Rattle.te_trail.proofs.StoresHold.{is_store, held, sounds}
use Rattle.te_trail.proofs.PastsTold.{clock_low, rests_by_clock, rests_not, move_told, no_label_root, no_label_receiver}
use Rattle.te_trail.proofs.PastsTold.{label_left, label_right, Mate, mate_there, past_told, past_not, TrailSo}
use Rattle.te_trail.proofs.PastsTold.{trail_step, trail_end}
use Rattle.te_trail.proofs.store.TrailStore.past_move.Goals as goal

pub returns-then-rests : goal.returns-then-rests
returns-then-rests c = past_told c.args.self.now.paths c.args.p c.args.i c.rests.result c.move_at.result c.if-rests.true c.rests.ensures c.move_at.ensures

pub returns-else-rests : goal.returns-else-rests
returns-else-rests c = past_not c.args.self.now.paths c.args.p c.args.i c.rests.result c.if-rests.false c.rests.ensures
