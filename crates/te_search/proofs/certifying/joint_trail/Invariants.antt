use Rattle.std.proofs.Common.{◌≡◌, ◌≤◌, List, length, map, take}
use Rattle.te_trail.specs.Paths.{Path}
use Rattle.te_trail.specs.Stores.{labels_of, any_rests_on}
use Rattle.te_trail.specs.Trails.{label_of}
use Rattle.te_search.specs.Picks.{Picks}
use Rattle.te_search.proofs.certifying.joint_trail.Given as goal

abbrev pub invariant-moves : goal.invariant-moves
invariant-moves l = (length l.word.items ≤ l.k) × ((ps : List Path) → Picks l.store.events l.store.paths l.threads l.joined ps
    → map label_of l.word.items ≡ labels_of (any_rests_on ps) (take l.k l.store.paths))
