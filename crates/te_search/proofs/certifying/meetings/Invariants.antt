use Rattle.std.proofs.Common.{◌≤◌, length, map, take}
use Rattle.te_trail.specs.Trails.{label_of}
use Rattle.te_search.specs.Picks.{AreMeets}
use Rattle.te_search.proofs.certifying.meetings.Given as goal

abbrev pub invariant-moves : goal.invariant-moves
invariant-moves l = AreMeets l.names (map label_of (take l.i l.word)) l.meets × (length l.meets ≤ l.i)
