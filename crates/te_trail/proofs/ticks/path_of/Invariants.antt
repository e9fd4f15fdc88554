use Rattle.std.proofs.Common.{◌≡◌, drop}
use Rattle.te_trail.specs.Ticks.{named}
use Rattle.te_trail.proofs.ticks.path_of.Given as goal

abbrev pub invariant-loop-tick : goal.invariant-loop-tick
invariant-loop-tick l = named l.thread (drop l.tick-index l.ticks) ≡ named l.thread l.ticks
