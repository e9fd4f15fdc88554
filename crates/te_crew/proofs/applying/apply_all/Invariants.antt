use Rattle.std.proofs.Common.{◌≡◌, length}
use Rattle.te_crew.specs.Shares.{AreLooks}
use Rattle.te_crew.proofs.BatchesOfNumbers.{IsUpTo}
use Rattle.te_crew.proofs.applying.apply_all.Given as goal

abbrev pub invariant-paths : goal.invariant-paths
invariant-paths l = IsUpTo l.initial.search l.search l.i × (length l.looks ≡ length l.batch)
    × AreLooks l.search l.batch l.looks
