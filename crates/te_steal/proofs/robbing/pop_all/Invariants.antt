use Rattle.std.proofs.Common.{◌≡◌, ◌-◌, length}
use Rattle.te_steal.specs.Relays.{IsSameOwner}
use Rattle.te_steal.specs.Stolen.{AreLooksAt}
use Rattle.te_steal.proofs.robbing.pop_all.Given as goal

abbrev pub invariant-pops : goal.invariant-pops
invariant-pops l = IsSameOwner l.fn.owner l.owner × (l.owner.pushed ≡ l.fn.owner.pushed) × (length l.looks ≡ length l.fn.looks)
    × AreLooksAt l.search l.batch l.owner.took l.looks l.whole

abbrev pub decreases-pops : goal.decreases-pops
decreases-pops l = length l.owner.pushed - length l.owner.took
