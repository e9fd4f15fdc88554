use Rattle.std.proofs.Common.{◌≡◌, length}
use Rattle.te_steal.specs.Relays.{IsSameThief}
use Rattle.te_steal.specs.Stolen.{AreLooksAt}
use Rattle.te_steal.proofs.robbing.steal_some.Given as goal

abbrev pub invariant-steals : goal.invariant-steals
invariant-steals l = IsSameThief l.fn.thief l.thief × (length l.looks ≡ length l.fn.looks)
    × AreLooksAt l.search l.batch l.thief.took l.looks l.whole
