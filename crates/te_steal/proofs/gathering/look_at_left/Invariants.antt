use Rattle.std.proofs.Common.{◌≡◌, ℕ, List, ◌++◌, take, length}
use Rattle.te_steal.specs.Stolen.{AreLooksAt}
use Rattle.te_steal.proofs.gathering.look_at_left.Given as goal

abbrev pub invariant-left : goal.invariant-left
invariant-left l = (length l.looks ≡ length l.fn.looks)
    × ((took : List ℕ) → AreLooksAt l.search l.batch took l.fn.looks l.fn.whole → AreLooksAt l.search l.batch (took ++ take l.i l.left) l.looks l.whole)
