use Rattle.std.proofs.Common.{◌≡◌, take}
use Rattle.te_terms.proofs.value.Value.of.Given as goal

abbrev pub invariant-loop-atom : goal.invariant-loop-atom
invariant-loop-atom l = l.value ≡ take l.atom-index l.atoms
