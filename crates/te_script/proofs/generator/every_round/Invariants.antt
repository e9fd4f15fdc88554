use Rattle.std.proofs.Common.{◌≡◌}
use Rattle.te_script.specs.Generated.{each}
use Rattle.te_script.proofs.generator.every_round.Given as goal

abbrev pub invariant-loop-round : goal.invariant-loop-round
invariant-loop-round l = l.roots.items ≡ each (λ round. l.root) l._round
