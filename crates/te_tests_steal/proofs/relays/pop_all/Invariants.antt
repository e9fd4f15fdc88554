use Rattle.te_steal.specs.Relays.{IsSameOwner}
use Rattle.te_tests_steal.proofs.relays.pop_all.Given as goal

abbrev pub invariant-pops : goal.invariant-pops
invariant-pops l = IsSameOwner l.fn.owner l.owner
