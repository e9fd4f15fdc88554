use Rattle.te_steal.specs.Relays.{IsSameThief}
use Rattle.te_tests_steal.proofs.relays.steal_all.Given as goal

abbrev pub invariant-steals : goal.invariant-steals
invariant-steals l = IsSameThief l.fn.thief l.thief
