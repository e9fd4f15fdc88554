use Rattle.te_serial.specs.Houses.{AreFresh}
use Rattle.te_tests_histories.proofs.serial.first_cores.Given as goal

abbrev pub invariant-loop-text : goal.invariant-loop-text
invariant-loop-text l = AreFresh l.cores
