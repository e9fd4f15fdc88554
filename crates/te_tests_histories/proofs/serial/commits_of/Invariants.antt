use Rattle.std.proofs.Common.{◌≤◌}
use Rattle.te_tests_histories.proofs.serial.commits_of.Given as goal

abbrev pub invariant-loop-i : goal.invariant-loop-i
invariant-loop-i l = l.count ≤ l.i
