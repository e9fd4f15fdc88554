use Rattle.std.proofs.Common.{◌≡◌, false}
use Rattle.te_lock.specs.Lock.{IsSamePass}
use Rattle.te_tests_runtimes.proofs.runtime.works.Given as goal

-- the pass is the same, without the turn
abbrev pub invariant-loop : goal.invariant-loop
invariant-loop g l = record { same : IsSamePass l.initial.pass l.pass; idle : l.pass.has_turn ≡ false }
