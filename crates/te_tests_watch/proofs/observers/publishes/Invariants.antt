use Rattle.std.proofs.Common.{◌≡◌, false}
use mathlib.Core.List.{IsPrefix}
use Rattle.te_tests_watch.proofs.observers.publishes.Given as goal

-- the pass is of this runtime, without the turn, and has read all that was published
abbrev pub invariant-entries : goal.invariant-entries
invariant-entries g l = record {
  here : l.pass.lock ≡ l.runtime;
  idle : l.pass.has_turn ≡ false;
  callers : l.publisher.watch.callers ≡ l.runtime.callers;
  goes_on : IsPrefix l.publisher.list l.pass.read;
}
