use Rattle.std.proofs.Common.{◌≡◌, ℕ, ◌%◌, ◌≤◌, List, ◌++◌, false}
use Rattle.std.specs.Prelude.{All}
use Rattle.te_lock.specs.Lock.{IsSamePass}
use Rattle.te_lock.proofs.turn.Turn.turn.Given as goal

-- the turn was not had yet, and nothing was read
abbrev pub invariant-loop : goal.invariant-loop
invariant-loop g l = record {
  can : (goal.iterator-loop g).can_next l.iterator';
  ends : (goal.iterator-loop g).is_finite l.iterator';
  same : IsSamePass l.fn.pass l.pass;
  idle : l.pass.has_turn ≡ false;
  read : l.pass.read ≡ l.fn.pass.read;
  own : l.pass.own ≡ l.fn.pass.own;
  known : l.pass.known ≡ l.fn.pass.known;
  front : l.fn.pass.front ≤ l.pass.front;
  waited : (waited : List ℕ) × All (λ word. word % 2 ≡ 1) waited × (l.pass.looks ≡ l.fn.pass.looks ++ waited);
}
