use Rattle.std.proofs.Common.{◌≡◌, ℕ, All, false, List, ◌++◌}
use Rattle.te_lock.specs.declared.view.Role.TheVariants.{Caller}
use Rattle.te_lock.specs.Gathered.{HasAllOf}
use Rattle.te_lock.specs.Lock.{Knowledge}
use Rattle.te_lock.proofs.closing.gather.Given as goal

-- the passes taken so far stood behind those that are left, and the seat has all of them
abbrev pub invariant-loop-pass : goal.invariant-loop-pass
invariant-loop-pass g l = record {
  here : l.seat.table_id ≡ l.table.table_id;
  caller : (k : ℕ) × (l.seat.me.0.role ≡ Caller k);
  idle : l.seat.me.0.has_turn ≡ false;
  taken : (taken : List (Knowledge g.row.V-Entry.Denot)) × (l.fn.passes.items ≡ l.passes.items ++ taken) × All (λ p. HasAllOf g.V.Kept.author l.seat.me.0 p) taken;
}

abbrev pub decreases-loop-pass : goal.decreases-loop-pass
decreases-loop-pass g l = goal.left-loop-pass g l
