use Rattle.std.proofs.Common.{◌≡◌, ◌≤◌, true, false, [], length, All}
use Rattle.crossbeam_deque.specs.Handles.{worker_deque, worker_view, worker_flavor, worker_index, worker_capacity}
use Rattle.te_steal.specs.Accounts.{account}
use Rattle.te_steal.proofs.sharing.relay.Given as goal

abbrev pub invariant-thieves : goal.invariant-thieves
invariant-thieves l = (worker_flavor l.worker ≡ 0) × (worker_index l.worker ≡ 0) × (l.most ≤ worker_capacity l.worker)
    × (worker_view l.worker ≡ account true false [] [] [] l.counter) × (length l.made.items ≡ l.counter)
    × All (λ t. ((t.relay ≡ (worker_deque l.worker).0) × (t.heap ≡ (worker_deque l.worker).1)) × (t.took ≡ [])) l.made.items
