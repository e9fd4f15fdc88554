use Rattle.std.proofs.Common.{◌≡◌, length}
use Rattle.crossbeam_deque.specs.Handles.{worker_view, worker_flavor}
use Rattle.te_steal.specs.Relays.{IsInOrderOf}
use Rattle.te_steal.specs.Accounts.{taking}
use Rattle.te_steal.proofs.closing.drain.Given as goal

abbrev pub invariant-numbers : goal.invariant-numbers
invariant-numbers l = (worker_flavor l.worker ≡ 0) × (worker_view l.worker ≡ taking (worker_view l.fn.worker) l.left.items) × (length l.left.items ≡ l.counter)
    × IsInOrderOf (worker_view l.worker).took (worker_view l.worker).pushed
