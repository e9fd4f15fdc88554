use Rattle.std.proofs.Common.{◌≡◌, map}
use Rattle.crossbeam_deque.specs.Handles.{worker_view, SameWorker}
use Rattle.te_steal.specs.Relays.{took_by}
use Rattle.te_steal.specs.Accounts.{absorbing_all}
use Rattle.te_steal.proofs.closing.absorb_all.Given as goal

abbrev pub invariant-thieves : goal.invariant-thieves
invariant-thieves l = (goal.iterator-thieves).can_next l.thief-iterator × (goal.iterator-thieves).is_finite l.thief-iterator
    × SameWorker l.fn.worker l.worker
    × (worker_view l.worker ≡ absorbing_all (worker_view l.fn.worker) (map took_by l.yielded))
