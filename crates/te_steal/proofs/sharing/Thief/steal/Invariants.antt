use Rattle.std.proofs.Common.{◌≡◌}
use Rattle.crossbeam_deque.specs.Handles.{view, stealer_deque}
use Rattle.te_steal.specs.Owners.{IsThiefAt}
use Rattle.te_steal.proofs.sharing.Thief.steal.Given as goal

abbrev pub invariant-tries : goal.invariant-tries
invariant-tries l = IsThiefAt l.self-inside.stealer l.self-inside.pass
    × ((view l.self-inside.pass).took ≡ l.fn.self.took)
    × ((stealer_deque l.self-inside.stealer).0 ≡ l.fn.self.relay) × ((stealer_deque l.self-inside.stealer).1 ≡ l.fn.self.heap)
