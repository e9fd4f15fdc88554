-- The parked list of a state: its threads rise, and a group of it commits.
use Rattle.std.proofs.Common.{ℕ, suc, ◌<◌, List, [], ◌∷◌, arith}
use Rattle.te_terms.specs.Joint.{RiseFrom, IsGroup, as_group}
use Rattle.te_history.specs.State.{Standing, idle, parked, given, ended, State, parked_from, parked_list}

rises : (low t : ℕ) (cs : List Standing) → low < t → RiseFrom low (as_group (parked_from t cs))
rises low t [] below = tt
rises low t (idle ∷ cs) below = rises low (suc t) cs (omega arith)
rises low t (parked ticket event ∷ cs) below = (below, rises t (suc t) cs (omega arith))
rises low t (given ticket outcome ∷ cs) below = rises low (suc t) cs (omega arith)
rises low t (ended ∷ cs) below = rises low (suc t) cs (omega arith)

is_group : (t : ℕ) (cs : List Standing) → IsGroup (as_group (parked_from t cs))
is_group t [] = tt
is_group t (idle ∷ cs) = is_group (suc t) cs
is_group t (parked ticket event ∷ cs) = rises t (suc t) cs (omega arith)
is_group t (given ticket outcome ∷ cs) = is_group (suc t) cs
is_group t (ended ∷ cs) = is_group (suc t) cs

pub parked_group : (s : State) → IsGroup (as_group (parked_list s))
parked_group s = is_group 0 s.callers
