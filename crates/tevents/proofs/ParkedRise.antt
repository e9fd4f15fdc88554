-- The threads of a parked list rise.
use Rattle.std.proofs.Common.{◌<◌, ℕ, suc, List, [], ◌∷◌, arith}
use Rattle.te_terms.specs.Joint.{RiseFrom, IsGroup, as_group}
use Rattle.te_history.specs.State.{Standing, idle, parked, given, ended, State, parked_from, parked_list}

rise_from : (cs : List Standing) (i low : ℕ) → low < i → RiseFrom low (as_group (parked_from i cs))
rise_from [] i low less = tt
rise_from (idle ∷ cs) i low less = rise_from cs (suc i) low (omega (arith, less))
rise_from (given ticket outcome ∷ cs) i low less = rise_from cs (suc i) low (omega (arith, less))
rise_from (ended ∷ cs) i low less = rise_from cs (suc i) low (omega (arith, less))
rise_from (parked ticket event ∷ cs) i low less = (less, rise_from cs (suc i) i (omega arith))

rise : (cs : List Standing) (i : ℕ) → IsGroup (as_group (parked_from i cs))
rise [] i = tt
rise (idle ∷ cs) i = rise cs (suc i)
rise (given ticket outcome ∷ cs) i = rise cs (suc i)
rise (ended ∷ cs) i = rise cs (suc i)
rise (parked ticket event ∷ cs) i = rise_from cs (suc i) i (omega arith)

pub parked_rise : (s : State) → IsGroup (as_group (parked_list s))
parked_rise s = rise s.callers 0
