-- A tuple's atoms, one after another.
use Rattle.std.proofs.Common.{◌≡◌, ℕ, suc, ◌+◌, ◌<◌, List, [], ◌∷◌, ◌++◌, length, map, drop, get_or, Result, Ok, Err, refl, sym, ap, append_assoc, add-one, drop-cons}
use Rattle.te_terms.specs.declared.value.Atom.{Atom}
use Rattle.te_terms.specs.declared.value.Trap.{Trap}
use Rattle.te_terms.specs.declared.expr.Calc.{Calc}
use Rattle.te_terms.specs.Expressions.{Variable, ◌>>=◌, in_calculation, calculation_atom, calculated_atoms}
use Rattle.te_terms.specs.Codes.{calculation_of}

-- the atoms that were found, and then the others
abbrev pub behind : List Atom → Result (List Atom) Trap → Result (List Atom) Trap
behind found (Ok rest) = Ok (found ++ rest)
behind found (Err t) = Err t

abbrev pub atoms_of : (Variable → Variable) → List Calc → Result (List Atom) Trap
atoms_of by cs = calculated_atoms (map (in_calculation by) (map calculation_of cs))

abbrev pub atom_of : (Variable → Variable) → Calc → Result Atom Trap
atom_of by c = calculation_atom (in_calculation by (calculation_of c))

pub behind_none : (r : Result (List Atom) Trap) → behind [] r ≡ r
behind_none (Ok rest) = refl
behind_none (Err t) = refl

behind_more : (found : List Atom) (a : Atom) (r : Result (List Atom) Trap) → behind found (behind (a ∷ []) r) ≡ behind (found ++ a ∷ []) r
behind_more found a (Ok rest) = ap Ok (sym (append_assoc found (a ∷ []) rest))
behind_more found a (Err t) = refl

first : (a : Atom) (r : Result (List Atom) Trap) → (r >>= λ rest. Ok (a ∷ rest)) ≡ behind (a ∷ []) r
first a (Ok rest) = refl
first a (Err t) = refl

next : (by : Variable → Variable) (c : Calc) (cs : List Calc) (a : Atom) → Ok a ≡ atom_of by c → atoms_of by (c ∷ cs) ≡ behind (a ∷ []) (atoms_of by cs)
next by c cs a e = rw (← e) (first a (atoms_of by cs))

trap : (by : Variable → Variable) (c : Calc) (cs : List Calc) (t : Trap) → Err t ≡ atom_of by c → atoms_of by (c ∷ cs) ≡ Err t
trap by c cs t e = rw (← e) refl

-- one calculation more was found
pub behind_next : (by : Variable → Variable) (found : List Atom) (c : Calc) (cs : List Calc) (i : ℕ) (a : Atom) → i < length cs → c ≡ get_or cs i c → Ok a ≡ atom_of by c →
    behind found (atoms_of by (drop i cs)) ≡ behind (found ++ a ∷ []) (atoms_of by (drop (i + 1) cs))
behind_next by found c cs i a h at e =
    rw (drop-cons cs i c h, ← at, next by c (drop (suc i) cs) a e, behind_more found a, add-one) refl

-- the first trap decides
pub behind_trap : (by : Variable → Variable) (found : List Atom) (c : Calc) (cs : List Calc) (i : ℕ) (t : Trap) → i < length cs → c ≡ get_or cs i c → Err t ≡ atom_of by c →
    behind found (atoms_of by (drop i cs)) ≡ Err t
behind_trap by found c cs i t h at e = rw (drop-cons cs i c h, ← at, trap by c (drop (suc i) cs) t e) refl
