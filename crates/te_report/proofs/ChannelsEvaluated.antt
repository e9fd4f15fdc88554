-- What expressions come to, and terms whose variables are replaced, fit as they do, and have no other channels.
use Rattle.std.proofs.Common.{◌≡◌, ℕ, suc, ◌≤◌, Bool, true, false, cond, eqb, List, [], ◌∷◌, length, map, Option, Some, None, Result, Ok, Err, refl, sym, ap, subst, arith}
use Rattle.std.specs.List.{slice_get, AllByRecursion}
use Rattle.std.specs.Option.{ok_or}
use Rattle.te_terms.specs.declared.value.Atom.{Atom}
use Rattle.te_terms.specs.declared.value.Atom.TheVariants.{Int, Chan}
use Rattle.te_terms.specs.declared.value.Trap.{Trap}
use Rattle.te_terms.specs.declared.value.Trap.TheVariants.{Range, Kind}
use Rattle.te_terms.specs.declared.expr.Arith.{Arith}
use Rattle.te_terms.specs.declared.event.Outcome.{Outcome}
use Rattle.te_terms.specs.declared.event.Outcome.TheVariants.{Gives, Raises}
use Rattle.te_terms.specs.Values.{trap_value, arith_result, fits_i64}
use Rattle.te_terms.specs.Limits.{most_atoms}
use Rattle.te_terms.specs.Expressions.{Variable, register, name, known, Primitive, int, chan, part, Calculation, one}
use Rattle.te_terms.specs.Expressions.{both, Expression, whole, tuple, in_primitive, in_calculation, in_expression}
use Rattle.te_terms.specs.Expressions.{◌>>=◌, variable_value, primitive_atom, integer_of, calculation_atom}
use Rattle.te_terms.specs.Expressions.{calculated_atoms, value_of}
use Rattle.te_terms.specs.Terms.{Term, always, never, fresh, throw, send, recv, and_then, choose, catch, when, replaced, name_to, bound}
use Rattle.te_terms.specs.Steps.{given_by, raised_by, outcome_of}
use Rattle.te_terms.proofs.Lists.{all_at}
use Rattle.te_report.specs.Fitting.{AtomFits, ValueFits, VariableFits, PrimitiveFits, CalculationFits, ExpressionFits, TermFits, OutcomeFits}

ok_found : {A : Type 0} (o : Option A) (t : Trap) (a : A) → ok_or o t ≡ Ok a → o ≡ Some a
ok_found (Some x) t a is = let same : x ≡ a = cc in ap Some same
ok_found None t a is = absurd cc

-- as many atoms as calculations
one_longer : (c : Result Atom Trap) (cs : Result (List Atom) Trap) (v : List Atom) (n : ℕ) → (c >>= λ a. cs >>= λ rest. Ok (a ∷ rest)) ≡ Ok v
    → ((rest : List Atom) → cs ≡ Ok rest → length rest ≡ n) → length v ≡ suc n
one_longer (Err t) cs v n is others = absurd cc
one_longer (Ok a) (Err t) v n is others = absurd cc
one_longer (Ok a) (Ok rest) v n is others = let same : a ∷ rest ≡ v = cc in subst (λ (w : List Atom). length w ≡ suc n) same (ap suc (others rest refl))

many_calculated : (cs : List Calculation) (v : List Atom) → calculated_atoms cs ≡ Ok v → length v ≡ length cs
many_calculated [] v is = let same : [] ≡ v = cc in subst (λ (w : List Atom). length w ≡ 0) same refl
many_calculated (c ∷ cs) v is = one_longer (calculation_atom c) (calculated_atoms cs) v (length cs) is (λ rest at. many_calculated cs rest at)

many_by : (by : Variable → Variable) (cs : List Calculation) → length (map (in_calculation by) cs) ≡ length cs
many_by by [] = refl
many_by by (c ∷ cs) = ap suc (many_by by cs)

module _ (P : ℕ → Type 0) where
  pub trap_has : (t : Trap) → ValueFits P (trap_value t)
  trap_has Range = record { few = omega arith; atoms = (refl, tt) }
  trap_has Kind = record { few = omega arith; atoms = (refl, tt) }

  part_has : (x : Variable) (d : ℕ) (a : Atom) → VariableFits P x → (variable_value x >>= λ v. ok_or (slice_get v d) Kind) ≡ Ok a → AtomFits P a
  part_has (register r) d a h is = absurd cc
  part_has (name n) d a h is = absurd cc
  part_has (known v) d a h is = all_at (AtomFits P) v d a h.atoms (ok_found (slice_get v d) Kind a is)

  primitive_has : (p : Primitive) (a : Atom) → PrimitiveFits P p → primitive_atom p ≡ Ok a → AtomFits P a
  primitive_has (int z) a h is = let same : Int z ≡ a = cc in subst (AtomFits P) same h
  primitive_has (chan c) a h is = let same : Chan c ≡ a = cc in subst (AtomFits P) same h
  primitive_has (part x d) a h is = part_has x d a h is

  both_has : (o : Arith) (p q : Result Atom Trap) (a : Atom)
      → (p >>= λ x. q >>= λ y. integer_of x >>= λ m. integer_of y >>= λ n. cond (fits_i64 (arith_result o m n)) (Ok (Int (arith_result o m n))) (Err Range)) ≡ Ok a → AtomFits P a
  both_has o (Err t) q a is = absurd cc
  both_has o (Ok x) (Err t) a is = absurd cc
  both_has o (Ok (Chan c)) (Ok y) a is = absurd cc
  both_has o (Ok (Int m)) (Ok (Chan c)) a is = absurd cc
  both_has o (Ok (Int m)) (Ok (Int n)) a is = fit (fits_i64 (arith_result o m n)) refl is
    where
      fit : (b : Bool) → fits_i64 (arith_result o m n) ≡ b → cond b (Ok (Int (arith_result o m n))) (Err Range) ≡ Ok a → AtomFits P a
      fit true fits is' = let same : Int (arith_result o m n) ≡ a = cc in subst (AtomFits P) same fits
      fit false fits is' = absurd cc

  calculation_has : (c : Calculation) (a : Atom) → CalculationFits P c → calculation_atom c ≡ Ok a → AtomFits P a
  calculation_has (one p) a h is = primitive_has p a h is
  calculation_has (both o p q) a h is = both_has o (primitive_atom p) (primitive_atom q) a is

  both_found : (c : Result Atom Trap) (cs : Result (List Atom) Trap) (v : List Atom) → (c >>= λ a. cs >>= λ rest. Ok (a ∷ rest)) ≡ Ok v
      → ((a : Atom) → c ≡ Ok a → AtomFits P a) → ((rest : List Atom) → cs ≡ Ok rest → AllByRecursion (AtomFits P) rest) → AllByRecursion (AtomFits P) v
  both_found (Err t) cs v is first others = absurd cc
  both_found (Ok a) (Err t) v is first others = absurd cc
  both_found (Ok a) (Ok rest) v is first others = let same : a ∷ rest ≡ v = cc in subst (AllByRecursion (AtomFits P)) same (first a refl, others rest refl)

  calculated_has : (cs : List Calculation) (v : List Atom) → AllByRecursion (CalculationFits P) cs → calculated_atoms cs ≡ Ok v → AllByRecursion (AtomFits P) v
  calculated_has [] v h is = let same : [] ≡ v = cc in subst (AllByRecursion (AtomFits P)) same tt
  calculated_has (c ∷ cs) v h is =
      both_found (calculation_atom c) (calculated_atoms cs) v is (λ a at. calculation_has c a h.0 at) (λ rest at. calculated_has cs rest h.1 at)

  whole_has : (x : Variable) (v : List Atom) → VariableFits P x → variable_value x ≡ Ok v → ValueFits P v
  whole_has (register r) v h is = absurd cc
  whole_has (name n) v h is = absurd cc
  whole_has (known w) v h is = let same : w ≡ v = cc in subst (ValueFits P) same h

  pub value_has : (e : Expression) (v : List Atom) → ExpressionFits P e → value_of e ≡ Ok v → ValueFits P v
  value_has (whole x) v h is = whole_has x v h is
  value_has (tuple cs) v h is = record { few = subst (λ (n : ℕ). n ≤ most_atoms) (sym (many_calculated cs v is)) h.1; atoms = calculated_has cs v h.0 is }

  -- ---- endings

  gives_has : (r : Result (List Atom) Trap) (o : Outcome) → ((v : List Atom) → r ≡ Ok v → ValueFits P v) → given_by r ≡ Some o → OutcomeFits P o
  gives_has (Ok v) o h is = let same : Gives v ≡ o = cc in subst (OutcomeFits P) same (h v refl)
  gives_has (Err t) o h is = absurd cc

  raises_has : (r : Result (List Atom) Trap) (o : Outcome) → ((v : List Atom) → r ≡ Ok v → ValueFits P v) → raised_by r ≡ Some o → OutcomeFits P o
  raises_has (Ok v) o h is = let same : Raises v ≡ o = cc in subst (OutcomeFits P) same (h v refl)
  raises_has (Err t) o h is = absurd cc

  pub outcome_has : (t : Term) (o : Outcome) → TermFits P t → outcome_of t ≡ Some o → OutcomeFits P o
  outcome_has (always e) o h is = gives_has (value_of e) o (λ v at. value_has e v h at) is
  outcome_has (throw e) o h is = raises_has (value_of e) o (λ v at. value_has e v h at) is
  outcome_has never o h is = absurd cc
  outcome_has fresh o h is = absurd cc
  outcome_has (send p e) o h is = absurd cc
  outcome_has (recv p) o h is = absurd cc
  outcome_has (and_then e n f) o h is = absurd cc
  outcome_has (choose e f) o h is = absurd cc
  outcome_has (catch e n f) o h is = absurd cc
  outcome_has (when test p q e f) o h is = absurd cc

  -- ---- variables that are replaced

  module _ (by : Variable → Variable) (kept : (x : Variable) → VariableFits P x → VariableFits P (by x)) where
    primitive_by : (p : Primitive) → PrimitiveFits P p → PrimitiveFits P (in_primitive by p)
    primitive_by (int z) h = h
    primitive_by (chan c) h = h
    primitive_by (part x d) h = kept x h

    calculations_by : (cs : List Calculation) → AllByRecursion (CalculationFits P) cs → AllByRecursion (CalculationFits P) (map (in_calculation by) cs)
    calculations_by [] h = tt
    calculations_by (one p ∷ cs) h = (primitive_by p h.0, calculations_by cs h.1)
    calculations_by (both o p q ∷ cs) h = ((primitive_by p h.0.0, primitive_by q h.0.1), calculations_by cs h.1)

    pub expression_by : (e : Expression) → ExpressionFits P e → ExpressionFits P (in_expression by e)
    expression_by (whole x) h = kept x h
    expression_by (tuple cs) h = (calculations_by cs h.0, subst (λ (n : ℕ). n ≤ most_atoms) (sym (many_by by cs)) h.1)

    pub term_by : (t : Term) → TermFits P t → TermFits P (replaced by t)
    term_by (always e) h = expression_by e h
    term_by never h = tt
    term_by fresh h = tt
    term_by (throw e) h = expression_by e h
    term_by (send p e) h = (primitive_by p h.0, expression_by e h.1)
    term_by (recv p) h = primitive_by p h
    term_by (and_then e n f) h = (term_by e h.0, term_by f h.1)
    term_by (choose e f) h = (term_by e h.0, term_by f h.1)
    term_by (catch e n f) h = (term_by e h.0, term_by f h.1)
    term_by (when test p q e f) h = (primitive_by p h.0, primitive_by q h.1, term_by e h.2, term_by f h.3)

  named : (n : ℕ) (v : List Atom) → ValueFits P v → (x : Variable) → VariableFits P x → VariableFits P (name_to n v x)
  named n v h (register r) hx = tt
  named n v h (name m) hx = at (eqb m n)
    where
      at : (b : Bool) → VariableFits P (cond b (known v) (name m))
      at true = h
      at false = tt
  named n v h (known w) hx = hx

  pub bound_has : (n : ℕ) (v : List Atom) (t : Term) → ValueFits P v → TermFits P t → TermFits P (bound n v t)
  bound_has n v t h ht = term_by (name_to n v) (named n v h) t ht
