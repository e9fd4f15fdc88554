-- Replacing twice, and binding one more inner name.
use Rattle.std.proofs.Common.{◌≡◌, ℕ, List, [], ◌∷◌, ◌++◌, length, map, Option, Some, None, refl, sym, ap, ◌∙◌, subst, inl, inr, length-append, arith}
use Rattle.std.specs.Prelude.{slice_get}
use Rattle.std.proofs.lemmas.Option.{slice_get_past, slice_get-get_or}
use Rattle.std.proofs.lemmas.Bool.{cases_order}
use Rattle.std.proofs.lemmas.Bool.Decides.{nat_tests}
use Rattle.te_terms.specs.declared.value.Atom.{Atom}
use Rattle.te_terms.specs.Expressions.{Variable, register, name, known, Primitive, int, chan, part, Calculation, one, both, Expression, whole, tuple, in_primitive, in_calculation, in_expression}
use Rattle.te_terms.specs.Terms.{Term, always, never, fresh, throw, send, recv, and_then, choose, catch, when, replaced, bound, name_to, or_register, or_name, registers_to, closed, scoped}
use Rattle.te_terms.proofs.TermLemmas.{slice_get_seam}
use Rattle.te_terms.proofs.Lists.{get_front}

primitive_twice : (f g : Variable → Variable) (p : Primitive) → in_primitive f (in_primitive g p) ≡ in_primitive (λ x. f (g x)) p
primitive_twice f g (int z) = refl
primitive_twice f g (chan c) = refl
primitive_twice f g (part x d) = refl

calculation_twice : (f g : Variable → Variable) (c : Calculation) → in_calculation f (in_calculation g c) ≡ in_calculation (λ x. f (g x)) c
calculation_twice f g (one p) = ap one (primitive_twice f g p)
calculation_twice f g (both o p q) = rw (primitive_twice f g p, primitive_twice f g q) refl

calculations_twice : (f g : Variable → Variable) (cs : List Calculation) → map (in_calculation f) (map (in_calculation g) cs) ≡ map (in_calculation (λ x. f (g x))) cs
calculations_twice f g [] = refl
calculations_twice f g (c ∷ cs) = rw (calculation_twice f g c, calculations_twice f g cs) refl

pub expression_twice : (f g : Variable → Variable) (e : Expression) → in_expression f (in_expression g e) ≡ in_expression (λ x. f (g x)) e
expression_twice f g (whole x) = refl
expression_twice f g (tuple cs) = ap tuple (calculations_twice f g cs)

-- replacing twice is replacing once by both
pub replaced_twice : (f g : Variable → Variable) (t : Term) → replaced f (replaced g t) ≡ replaced (λ x. f (g x)) t
replaced_twice f g (always e) = ap always (expression_twice f g e)
replaced_twice f g never = refl
replaced_twice f g fresh = refl
replaced_twice f g (throw e) = ap throw (expression_twice f g e)
replaced_twice f g (send p e) = rw (primitive_twice f g p, expression_twice f g e) refl
replaced_twice f g (recv p) = ap recv (primitive_twice f g p)
replaced_twice f g (and_then e n h) = rw (replaced_twice f g e, replaced_twice f g h) refl
replaced_twice f g (choose e h) = rw (replaced_twice f g e, replaced_twice f g h) refl
replaced_twice f g (catch e n h) = rw (replaced_twice f g e, replaced_twice f g h) refl
replaced_twice f g (when c p q e h) = rw (primitive_twice f g p, primitive_twice f g q, replaced_twice f g e, replaced_twice f g h) refl

-- what two ways of replacing do to each variable, they do to a term
pub replaced_alike : (f g : Variable → Variable) (t : Term) → ((x : Variable) → f x ≡ g x) → replaced f t ≡ replaced g t
replaced_alike f g t same = ap (λ by. replaced by t) (λ i x. same x i)

-- ---- one inner name more

kept_register : (n : ℕ) (v : List Atom) (o : Option (List Atom)) (r : ℕ) → name_to n v (or_register o r) ≡ or_register o r
kept_register n v None r = refl
kept_register n v (Some w) r = refl

own_name : (n : ℕ) (v : List Atom) → name_to n v (name n) ≡ known v
own_name n v = grind (arith, nat_tests)

other_name : (n m : ℕ) (v : List Atom) → (m ≡ n → ⊥) → name_to n v (name m) ≡ name m
other_name n m v differ = grind (arith, nat_tests)

next_name : (inner : List (List Atom)) (v : List Atom) → name_to (length inner) v (or_name (slice_get inner (length inner)) (length inner)) ≡ or_name
    (slice_get (inner ++ v ∷ []) (length inner)) (length inner)
next_name inner v = rw (slice_get_past inner (length inner) (omega arith), slice_get_seam inner v []) (own_name (length inner) v)

any_name : (inner : List (List Atom)) (v : List Atom) (m : ℕ) → name_to (length inner) v (or_name (slice_get inner m) m) ≡ or_name (slice_get (inner ++ v ∷ []) m) m
any_name inner v m = elim (cases_order m (length inner)) [
  | inl same ↦
      let P : ℕ → Type 0 = λ k. name_to (length inner) v (or_name (slice_get inner k) k) ≡ or_name (slice_get (inner ++ v ∷ []) k) k in
      subst P (sym same) (next_name inner v)
  | inr (inl less) ↦ rw (get_front inner (v ∷ []) m less, slice_get-get_or inner m v less) refl
  | inr (inr more) ↦
      rw (slice_get_past inner m (omega arith), slice_get_past (inner ++ v ∷ []) m (omega (arith, length-append inner (v ∷ [])))) (other_name (length inner) m v (λ e. omega arith))
]

more_names : (regs inner : List (List Atom)) (v : List Atom) (x : Variable) → name_to (length inner) v (scoped regs inner x) ≡ scoped regs (inner ++ v ∷ []) x
more_names regs inner v (register r) = kept_register (length inner) v (slice_get regs r) r
more_names regs inner v (known w) = refl
more_names regs inner v (name m) = any_name inner v m

-- binding the next inner name adds its value
pub bound_scoped : (regs inner : List (List Atom)) (v : List Atom) (t : Term) → bound (length inner) v (replaced (scoped regs inner) t) ≡ replaced (scoped regs (inner ++ v ∷ [])) t
bound_scoped regs inner v t =
    replaced_twice (name_to (length inner) v) (scoped regs inner) t
    ∙ replaced_alike (λ x. name_to (length inner) v (scoped regs inner x)) (scoped regs (inner ++ v ∷ [])) t (more_names regs inner v)

no_names : (regs : List (List Atom)) (x : Variable) → registers_to regs x ≡ scoped regs [] x
no_names regs (register r) = refl
no_names regs (name n) = refl
no_names regs (known v) = refl

-- a closed term has no inner name yet
pub closed_scoped : (regs : List (List Atom)) (t : Term) → closed regs t ≡ replaced (scoped regs []) t
closed_scoped regs t = replaced_alike (registers_to regs) (scoped regs []) t (no_names regs)
