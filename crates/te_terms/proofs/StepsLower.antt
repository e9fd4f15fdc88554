-- Each quiet step, each choice and each end of a meeting lowers twice the nodes less the final ones.
use Rattle.std.proofs.Common.{◌≡◌, ℕ, ◌+◌, ◌<◌, ◌≤◌, Bool, true, false, List, [], ◌∷◌, map, Option, Some, None, Result, Ok, Err, refl, subst, arith}
use Rattle.std.specs.Option.{option_map}
use Rattle.te_terms.specs.declared.value.Atom.{Atom}
use Rattle.te_terms.specs.declared.value.Trap.{Trap}
use Rattle.te_terms.specs.Expressions.{register, name, known, Primitive, int, chan, part, Calculation, one, both, Expression, whole, tuple}
use Rattle.te_terms.specs.Expressions.{in_primitive, in_calculation, in_expression}
use Rattle.te_terms.specs.Expressions.{◌>>=◌, primitive_atom, calculation_atom, calculated_atoms, value_of}
use Rattle.te_terms.specs.Terms.{Term, always, never, fresh, throw, send, recv, and_then, choose, catch, when, bound, name_to}
use Rattle.te_terms.specs.Measures.{one_each, one_final, one_with_value, node_count, final_count}
use Rattle.te_terms.specs.Steps.{Member, quiet_step, giving, decided, head, with_head}
use Rattle.te_terms.specs.Joint.{Message, chosen_from, after_choice, sending, receiving}
use Rattle.te_terms.specs.Settling.{steps_most}
use Rattle.te_terms.proofs.Measured.{SeesNoFirst, total-with_head, some_nodes, finals_are_nodes}
use Rattle.te_terms.proofs.QuietSteps.{OfEachStep, of_every_step}
use Rattle.te_terms.proofs.QuietStepsEnd.{node_count-replaced}
use Rattle.te_terms.proofs.OneThing.{send_is, receive_is}

-- ---- binding a name keeps the value of what already has one

-- the second has the value of the first, where that has one
abbrev Keeps : {A : Type 0} → Result A Trap → Result A Trap → Type 0
Keeps {A} r s = (x : A) → r ≡ Ok x → s ≡ Ok x

kept_on : {A B : Type 0} (r s : Result A Trap) (f g : A → Result B Trap) → Keeps r s → ((x : A) → Keeps (f x) (g x)) → Keeps (r >>= f) (s >>= g)
kept_on (Ok x) s f g same onward y e = rw (same x refl) (onward x y e)
kept_on (Err t) s f g same onward y e = absurd cc

primitive_kept : (n : ℕ) (v : List Atom) (p : Primitive) → Keeps (primitive_atom p) (primitive_atom (in_primitive (name_to n v) p))
primitive_kept n v (int z) a e = e
primitive_kept n v (chan c) a e = e
primitive_kept n v (part (register r) d) a e = absurd cc
primitive_kept n v (part (name m) d) a e = absurd cc
primitive_kept n v (part (known w) d) a e = e

calculation_kept : (n : ℕ) (v : List Atom) (c : Calculation) → Keeps (calculation_atom c) (calculation_atom (in_calculation (name_to n v) c))
calculation_kept n v (one p) = primitive_kept n v p
calculation_kept n v (both o p q) =
    kept_on (primitive_atom p) (primitive_atom (in_primitive (name_to n v) p)) _ _ (primitive_kept n v p)
    (λ x. kept_on (primitive_atom q) (primitive_atom (in_primitive (name_to n v) q)) _ _ (primitive_kept n v q) (λ y z e. e))

calculations_kept : (n : ℕ) (v : List Atom) (cs : List Calculation) → Keeps (calculated_atoms cs) (calculated_atoms (map (in_calculation (name_to n v)) cs))
calculations_kept n v [] w e = e
calculations_kept n v (c ∷ cs) w e =
    kept_on (calculation_atom c) (calculation_atom (in_calculation (name_to n v) c)) _ _ (calculation_kept n v c)
    (λ x. kept_on (calculated_atoms cs) (calculated_atoms (map (in_calculation (name_to n v)) cs)) _ _ (calculations_kept n v cs) (λ y z h. h)) w e

value_kept : (n : ℕ) (v : List Atom) (x : Expression) → Keeps (value_of x) (value_of (in_expression (name_to n v) x))
value_kept n v (whole (register r)) w e = absurd cc
value_kept n v (whole (name m)) w e = absurd cc
value_kept n v (whole (known u)) w e = e
value_kept n v (tuple cs) w e = calculations_kept n v cs w e

no_fewer : (r s : Result (List Atom) Trap) → Keeps r s → one_with_value r ≤ one_with_value s
no_fewer (Ok v) s same = rw (same v refl) (omega arith)
no_fewer (Err t) s same = omega arith

-- so a bound term has no fewer final ones
finals_stay : (n : ℕ) (v : List Atom) (t : Term) → final_count t ≤ final_count (bound n v t)
finals_stay n v (always e) = no_fewer (value_of e) (value_of (in_expression (name_to n v) e)) (value_kept n v e)
finals_stay n v never = omega arith
finals_stay n v fresh = omega arith
finals_stay n v (throw e) = no_fewer (value_of e) (value_of (in_expression (name_to n v) e)) (value_kept n v e)
finals_stay n v (send p e) = omega arith
finals_stay n v (recv p) = omega arith
finals_stay n v (and_then e m f) = omega (arith, finals_stay n v e, finals_stay n v f)
finals_stay n v (choose e f) = omega (arith, finals_stay n v e, finals_stay n v f)
finals_stay n v (catch e m f) = omega (arith, finals_stay n v e, finals_stay n v f)
finals_stay n v (when test p q e f) = omega (arith, finals_stay n v e, finals_stay n v f)

-- ---- quiet steps

-- twice the nodes less the final ones are fewer, without a difference
abbrev Drops : Term → Term → Type 0
Drops t u = node_count u + node_count u + final_count t < node_count t + node_count t + final_count u

lowered : (t u : Term) → Drops t u → steps_most u < steps_most t
lowered t u drops = omega (arith, drops, finals_are_nodes t, finals_are_nodes u)

decided_drops : (r : Result Bool Trap) (e f : Term) → node_count (decided r e f) + node_count (decided r e f) + (final_count e + final_count f)
    < (1 + (node_count e + node_count f)) + (1 + (node_count e + node_count f)) + final_count (decided r e f)
decided_drops (Ok true) e f = omega (arith, some_nodes f, finals_are_nodes f)
decided_drops (Ok false) e f = omega (arith, some_nodes e, finals_are_nodes e)
decided_drops (Err t) e f = omega (arith, some_nodes e, some_nodes f, finals_are_nodes e, finals_are_nodes f)

each_drops : OfEachStep (λ m p. Drops m.term p.term)
each_drops = record {
  traps = λ t k c e v leaf. omega (arith, leaf.one_node, leaf.not_final);
  makes = λ t k c v. omega arith;
  then_gives = λ t k c e n f v. omega (arith, node_count-replaced (name_to n v) f, finals_stay n v f, finals_are_nodes e);
  then_raises = λ t k c e n f v. omega (arith, some_nodes e, some_nodes f, finals_are_nodes e, finals_are_nodes f);
  then_steps = λ m p n f drops. omega (arith, drops);
  catch_gives = λ t k c e n h v. omega (arith, some_nodes e, some_nodes h, finals_are_nodes e, finals_are_nodes h);
  catch_raises = λ t k c e n h v. omega (arith, node_count-replaced (name_to n v) h, finals_stay n v h, finals_are_nodes e);
  catch_steps = λ m p n h drops. omega (arith, drops);
  decides = λ t k c test p q e f r. omega (arith, decided_drops r e f);
}

pub quiet_lowers : (m p : Member) → quiet_step m ≡ Some p → steps_most p.term < steps_most m.term
quiet_lowers m p h = lowered m.term p.term (of_every_step (λ m p. Drops m.term p.term) each_drops m p h)

-- ---- choices and meetings

each_apart : SeesNoFirst one_each
each_apart = record { then_too = λ e g n f. refl; catch_too = λ e g n h. refl }

final_apart : SeesNoFirst one_final
final_apart = record { then_too = λ e g n f. refl; catch_too = λ e g n h. refl }

-- another head that counts less
head_lowers : (u t : Term) → Drops (head t) u → steps_most (with_head u t) < steps_most t
head_lowers u t drops = lowered t (with_head u t) (omega (arith, drops, total-with_head one_each each_apart u t, total-with_head one_final final_apart u t))

chosen_drops : (left : Bool) (h u : Term) → chosen_from left h ≡ Some u → Drops h u
chosen_drops true (choose e f) u p = let is : e ≡ u = cc in subst (Drops (choose e f)) is (omega (arith, some_nodes f, finals_are_nodes f))
chosen_drops false (choose e f) u p = let is : f ≡ u = cc in subst (Drops (choose e f)) is (omega (arith, some_nodes e, finals_are_nodes e))
chosen_drops true _ u p = absurd cc
chosen_drops false _ u p = absurd cc

choice_lowers_by : (t : Term) (o : Option Term) → ((u : Term) → o ≡ Some u → Drops (head t) u) → (u : Term) → option_map (λ x. with_head x t) o ≡ Some u → steps_most u < steps_most t
choice_lowers_by t None drops u p = absurd cc
choice_lowers_by t (Some x) drops u p = let is : with_head x t ≡ u = cc in subst (λ y. steps_most y < steps_most t) is (head_lowers x t (drops x refl))

pub choice_lowers : (left : Bool) (t u : Term) → after_choice left t ≡ Some u → steps_most u < steps_most t
choice_lowers left t u p = choice_lowers_by t (chosen_from left (head t)) (chosen_drops left (head t)) u p

pub send_lowers : (t : Term) (s : Message) (v : List Atom) → sending t ≡ Some s → steps_most (with_head (giving v) t) < steps_most t
send_lowers t s v p = let is = send_is (head t) s p in head_lowers (giving v) t (rw is.1.1.0 (omega arith))

pub receive_lowers : (t : Term) (channel : ℕ) (v : List Atom) → receiving t ≡ Some channel → steps_most (with_head (giving v) t) < steps_most t
receive_lowers t channel v p = let is = receive_is (head t) channel p in head_lowers (giving v) t (rw is.1.0 (omega arith))
