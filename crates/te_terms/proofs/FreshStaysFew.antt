-- The channels that a member has made and the `fresh` nodes that are left never grow together.
use Rattle.std.proofs.Common.{◌≡◌, ℕ, ◌+◌, ◌≤◌, Bool, true, false, List, Option, Some, None, Result, Ok, Err, refl, subst, arith}
use Rattle.std.specs.Option.{option_map}
use Rattle.te_terms.specs.declared.value.Atom.{Atom}
use Rattle.te_terms.specs.declared.value.Trap.{Trap}
use Rattle.te_terms.specs.Terms.{Term, choose, bound, name_to}
use Rattle.te_terms.specs.Measures.{one_fresh, fresh_count}
use Rattle.te_terms.specs.Steps.{Member, quiet_step, giving, decided, head, with_head}
use Rattle.te_terms.specs.Joint.{chosen_from, after_choice}
use Rattle.te_terms.proofs.Measured.{fresh_sees, counted-replaced, SeesNoFirst, total-with_head}
use Rattle.te_terms.proofs.QuietSteps.{OfEachStep, of_every_step}

abbrev Makes : Member → Member → Type 0
Makes m p = (m.count ≤ p.count) × (p.count + fresh_count p.term ≤ m.count + fresh_count m.term)

decided_few : (r : Result Bool Trap) (e f : Term) → fresh_count (decided r e f) ≤ fresh_count e + fresh_count f
decided_few (Ok true) e f = omega arith
decided_few (Ok false) e f = omega arith
decided_few (Err t) e f = omega arith

bound_few : (n : ℕ) (v : List Atom) (f : Term) → fresh_count (bound n v f) ≡ fresh_count f
bound_few n v f = counted-replaced one_fresh (λ a b. a + b) fresh_sees (name_to n v) f

each_makes : OfEachStep Makes
each_makes = record {
  traps = λ t k c e v leaf. (omega arith, omega arith);
  makes = λ t k c v. (omega arith, omega arith);
  then_gives = λ t k c e n f v. (omega arith, omega (arith, bound_few n v f));
  then_raises = λ t k c e n f v. (omega arith, omega arith);
  then_steps = λ m p n f made. (made.0, omega (arith, made.1));
  catch_gives = λ t k c e n h v. (omega arith, omega arith);
  catch_raises = λ t k c e n h v. (omega arith, omega (arith, bound_few n v h));
  catch_steps = λ m p n h made. (made.0, omega (arith, made.1));
  decides = λ t k c test p q e f r. (omega arith, omega (arith, decided_few r e f));
}

pub quiet_makes : (m p : Member) → quiet_step m ≡ Some p → (m.count ≤ p.count) × (p.count + fresh_count p.term ≤ m.count + fresh_count m.term)
quiet_makes m p h = of_every_step Makes each_makes m p h

-- ---- another head

fresh_apart : SeesNoFirst one_fresh
fresh_apart = record { then_too = λ e g n f. refl; catch_too = λ e g n h. refl }

-- with a value in the head's place
pub handed_few : (t : Term) (v : List Atom) → fresh_count (with_head (giving v) t) ≤ fresh_count t
handed_few t v = omega (arith, total-with_head one_fresh fresh_apart (giving v) t)

chosen_few : (left : Bool) (h u : Term) → chosen_from left h ≡ Some u → fresh_count u ≤ fresh_count h
chosen_few true (choose e f) u p = let is : e ≡ u = cc in subst (λ x. fresh_count x ≤ fresh_count (choose e f)) is (omega arith)
chosen_few false (choose e f) u p = let is : f ≡ u = cc in subst (λ x. fresh_count x ≤ fresh_count (choose e f)) is (omega arith)
chosen_few true _ u p = absurd cc
chosen_few false _ u p = absurd cc

choice_few_by : (t : Term) (o : Option Term) → ((u : Term) → o ≡ Some u → fresh_count u ≤ fresh_count (head t)) → (u : Term)
    → option_map (λ x. with_head x t) o ≡ Some u → fresh_count u ≤ fresh_count t
choice_few_by t None few u p = absurd cc
choice_few_by t (Some x) few u p =
    let is : with_head x t ≡ u = cc in
    subst (λ y. fresh_count y ≤ fresh_count t) is (omega (arith, few x refl, total-with_head one_fresh fresh_apart x t))

pub choice_few : (left : Bool) (t u : Term) → after_choice left t ≡ Some u → fresh_count u ≤ fresh_count t
choice_few left t u p = choice_few_by t (chosen_from left (head t)) (chosen_few left (head t)) u p
