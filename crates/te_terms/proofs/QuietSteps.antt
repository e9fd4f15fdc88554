-- What holds of each form of quiet step holds of every quiet step.
use Rattle.std.proofs.Common.{◌≡◌, ℕ, suc, Bool, List, [], ◌∷◌, Option, Some, None, Result, Ok, Err, refl, ap, subst}
use Rattle.std.specs.Option.{option_map}
use Rattle.te_terms.specs.declared.value.Atom.{Atom}
use Rattle.te_terms.specs.declared.value.Atom.TheVariants.{Chan}
use Rattle.te_terms.specs.declared.value.Trap.{Trap}
use Rattle.te_terms.specs.declared.value.Trap.TheVariants.{Kind}
use Rattle.te_terms.specs.declared.expr.Test.{Test}
use Rattle.te_terms.specs.declared.event.Outcome.{Outcome}
use Rattle.te_terms.specs.declared.event.Outcome.TheVariants.{Gives, Raises}
use Rattle.te_terms.specs.Values.{trap_value, fresh_channel}
use Rattle.te_terms.specs.Expressions.{Primitive, value_of, channel_value, test_value}
use Rattle.te_terms.specs.Terms.{Term, always, never, fresh, throw, send, recv, and_then, choose, catch, when, bound}
use Rattle.te_terms.specs.Measures.{node_count, final_count, fresh_count, one_with_value}
use Rattle.te_terms.specs.Steps.{Member, come_to, giving, raising, outcome_of, thrown, send_trap, recv_trap, decided, under_then, under_catch, goes_on, is_caught, quiet_step_of, quiet_step}

-- one node that has no value
pub record IsTrapLeaf (t : Term) : Type 0 where
  pub one_node : node_count t ≡ 1
  pub not_final : final_count t ≡ 0
  pub not_fresh : fresh_count t ≡ 0

-- each form of quiet step is related so
pub record OfEachStep (R : Member → Member → Type 0) : Type 0 where
  pub traps : (t k c : ℕ) (e : Term) (v : List Atom) → IsTrapLeaf e → R (come_to t k c e) (come_to t k c (raising v))
  pub makes : (t k c : ℕ) (v : List Atom) → R (come_to t k c fresh) (come_to t k (suc c) (giving v))
  pub then_gives : (t k c : ℕ) (e : Term) (n : ℕ) (f : Term) (v : List Atom) → R (come_to t k c (and_then e n f)) (come_to t k c (bound n v f))
  pub then_raises : (t k c : ℕ) (e : Term) (n : ℕ) (f : Term) (v : List Atom) → R (come_to t k c (and_then e n f)) (come_to t k c (raising v))
  pub then_steps : (m p : Member) (n : ℕ) (f : Term) → R m p → R (under_then n f m) (under_then n f p)
  pub catch_gives : (t k c : ℕ) (e : Term) (n : ℕ) (h : Term) (v : List Atom) → R (come_to t k c (catch e n h)) (come_to t k c (giving v))
  pub catch_raises : (t k c : ℕ) (e : Term) (n : ℕ) (h : Term) (v : List Atom) → R (come_to t k c (catch e n h)) (come_to t k c (bound n v h))
  pub catch_steps : (m p : Member) (n : ℕ) (h : Term) → R m p → R (under_catch n h m) (under_catch n h p)
  pub decides : (t k c : ℕ) (test : Test) (p q : Primitive) (e f : Term) (r : Result Bool Trap) → R (come_to t k c (when test p q e f)) (come_to t k c (decided r e f))

module _ (R : Member → Member → Type 0) (of : OfEachStep R) (t k c : ℕ) where
  of_trap : (e : Term) (x : Trap) (m : Member) → IsTrapLeaf e → Some (come_to t k c (raising (trap_value x))) ≡ Some m → R (come_to t k c e) m
  of_trap e x m leaf h = let is : come_to t k c (raising (trap_value x)) ≡ m = cc in subst (R (come_to t k c e)) is (of.traps t k c e (trap_value x) leaf)

  of_value : (e : Term) (r : Result (List Atom) Trap) (m : Member) → ((x : Trap) → r ≡ Err x → IsTrapLeaf e) → option_map (come_to t k c) (thrown r) ≡ Some m → R (come_to t k c e) m
  of_value e (Ok v) m leaf h = absurd cc
  of_value e (Err x) m leaf h = of_trap e x m (leaf x refl) h

  of_send : (e : Term) (r : Result ℕ Trap) (s : Result (List Atom) Trap) (m : Member) → IsTrapLeaf e → option_map (come_to t k c) (send_trap r s) ≡ Some m → R (come_to t k c e) m
  of_send e (Err x) s m leaf h = of_trap e Kind m leaf h
  of_send e (Ok d) s m leaf h = of_value e s m (λ x is. leaf) h

  of_receive : (e : Term) (r : Result ℕ Trap) (m : Member) → IsTrapLeaf e → option_map (come_to t k c) (recv_trap r) ≡ Some m → R (come_to t k c e) m
  of_receive e (Err x) m leaf h = of_trap e Kind m leaf h
  of_receive e (Ok d) m leaf h = absurd cc

  of_then : (o : Option Outcome) (step : Option Member) (e : Term) (n : ℕ) (f : Term) (m : Member) → ((p : Member) → step ≡ Some p → R (come_to t k c e) p) →
      goes_on (come_to t k c) o step n f ≡ Some m → R (come_to t k c (and_then e n f)) m
  of_then (Some (Gives v)) step e n f m first h = let is : come_to t k c (bound n v f) ≡ m = cc in subst (R (come_to t k c (and_then e n f))) is (of.then_gives t k c e n f v)
  of_then (Some (Raises v)) step e n f m first h = let is : come_to t k c (raising v) ≡ m = cc in subst (R (come_to t k c (and_then e n f))) is (of.then_raises t k c e n f v)
  of_then None None e n f m first h = absurd cc
  of_then None (Some p) e n f m first h = let is : under_then n f p ≡ m = cc in subst (R (come_to t k c (and_then e n f))) is (of.then_steps (come_to t k c e) p n f (first p refl))

  of_catch : (o : Option Outcome) (step : Option Member) (e : Term) (n : ℕ) (f : Term) (m : Member) → ((p : Member) → step ≡ Some p → R (come_to t k c e) p) →
      is_caught (come_to t k c) o step n f ≡ Some m → R (come_to t k c (catch e n f)) m
  of_catch (Some (Gives v)) step e n f m first h = let is : come_to t k c (giving v) ≡ m = cc in subst (R (come_to t k c (catch e n f))) is (of.catch_gives t k c e n f v)
  of_catch (Some (Raises v)) step e n f m first h = let is : come_to t k c (bound n v f) ≡ m = cc in subst (R (come_to t k c (catch e n f))) is (of.catch_raises t k c e n f v)
  of_catch None None e n f m first h = absurd cc
  of_catch None (Some p) e n f m first h = let is : under_catch n f p ≡ m = cc in subst (R (come_to t k c (catch e n f))) is (of.catch_steps (come_to t k c e) p n f (first p refl))

  of_step : (e : Term) (m : Member) → quiet_step_of t k c e ≡ Some m → R (come_to t k c e) m
  of_step (always e) m h = of_value (always e) (value_of e) m (λ x is. record { one_node = refl; not_final = ap one_with_value is; not_fresh = refl }) h
  of_step never m h = absurd cc
  of_step fresh m h =
      let is : come_to t k (suc c) (giving (Chan (fresh_channel t k c) ∷ [])) ≡ m = cc in
      subst (R (come_to t k c fresh)) is (of.makes t k c (Chan (fresh_channel t k c) ∷ []))
  of_step (throw e) m h = of_value (throw e) (value_of e) m (λ x is. record { one_node = refl; not_final = ap one_with_value is; not_fresh = refl }) h
  of_step (send p e) m h = of_send (send p e) (channel_value p) (value_of e) m (record { one_node = refl; not_final = refl; not_fresh = refl }) h
  of_step (recv p) m h = of_receive (recv p) (channel_value p) m (record { one_node = refl; not_final = refl; not_fresh = refl }) h
  of_step (and_then e n f) m h = of_then (outcome_of e) (quiet_step_of t k c e) e n f m (of_step e) h
  of_step (choose e f) m h = absurd cc
  of_step (catch e n f) m h = of_catch (outcome_of e) (quiet_step_of t k c e) e n f m (of_step e) h
  of_step (when test p q e f) m h =
      let is : come_to t k c (decided (test_value test p q) e f) ≡ m = cc in
      subst (R (come_to t k c (when test p q e f))) is (of.decides t k c test p q e f (test_value test p q))

pub of_every_step : (R : Member → Member → Type 0) → OfEachStep R → (m p : Member) → quiet_step m ≡ Some p → R m p
of_every_step R of m p h = of_step R of m.thread m.ticket m.count m.term p h
