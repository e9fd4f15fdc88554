-- A term does one thing: what is final, can choose, send or receive has no quiet step and does no second of these.
use Rattle.std.proofs.Common.{◌≡◌, ℕ, Bool, true, false, List, Option, Some, None, Result, Ok, Err, refl, sym, ap, subst, ◌∙◌}
use Rattle.std.specs.Option.{option_map}
use Rattle.te_terms.specs.declared.value.Atom.{Atom}
use Rattle.te_terms.specs.declared.value.Trap.{Trap}
use Rattle.te_terms.specs.declared.event.Outcome.{Outcome}
use Rattle.te_terms.specs.declared.event.Outcome.TheVariants.{Gives, Raises}
use Rattle.te_terms.specs.Expressions.{Primitive, Expression, value_of, channel_value}
use Rattle.te_terms.specs.Terms.{Term, always, never, fresh, throw, send, recv, and_then, choose, catch, when}
use Rattle.te_terms.specs.Steps.{Member, at_term, IsSettled, quiet_step, outcome_of, given_by, raised_by, thrown, send_trap, recv_trap, goes_on, is_caught, head, with_head}
use Rattle.te_terms.specs.Joint.{chosen_from, after_choice, Message, message, channel_at, sent_from, received_on, sending, receiving}
use Rattle.te_terms.specs.Settling.{TermStands, at_end, at_choice, at_send, at_receive, at_never}

-- no quiet step and no ending
abbrev pub Rests : Member → Term → Type 0
Rests m t = IsSettled (at_term m t) × (outcome_of t ≡ None)

-- a term rests where its head does
pub rests : (m : Member) (t : Term) → Rests m (head t) → Rests m t
rests m (always e) h = h
rests m never h = h
rests m fresh h = h
rests m (throw e) h = h
rests m (send p e) h = h
rests m (recv p) h = h
rests m (and_then e n f) h = let first = rests m e h in (rw (first.1, first.0) refl, refl)
rests m (choose e f) h = h
rests m (catch e n f) h = let first = rests m e h in (rw (first.1, first.0) refl, refl)
rests m (when test p q e f) h = h

-- ---- what the head is where the term can act

chosen : (left : Bool) (h u : Term) → chosen_from left h ≡ Some u → (e : Term) × ((f : Term) × (h ≡ choose e f))
chosen true (choose e f) u p = (e, (f, refl))
chosen false (choose e f) u p = (e, (f, refl))
chosen true _ u p = absurd cc
chosen false _ u p = absurd cc

mapped : {A B : Type 0} (f : A → B) (o : Option A) (y : B) → option_map f o ≡ Some y → (x : A) × (o ≡ Some x)
mapped f None y e = absurd cc
mapped f (Some x) y e = (x, refl)

pub choice_is : (left : Bool) (t u : Term) → after_choice left t ≡ Some u → (e : Term) × ((f : Term) × (head t ≡ choose e f))
choice_is left t u p = let some = mapped (λ x. with_head x t) (chosen_from left (head t)) u p in chosen left (head t) some.0 some.1

messaged : (r : Result ℕ Trap) (s : Result (List Atom) Trap) (m : Message) → message r s ≡ Some m → ((c : ℕ) × (r ≡ Ok c)) × ((v : List Atom) × (s ≡ Ok v))
messaged (Ok c) (Ok v) m p = ((c, refl), (v, refl))
messaged _ _ m p = absurd cc

pub send_is : (h : Term) (s : Message) → sent_from h ≡ Some s → (p : Primitive) × ((e : Expression) × ((h ≡ send p e) × (message (channel_value p) (value_of e) ≡ Some s)))
send_is (send p e) s q = (p, (e, (refl, q)))
send_is _ s q = absurd cc

pub receive_is : (h : Term) (c : ℕ) → received_on h ≡ Some c → (p : Primitive) × ((h ≡ recv p) × (channel_at (channel_value p) ≡ Some c))
receive_is (recv p) c q = (p, (refl, q))
receive_is _ c q = absurd cc

send_rests : (to : Term → Member) (r : Result ℕ Trap) (s : Result (List Atom) Trap) (m : Message) → message r s ≡ Some m → option_map to (send_trap r s) ≡ None
send_rests to (Ok c) (Ok v) m p = refl
send_rests to _ _ m p = absurd cc

receive_rests : (to : Term → Member) (r : Result ℕ Trap) (c : ℕ) → channel_at r ≡ Some c → option_map to (recv_trap r) ≡ None
receive_rests to (Ok d) c p = refl
receive_rests to (Err t) c p = absurd cc

-- ---- one thing at a time

-- a choice rests, and neither sends nor receives
pub choice_rests : (m : Member) (left : Bool) (t u : Term) → after_choice left t ≡ Some u → Rests m t × (sending t ≡ None) × (receiving t ≡ None)
choice_rests m left t u p =
    let is = choice_is left t u p in
    (rests m t (subst (Rests m) (sym is.1.1) (refl, refl)), ap sent_from is.1.1, ap received_on is.1.1)

none_of : {A : Type 0} (o : Option A) → ((x : A) → o ≡ Some x → ⊥) → o ≡ None
none_of None not_so = refl
none_of (Some x) not_so = absurd (not_so x refl)

no_choice : (left : Bool) (t : Term) → ((e f : Term) → head t ≡ choose e f → ⊥) → after_choice left t ≡ None
no_choice left t not_so = none_of (after_choice left t) (λ u p. let is = choice_is left t u p in not_so is.0 is.1.0 is.1.1)

-- a send rests, and neither can choose nor receives
pub send_is_alone : (m : Member) (t : Term) (s : Message) → sending t ≡ Some s → Rests m t × ((left : Bool) → after_choice left t ≡ None) × (receiving t ≡ None)
send_is_alone m t s p =
    let is = send_is (head t) s p in
    let at : head t ≡ send is.0 is.1.0 = is.1.1.0 in (
      rests m t (subst (Rests m) (sym at) (send_rests (at_term m) (channel_value is.0) (value_of is.1.0) s is.1.1.1, refl)),
      λ left. no_choice left t (λ e f q. let both : send is.0 is.1.0 ≡ choose e f = sym at ∙ q in cc),
      ap received_on at,
    )

-- a receive rests, and neither can choose nor sends
pub receive_is_alone : (m : Member) (t : Term) (c : ℕ) → receiving t ≡ Some c → Rests m t × ((left : Bool) → after_choice left t ≡ None) × (sending t ≡ None)
receive_is_alone m t c p =
    let is = receive_is (head t) c p in
    let at : head t ≡ recv is.0 = is.1.0 in (
      rests m t (subst (Rests m) (sym at) (receive_rests (at_term m) (channel_value is.0) c is.1.1, refl)),
      λ left. no_choice left t (λ e f q. let both : recv is.0 ≡ choose e f = sym at ∙ q in cc),
      ap sent_from at,
    )

-- never rests and does nothing
pub never_is_alone : (m : Member) (t : Term) → head t ≡ never → Rests m t × ((left : Bool) → after_choice left t ≡ None) × (sending t ≡ None) × (receiving t ≡ None)
never_is_alone m t at = (
  rests m t (subst (Rests m) (sym at) (refl, refl)),
  λ left. no_choice left t (λ e f q. let both : never ≡ choose e f = sym at ∙ q in cc),
  ap sent_from at,
  ap received_on at,
)

given : (to : Term → Member) (r : Result (List Atom) Trap) (o : Outcome) → given_by r ≡ Some o → option_map to (thrown r) ≡ None
given to (Ok v) o p = refl
given to (Err t) o p = absurd cc

raised : (to : Term → Member) (r : Result (List Atom) Trap) (o : Outcome) → raised_by r ≡ Some o → option_map to (thrown r) ≡ None
raised to (Ok v) o p = refl
raised to (Err t) o p = absurd cc

-- a final term has no quiet step, and does nothing else
pub end_is_alone : (m : Member) (t : Term) (o : Outcome) → outcome_of t ≡ Some o → IsSettled (at_term m t) × ((left : Bool) → after_choice left t ≡ None) × (sending t ≡ None) × (receiving t ≡ None)
end_is_alone m (always e) o p = (given (at_term m) (value_of e) o p, λ left. no_choice left (always e) (λ f g q. cc), refl, refl)
end_is_alone m (throw e) o p = (raised (at_term m) (value_of e) o p, λ left. no_choice left (throw e) (λ f g q. cc), refl, refl)
end_is_alone m _ o p = absurd cc

-- ---- where a term without a quiet step stands

ended : (to : Term → Member) (r : Result (List Atom) Trap) → option_map to (thrown r) ≡ None → (v : List Atom) × (r ≡ Ok v)
ended to (Ok v) p = (v, refl)
ended to (Err t) p = absurd cc

sent : (to : Term → Member) (r : Result ℕ Trap) (s : Result (List Atom) Trap) → option_map to (send_trap r s) ≡ None → (m : Message) × (message r s ≡ Some m)
sent to (Ok c) (Ok v) p = (record { channel = c; value = v }, refl)
sent to (Ok c) (Err t) p = absurd cc
sent to (Err t) s p = absurd cc

received : (to : Term → Member) (r : Result ℕ Trap) → option_map to (recv_trap r) ≡ None → (c : ℕ) × (channel_at r ≡ Some c)
received to (Ok c) p = (c, refl)
received to (Err t) p = absurd cc

first_rests : (to : Term → Member) (o : Option Outcome) (step : Option Member) (n : ℕ) (f : Term) → goes_on to o step n f ≡ None → (o ≡ None) × (step ≡ None)
first_rests to None None n f p = (refl, refl)
first_rests to (Some (Gives v)) step n f p = absurd cc
first_rests to (Some (Raises v)) step n f p = absurd cc
first_rests to None (Some e) n f p = absurd cc

caught_rests : (to : Term → Member) (o : Option Outcome) (step : Option Member) (n : ℕ) (f : Term) → is_caught to o step n f ≡ None → (o ≡ None) × (step ≡ None)
caught_rests to None None n f p = (refl, refl)
caught_rests to (Some (Gives v)) step n f p = absurd cc
caught_rests to (Some (Raises v)) step n f p = absurd cc
caught_rests to None (Some e) n f p = absurd cc

-- a term whose head is that of its first part, which isn't final
outer : (e t : Term) → head t ≡ head e → outcome_of e ≡ None → TermStands e → TermStands t
outer e t h not_so (at_end _ o p) = let both : None ≡ Some o = sym not_so ∙ p in absurd cc
outer e t h not_so (at_choice _ a b p) = at_choice t a b (h ∙ p)
outer e t h not_so (at_send _ s p) = at_send t s (ap sent_from h ∙ p)
outer e t h not_so (at_receive _ c p) = at_receive t c (ap received_on h ∙ p)
outer e t h not_so (at_never _ p) = at_never t (h ∙ p)

pub stands : (m : Member) (t : Term) → IsSettled (at_term m t) → TermStands t
stands m (always e) p = let value = ended (at_term m) (value_of e) p in at_end (always e) (Gives value.0) (ap given_by value.1)
stands m never p = at_never never refl
stands m fresh p = absurd cc
stands m (throw e) p = let value = ended (at_term m) (value_of e) p in at_end (throw e) (Raises value.0) (ap raised_by value.1)
stands m (send c e) p = let told = sent (at_term m) (channel_value c) (value_of e) p in at_send (send c e) told.0 told.1
stands m (recv c) p = let channel = received (at_term m) (channel_value c) p in at_receive (recv c) channel.0 channel.1
stands m (and_then e n f) p = let first = first_rests (at_term m) (outcome_of e) (quiet_step (at_term m e)) n f p in outer e (and_then e n f) refl first.0 (stands m e first.1)
stands m (choose e f) p = at_choice (choose e f) e f refl
stands m (catch e n f) p = let first = caught_rests (at_term m) (outcome_of e) (quiet_step (at_term m e)) n f p in outer e (catch e n f) refl first.0 (stands m e first.1)
stands m (when test c d e f) p = absurd cc

-- ---- heads

pub with_own_head : (t : Term) → with_head (head t) t ≡ t
with_own_head (always e) = refl
with_own_head never = refl
with_own_head fresh = refl
with_own_head (throw e) = refl
with_own_head (send p e) = refl
with_own_head (recv p) = refl
with_own_head (and_then e n f) = ap (λ x. and_then x n f) (with_own_head e)
with_own_head (choose e f) = refl
with_own_head (catch e n f) = ap (λ x. catch x n f) (with_own_head e)
with_own_head (when test p q e f) = refl

pub head_of_with : (u t : Term) → head (with_head u t) ≡ head u
head_of_with u (always e) = refl
head_of_with u never = refl
head_of_with u fresh = refl
head_of_with u (throw e) = refl
head_of_with u (send p e) = refl
head_of_with u (recv p) = refl
head_of_with u (and_then e n f) = head_of_with u e
head_of_with u (choose e f) = refl
head_of_with u (catch e n f) = head_of_with u e
head_of_with u (when test p q e f) = refl

-- no head is a `then` or a `catch`
pub no_then : (t e f : Term) (n : ℕ) → head t ≡ and_then e n f → ⊥
no_then (always x) e f n p = cc
no_then never e f n p = cc
no_then fresh e f n p = cc
no_then (throw x) e f n p = cc
no_then (send q x) e f n p = cc
no_then (recv q) e f n p = cc
no_then (and_then a m b) e f n p = no_then a e f n p
no_then (choose a b) e f n p = cc
no_then (catch a m b) e f n p = no_then a e f n p
no_then (when test q r a b) e f n p = cc

pub no_catch : (t e f : Term) (n : ℕ) → head t ≡ catch e n f → ⊥
no_catch (always x) e f n p = cc
no_catch never e f n p = cc
no_catch fresh e f n p = cc
no_catch (throw x) e f n p = cc
no_catch (send q x) e f n p = cc
no_catch (recv q) e f n p = cc
no_catch (and_then a m b) e f n p = no_catch a e f n p
no_catch (choose a b) e f n p = cc
no_catch (catch a m b) e f n p = no_catch a e f n p
no_catch (when test q r a b) e f n p = cc

-- what is its own head is replaced whole
pub with_own : (u t : Term) → head t ≡ t → with_head u t ≡ u
with_own u (always e) own = refl
with_own u never own = refl
with_own u fresh own = refl
with_own u (throw e) own = refl
with_own u (send p e) own = refl
with_own u (recv p) own = refl
with_own u (and_then e n f) own = absurd (no_then e e f n own)
with_own u (choose e f) own = refl
with_own u (catch e n f) own = absurd (no_catch e e f n own)
with_own u (when test p q e f) own = refl

-- ---- what the first part does, `then` and `catch` do

placed_then : (n : ℕ) (f e : Term) (o : Option Term) → option_map (λ u. with_head u (and_then e n f)) o ≡ option_map (λ x. and_then x n f) (option_map (λ u. with_head u e) o)
placed_then n f e None = refl
placed_then n f e (Some u) = refl

placed_catch : (n : ℕ) (f e : Term) (o : Option Term) → option_map (λ u. with_head u (catch e n f)) o ≡ option_map (λ x. catch x n f) (option_map (λ u. with_head u e) o)
placed_catch n f e None = refl
placed_catch n f e (Some u) = refl

pub choice_under_then : (left : Bool) (e : Term) (n : ℕ) (f : Term) → after_choice left (and_then e n f) ≡ option_map (λ x. and_then x n f) (after_choice left e)
choice_under_then left e n f = placed_then n f e (chosen_from left (head e))

pub choice_under_catch : (left : Bool) (e : Term) (n : ℕ) (f : Term) → after_choice left (catch e n f) ≡ option_map (λ x. catch x n f) (after_choice left e)
choice_under_catch left e n f = placed_catch n f e (chosen_from left (head e))
