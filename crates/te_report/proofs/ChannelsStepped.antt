-- What steps bring in fits too, and they bring in no other channels than fresh ones of the member.
use Rattle.std.proofs.Common.{◌≡◌, ℕ, suc, ◌+◌, ◌<◌, ◌≤◌, Bool, true, false, cond, eqb, List, [], ◌∷◌, Option, Some, None, Result, Ok, Err, refl, sym, ap, subst, arith}
use Rattle.std.specs.List.{AllByRecursion}
use Rattle.std.specs.Option.{option_map, option_and_then}
use Rattle.te_terms.specs.declared.value.Atom.{Atom}
use Rattle.te_terms.specs.declared.value.Atom.TheVariants.{Chan}
use Rattle.te_terms.specs.declared.value.Trap.{Trap}
use Rattle.te_terms.specs.declared.value.Trap.TheVariants.{Kind}
use Rattle.te_terms.specs.declared.event.Outcome.{Outcome}
use Rattle.te_terms.specs.declared.event.Outcome.TheVariants.{Gives, Raises}
use Rattle.te_terms.specs.Values.{trap_value, fresh_channel}
use Rattle.te_terms.specs.Limits.{most_fresh}
use Rattle.te_terms.specs.Measures.{fresh_count}
use Rattle.te_terms.specs.Expressions.{value_of, channel_value, test_value}
use Rattle.te_terms.specs.Terms.{Term, always, never, fresh, throw, send, recv, and_then, choose, catch, when, bound}
use Rattle.te_terms.specs.Steps.{Member, come_to, at_term, giving, raising, outcome_of, thrown, send_trap, recv_trap}
use Rattle.te_terms.specs.Steps.{decided, under_then, under_catch, goes_on, is_caught, quiet_step_of, quiet_step, head}
use Rattle.te_terms.specs.Steps.{with_head}
use Rattle.te_terms.specs.Joint.{Label, choice, meeting, Action, quiet, labelled, chosen_from, after_choice, Message}
use Rattle.te_terms.specs.Joint.{message, sent_from, sending, receiving, member_of, with_member, with_term, handed}
use Rattle.te_terms.specs.Joint.{meeting_of, meeting_joint, joint_step, after, and_outcome, outcomes_of, Reduces}
use Rattle.te_terms.proofs.FreshStaysFew.{quiet_makes, handed_few, choice_few}
use Rattle.te_report.specs.Fitting.{ValueFits, TermFits, OutcomeFits}
use Rattle.te_report.proofs.ChannelsEvaluated.{trap_has, value_has, outcome_has, bound_has}

module _ (P : ℕ → Type 0) where
  -- the thread makes such channels under the ticket
  abbrev pub Makes : ℕ → ℕ → Type 0
  Makes thread ticket = (count : ℕ) → count < most_fresh → P (fresh_channel thread ticket count)

  pub record Fits (m : Member) : Type 0 where
    pub term : TermFits P m.term
    pub few : m.count + fresh_count m.term ≤ most_fresh
    pub makes : Makes m.thread m.ticket

  -- ---- quiet steps

  module _ (t k c : ℕ) (makes : Makes t k) where
    abbrev Has : Member → Type 0
    Has m = TermFits P m.term × (m.thread ≡ t) × (m.ticket ≡ k)

    of_trap : (x : Trap) (m : Member) → Some (come_to t k c (raising (trap_value x))) ≡ Some m → Has m
    of_trap x m is = let same : come_to t k c (raising (trap_value x)) ≡ m = cc in subst Has same (trap_has P x, refl, refl)

    of_value : (r : Result (List Atom) Trap) (m : Member) → option_map (come_to t k c) (thrown r) ≡ Some m → Has m
    of_value (Ok v) m is = absurd cc
    of_value (Err x) m is = of_trap x m is

    of_send : (r : Result ℕ Trap) (s : Result (List Atom) Trap) (m : Member) → option_map (come_to t k c) (send_trap r s) ≡ Some m → Has m
    of_send (Err x) s m is = of_trap Kind m is
    of_send (Ok d) s m is = of_value s m is

    of_receive : (r : Result ℕ Trap) (m : Member) → option_map (come_to t k c) (recv_trap r) ≡ Some m → Has m
    of_receive (Err x) m is = of_trap Kind m is
    of_receive (Ok d) m is = absurd cc

    of_then : (o : Option Outcome) (step : Option Member) (n : ℕ) (f : Term) (m : Member) → ((x : Outcome) → o ≡ Some x → OutcomeFits P x) → TermFits P f
        → ((p : Member) → step ≡ Some p → Has p) → goes_on (come_to t k c) o step n f ≡ Some m → Has m
    of_then (Some (Gives v)) step n f m ends hf first is = let same : come_to t k c (bound n v f) ≡ m = cc in subst Has same (bound_has P n v f (ends (Gives v) refl) hf, refl, refl)
    of_then (Some (Raises v)) step n f m ends hf first is = let same : come_to t k c (raising v) ≡ m = cc in subst Has same (ends (Raises v) refl, refl, refl)
    of_then None None n f m ends hf first is = absurd cc
    of_then None (Some p) n f m ends hf first is =
        let same : under_then n f p ≡ m = cc in let h = first p refl in subst Has same ((h.0, hf), h.1, h.2)

    of_catch : (o : Option Outcome) (step : Option Member) (n : ℕ) (f : Term) (m : Member) → ((x : Outcome) → o ≡ Some x → OutcomeFits P x) → TermFits P f
        → ((p : Member) → step ≡ Some p → Has p) → is_caught (come_to t k c) o step n f ≡ Some m → Has m
    of_catch (Some (Gives v)) step n f m ends hf first is = let same : come_to t k c (giving v) ≡ m = cc in subst Has same (ends (Gives v) refl, refl, refl)
    of_catch (Some (Raises v)) step n f m ends hf first is = let same : come_to t k c (bound n v f) ≡ m = cc in subst Has same (bound_has P n v f (ends (Raises v) refl) hf, refl, refl)
    of_catch None None n f m ends hf first is = absurd cc
    of_catch None (Some p) n f m ends hf first is =
        let same : under_catch n f p ≡ m = cc in let h = first p refl in subst Has same ((h.0, hf), h.1, h.2)

    decided_has : (r : Result Bool Trap) (e f : Term) → TermFits P e → TermFits P f → TermFits P (decided r e f)
    decided_has (Ok true) e f he hf = he
    decided_has (Ok false) e f he hf = hf
    decided_has (Err x) e f he hf = trap_has P x

    step_has : (e : Term) (m : Member) → c + fresh_count e ≤ most_fresh → TermFits P e → quiet_step_of t k c e ≡ Some m → Has m
    step_has (always e) m few h is = of_value (value_of e) m is
    step_has never m few h is = absurd cc
    step_has fresh m few h is =
        let same : come_to t k (suc c) (giving (Chan (fresh_channel t k c) ∷ [])) ≡ m = cc in subst Has same (record { few = omega arith; atoms = (makes c (omega (arith, few)), tt) }, refl, refl)
    step_has (throw e) m few h is = of_value (value_of e) m is
    step_has (send p e) m few h is = of_send (channel_value p) (value_of e) m is
    step_has (recv p) m few h is = of_receive (channel_value p) m is
    step_has (and_then e n f) m few h is =
        of_then (outcome_of e) (quiet_step_of t k c e) n f m (λ x at. outcome_has P e x h.0 at) h.1 (λ p at. step_has e p (omega (arith, few)) h.0 at) is
    step_has (choose e f) m few h is = absurd cc
    step_has (catch e n f) m few h is =
        of_catch (outcome_of e) (quiet_step_of t k c e) n f m (λ x at. outcome_has P e x h.0 at) h.1 (λ p at. step_has e p (omega (arith, few)) h.0 at) is
    step_has (when test p q e f) m few h is =
        let same : come_to t k c (decided (test_value test p q) e f) ≡ m = cc in subst Has same (decided_has (test_value test p q) e f h.2 h.3, refl, refl)

  quiet_fits : (m p : Member) → Fits m → quiet_step m ≡ Some p → Fits p
  quiet_fits m p fits is =
      let has = step_has m.thread m.ticket m.count fits.makes m.term p fits.few fits.term is in
      let made = quiet_makes m p is in
      record { term = has.0; few = omega (arith, made.1, fits.few); makes = subst (λ (t : ℕ). Makes t p.ticket) (sym has.1) (subst (Makes m.thread) (sym has.2) fits.makes) }

  -- ---- heads

  head_has : (t : Term) → TermFits P t → TermFits P (head t)
  head_has (and_then e n f) h = head_has e h.0
  head_has (catch e n f) h = head_has e h.0
  head_has (always e) h = h
  head_has never h = h
  head_has fresh h = h
  head_has (throw e) h = h
  head_has (send p e) h = h
  head_has (recv p) h = h
  head_has (choose e f) h = h
  head_has (when test p q e f) h = h

  with_head_has : (u t : Term) → TermFits P u → TermFits P t → TermFits P (with_head u t)
  with_head_has u (and_then e n f) hu h = (with_head_has u e hu h.0, h.1)
  with_head_has u (catch e n f) hu h = (with_head_has u e hu h.0, h.1)
  with_head_has u (always e) hu h = hu
  with_head_has u never hu h = hu
  with_head_has u fresh hu h = hu
  with_head_has u (throw e) hu h = hu
  with_head_has u (send p e) hu h = hu
  with_head_has u (recv p) hu h = hu
  with_head_has u (choose e f) hu h = hu
  with_head_has u (when test p q e f) hu h = hu

  chosen_has : (left : Bool) (t u : Term) → TermFits P t → chosen_from left t ≡ Some u → TermFits P u
  chosen_has true (choose e f) u h is = let same : e ≡ u = cc in subst (TermFits P) same h.0
  chosen_has false (choose e f) u h is = let same : f ≡ u = cc in subst (TermFits P) same h.1
  chosen_has true _ u h is = absurd cc
  chosen_has false _ u h is = absurd cc

  choice_has_by : (t : Term) (o : Option Term) (u : Term) → TermFits P t → ((x : Term) → o ≡ Some x → TermFits P x) → option_map (λ x. with_head x t) o ≡ Some u → TermFits P u
  choice_has_by t None u h each is = absurd cc
  choice_has_by t (Some x) u h each is = let same : with_head x t ≡ u = cc in subst (TermFits P) same (with_head_has x t (each x refl) h)

  choice_has : (left : Bool) (t u : Term) → TermFits P t → after_choice left t ≡ Some u → TermFits P u
  choice_has left t u h is = choice_has_by t (chosen_from left (head t)) u h (λ x at. chosen_has left (head t) x (head_has t h) at) is

  message_has : (c : Result ℕ Trap) (v : Result (List Atom) Trap) (sent : Message) → message c v ≡ Some sent → v ≡ Ok sent.value
  message_has (Ok c) (Ok v) sent is = let same : record { channel = c; value = v } ≡ sent = cc in ap (λ (m : Message). Ok m.value) same
  message_has (Ok c) (Err t) sent is = absurd cc
  message_has (Err t) _ sent is = absurd cc

  sent_has : (t : Term) (sent : Message) → TermFits P t → sent_from t ≡ Some sent → ValueFits P sent.value
  sent_has (send p e) sent h is = value_has P e sent.value h.1 (message_has (channel_value p) (value_of e) sent is)
  sent_has (always e) sent h is = absurd cc
  sent_has never sent h is = absurd cc
  sent_has fresh sent h is = absurd cc
  sent_has (throw e) sent h is = absurd cc
  sent_has (recv p) sent h is = absurd cc
  sent_has (and_then e n f) sent h is = absurd cc
  sent_has (choose e f) sent h is = absurd cc
  sent_has (catch e n f) sent h is = absurd cc
  sent_has (when test p q e f) sent h is = absurd cc

  sending_has : (t : Term) (sent : Message) → TermFits P t → sending t ≡ Some sent → ValueFits P sent.value
  sending_has t sent h is = sent_has (head t) sent (head_has t h) is

  -- ---- groups

  abbrev pub AllFit : List Member → Type 0
  AllFit g = AllByRecursion Fits g

  member_fits : (t : ℕ) (g : List Member) (m : Member) → AllFit g → member_of t g ≡ Some m → Fits m
  member_fits t [] m h is = absurd cc
  member_fits t (x ∷ xs) m h is = at (eqb x.thread t) (member_fits t xs m h.1) is
    where
      at : (b : Bool) → (member_of t xs ≡ Some m → Fits m) → cond b (Some x) (member_of t xs) ≡ Some m → Fits m
      at true others e = let same : x ≡ m = cc in subst Fits same h.0
      at false others e = others e

  with_member_fits : (new : Member) (g : List Member) → Fits new → AllFit g → AllFit (with_member new g)
  with_member_fits new [] hn h = tt
  with_member_fits new (x ∷ xs) hn h = at (eqb x.thread new.thread) (with_member_fits new xs hn h.1)
    where
      at : (b : Bool) → AllFit (with_member new xs) → AllFit (cond b (new ∷ xs) (x ∷ with_member new xs))
      at true others = (hn, h.1)
      at false others = (h.0, others)

  at_term_fits : (m : Member) (u : Term) → Fits m → TermFits P u → fresh_count u ≤ fresh_count m.term → Fits (at_term m u)
  at_term_fits m u h hu less = record { term = hu; few = omega (arith, h.few, less); makes = h.makes }

  quiet_by : (g g' : List Member) (o : Option Member) → AllFit g → ((m : Member) → o ≡ Some m → Fits m) → option_map (λ m. with_member m g) (option_and_then quiet_step o) ≡ Some g' → AllFit g'
  quiet_by g g' None h each is = absurd cc
  quiet_by g g' (Some m) h each is = at (quiet_step m) refl is
    where
      at : (s : Option Member) → quiet_step m ≡ s → option_map (λ p. with_member p g) s ≡ Some g' → AllFit g'
      at None e is' = absurd cc
      at (Some p) e is' = let same : with_member p g ≡ g' = cc in subst AllFit same (with_member_fits p g (quiet_fits m p (each m refl) e) h)

  choice_by : (left : Bool) (g g' : List Member) (o : Option Member) → AllFit g → ((m : Member) → o ≡ Some m → Fits m)
      → option_and_then (λ m. option_map (with_term g m) (after_choice left m.term)) o ≡ Some g' → AllFit g'
  choice_by left g g' None h each is = absurd cc
  choice_by left g g' (Some m) h each is = at (after_choice left m.term) refl is
    where
      at : (s : Option Term) → after_choice left m.term ≡ s → option_map (with_term g m) s ≡ Some g' → AllFit g'
      at None e is' = absurd cc
      at (Some u) e is' =
          let same : with_term g m u ≡ g' = cc in
          let fits = each m refl in
          subst AllFit same (with_member_fits (at_term m u) g (at_term_fits m u fits (choice_has left m.term u fits.term e) (choice_few left m.term u e)) h)

  no_atoms : ValueFits P []
  no_atoms = record { few = omega arith; atoms = tt }

  handed_fits : (g g' : List Member) (i j : Member) (sent : Message) (c : ℕ) → AllFit g → Fits i → Fits j → ValueFits P sent.value → handed g i j sent c ≡ Some g' → AllFit g'
  handed_fits g g' i j sent c h hi hj hv is = at (eqb sent.channel c) is
    where
      all : AllFit (with_term (with_term g i (with_head (giving []) i.term)) j (with_head (giving sent.value) j.term))
      all =
          with_member_fits (at_term j (with_head (giving sent.value) j.term)) (with_term g i (with_head (giving []) i.term))
          (at_term_fits j (with_head (giving sent.value) j.term) hj (with_head_has (giving sent.value) j.term hv hj.term) (handed_few j.term sent.value))
          (with_member_fits (at_term i (with_head (giving []) i.term)) g
          (at_term_fits i (with_head (giving []) i.term) hi (with_head_has (giving []) i.term no_atoms hi.term) (handed_few i.term [])) h)

      at : (b : Bool) → cond b (Some (with_term (with_term g i (with_head (giving []) i.term)) j (with_head (giving sent.value) j.term))) None ≡ Some g' → AllFit g'
      at true e = let same : with_term (with_term g i (with_head (giving []) i.term)) j (with_head (giving sent.value) j.term) ≡ g' = cc in subst AllFit same all
      at false e = absurd cc

  meeting_by : (g g' : List Member) (i j : Member) → AllFit g → Fits i → Fits j → meeting_of g i j ≡ Some g' → AllFit g'
  meeting_by g g' i j h hi hj is = at (sending i.term) refl is
    where
      on : (sent : Message) → ValueFits P sent.value → (r : Option ℕ) → option_and_then (handed g i j sent) r ≡ Some g' → AllFit g'
      on sent hv None e = absurd cc
      on sent hv (Some c) e = handed_fits g g' i j sent c h hi hj hv e

      at : (s : Option Message) → sending i.term ≡ s → option_and_then (λ sent. option_and_then (handed g i j sent) (receiving j.term)) s ≡ Some g' → AllFit g'
      at None e is' = absurd cc
      at (Some sent) e is' = on sent (sending_has i.term sent hi.term e) (receiving j.term) is'

  meeting_fits : (s r : ℕ) (g g' : List Member) → AllFit g → meeting_joint s r g ≡ Some g' → AllFit g'
  meeting_fits s r g g' h is = at (eqb s r) is
    where
      with_receiver : (i : Member) → Fits i → (o : Option Member) → member_of r g ≡ o → option_and_then (meeting_of g i) o ≡ Some g' → AllFit g'
      with_receiver i hi None e is' = absurd cc
      with_receiver i hi (Some j) e is' = meeting_by g g' i j h hi (member_fits r g j h e) is'

      with_sender : (o : Option Member) → member_of s g ≡ o → option_and_then (λ i. option_and_then (meeting_of g i) (member_of r g)) o ≡ Some g' → AllFit g'
      with_sender None e is' = absurd cc
      with_sender (Some i) e is' = with_receiver i (member_fits s g i h e) (member_of r g) refl is'

      at : (b : Bool) → cond b None (option_and_then (λ i. option_and_then (meeting_of g i) (member_of r g)) (member_of s g)) ≡ Some g' → AllFit g'
      at true e = absurd cc
      at false e = with_sender (member_of s g) refl e

  joint_fits : (a : Action) (g g' : List Member) → AllFit g → joint_step a g ≡ Some g' → AllFit g'
  joint_fits (quiet t) g g' h is = quiet_by g g' (member_of t g) h (λ m at. member_fits t g m h at) is
  joint_fits (labelled (choice t left)) g g' h is = choice_by left g g' (member_of t g) h (λ m at. member_fits t g m h at) is
  joint_fits (labelled (meeting s r)) g g' h is = meeting_fits s r g g' h is

  chain_fits : (as' : List Action) (g end : List Member) → AllFit g → after as' g ≡ Some end → AllFit end
  chain_fits [] g end h is = let same : g ≡ end = cc in subst AllFit same h
  chain_fits (a ∷ as') g end h is = at (joint_step a g) refl (λ g' fits. chain_fits as' g' end fits) is
    where
      at : (o : Option (List Member)) → joint_step a g ≡ o → ((g' : List Member) → AllFit g' → after as' g' ≡ Some end → AllFit end) → option_and_then (after as') o ≡ Some end → AllFit end
      at None e rest is' = absurd cc
      at (Some g') e rest is' = rest g' (joint_fits a g g' h e) is'

  outcomes_have : (g : List Member) (os : List Outcome) → AllFit g → outcomes_of g ≡ Some os → AllByRecursion (OutcomeFits P) os
  outcomes_have [] os h is = let same : [] ≡ os = cc in subst (AllByRecursion (OutcomeFits P)) same tt
  outcomes_have (m ∷ ms) os h is = at (outcome_of m.term) (outcomes_of ms) refl (λ rest. outcomes_have ms rest h.1) is
    where
      at : (o : Option Outcome) (others : Option (List Outcome)) → outcome_of m.term ≡ o → ((rest : List Outcome) → others ≡ Some rest → AllByRecursion (OutcomeFits P) rest)
          → and_outcome o others ≡ Some os → AllByRecursion (OutcomeFits P) os
      at (Some o) (Some rest) e have is' =
          let same : o ∷ rest ≡ os = cc in subst (AllByRecursion (OutcomeFits P)) same (outcome_has P m.term o h.0.term e, have rest refl)
      at (Some o) None e have is' = absurd cc
      at None _ e have is' = absurd cc

  -- what reduces comes to outcomes with such channels
  pub reductions_have : (g : List Member) (word : List Label) (os : List Outcome) → AllFit g → Reduces g word os → AllByRecursion (OutcomeFits P) os
  reductions_have g word os h r = outcomes_have r.end os (chain_fits r.actions g r.end h r.reaches) r.ends_so
