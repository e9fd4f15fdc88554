-- A member that names no channel of a ring never comes to name one: steps bring in fresh channels alone, and no number of a fresh channel is so low.
use Rattle.std.proofs.Common.{◌≡◌, ℕ, zero, suc, ◌+◌, ◌^◌, ◌<◌, Bool, true, false, cond, ◌==◌, List, [], ◌∷◌, map, ℤ, Option, Some, None, Result, Ok, Err, refl, ap, subst, arith}
use Rattle.std.specs.Prelude.{slice_get}
use Rattle.std.specs.List.{AllByRecursion}
use Rattle.std.specs.Option.{option_map, ok_or}
use Rattle.te_terms.specs.declared.value.Atom.{Atom}
use Rattle.te_terms.specs.declared.value.Atom.TheVariants.{Int, Chan}
use Rattle.te_terms.specs.declared.value.Trap.{Trap}
use Rattle.te_terms.specs.declared.value.Trap.TheVariants.{Range, Kind}
use Rattle.te_terms.specs.declared.event.Outcome.{Outcome}
use Rattle.te_terms.specs.declared.event.Outcome.TheVariants.{Gives, Raises}
use Rattle.te_terms.specs.Values.{trap_value, arith_result, fits_i64, fresh_channel}
use Rattle.te_terms.specs.Expressions.{Variable, register, name, known, Primitive, int, chan, part, Calculation, one}
use Rattle.te_terms.specs.Expressions.{both, Expression, whole, tuple, in_primitive, in_calculation, in_expression}
use Rattle.te_terms.specs.Expressions.{◌>>=◌, primitive_atom, channel_of, channel_value, integer_of, calculation_atom}
use Rattle.te_terms.specs.Expressions.{calculated_atoms, value_of, test_value}
use Rattle.te_terms.specs.Terms.{Term, always, never, fresh, throw, send, recv, and_then, choose, catch, when, name_to, bound}
use Rattle.te_terms.specs.Steps.{Member, come_to, giving, raising, given_by, raised_by, outcome_of, thrown, send_trap}
use Rattle.te_terms.specs.Steps.{recv_trap, decided, under_then, under_catch, goes_on, is_caught, quiet_step_of}
use Rattle.te_terms.specs.Steps.{quiet_step, head, with_head}
use Rattle.te_terms.specs.Joint.{Message, message, chosen_from, after_choice, sent_from, channel_at, received_on, sending, receiving}
use Rattle.te_forms.specs.Rings.{IsRing, IsOnRing}
use Rattle.te_forms.specs.Privacy.{AtomAvoids, ValueAvoids, VariableAvoids, PrimitiveAvoids, CalculationAvoids, ExpressionAvoids, TermAvoids}
use Rattle.te_terms.proofs.Lists.{all_at}

-- what came to a value came there through its first part
through : {A B : Type 0} (r : Result A Trap) (f : A → Result B Trap) (y : B) → (r >>= f) ≡ Ok y → (x : A) × (r ≡ Ok x) × (f x ≡ Ok y)
through (Ok x) f y e = (x, refl, e)
through (Err t) f y e = absurd cc

found : (o : Option Atom) (a : Atom) → ok_or o Kind ≡ Ok a → o ≡ Some a
found (Some x) a e = let is : x ≡ a = cc in ap Some is
found None a e = absurd cc

module _ (ring : List ℕ) where
  -- ---- values

  primitive_avoids : (p : Primitive) (a : Atom) → PrimitiveAvoids ring p → primitive_atom p ≡ Ok a → AtomAvoids ring a
  primitive_avoids (int z) a h e = let is : Int z ≡ a = cc in subst (AtomAvoids ring) is tt
  primitive_avoids (chan c) a h e = let is : Chan c ≡ a = cc in subst (AtomAvoids ring) is h
  primitive_avoids (part (known v) d) a h e = all_at (AtomAvoids ring) v d a h (found (slice_get v d) a e)
  primitive_avoids (part (register r) d) a h e = absurd cc
  primitive_avoids (part (name n) d) a h e = absurd cc

  integer_avoids : (fits : Bool) (z : ℤ) (a : Atom) → cond {A = Result Atom Trap} fits (Ok (Int z)) (Err Range) ≡ Ok a → AtomAvoids ring a
  integer_avoids true z a e = let is : Int z ≡ a = cc in subst (AtomAvoids ring) is tt
  integer_avoids false z a e = absurd cc

  calculation_avoids : (c : Calculation) (a : Atom) → CalculationAvoids ring c → calculation_atom c ≡ Ok a → AtomAvoids ring a
  calculation_avoids (one p) a h e = primitive_avoids p a h e
  calculation_avoids (both o p q) a h e =
      let first = through (primitive_atom p) _ a e in
      let second = through (primitive_atom q) _ a first.2 in
      let x = through (integer_of first.0) _ a second.2 in
      let y = through (integer_of second.0) _ a x.2 in
      integer_avoids (fits_i64 (arith_result o x.0 y.0)) (arith_result o x.0 y.0) a y.2

  calculated_avoid : (cs : List Calculation) (v : List Atom) → AllByRecursion (CalculationAvoids ring) cs → calculated_atoms cs ≡ Ok v → ValueAvoids ring v
  calculated_avoid [] v h e = let is : [] ≡ v = cc in subst (ValueAvoids ring) is tt
  calculated_avoid (c ∷ cs) v h e =
      let first = through (calculation_atom c) _ v e in
      let rest = through (calculated_atoms cs) _ v first.2 in
      let made = rest.2 in
      let is : first.0 ∷ rest.0 ≡ v = cc in
      subst (ValueAvoids ring) is (calculation_avoids c first.0 h.0 first.1, calculated_avoid cs rest.0 h.1 rest.1)

  expression_avoids : (e : Expression) (v : List Atom) → ExpressionAvoids ring e → value_of e ≡ Ok v → ValueAvoids ring v
  expression_avoids (whole (known w)) v h e = let is : w ≡ v = cc in subst (ValueAvoids ring) is h
  expression_avoids (whole (register r)) v h e = absurd cc
  expression_avoids (whole (name n)) v h e = absurd cc
  expression_avoids (tuple cs) v h e = calculated_avoid cs v h e

  channel_avoids : (p : Primitive) (c : ℕ) → PrimitiveAvoids ring p → channel_value p ≡ Ok c → ¬ IsOnRing ring c
  channel_avoids p c h e = let atom = through (primitive_atom p) channel_of c e in by_atom atom.0 (primitive_avoids p atom.0 h atom.1) atom.2
    where
      by_atom : (a : Atom) → AtomAvoids ring a → channel_of a ≡ Ok c → ¬ IsOnRing ring c
      by_atom (Int z) k is = absurd cc
      by_atom (Chan d) k is = let same : d ≡ c = cc in subst (λ (x : ℕ). ¬ IsOnRing ring x) same k

  trap_avoids : (t : Trap) → TermAvoids ring (raising (trap_value t))
  trap_avoids Range = (tt, tt)
  trap_avoids Kind = (tt, tt)

  -- ---- binding

  module _ (n : ℕ) (v : List Atom) (of_value : ValueAvoids ring v) where
    named : (same : Bool) (m : ℕ) → VariableAvoids ring (cond same (known v) (name m))
    named true m = of_value
    named false m = tt

    variable_bound : (x : Variable) → VariableAvoids ring x → VariableAvoids ring (name_to n v x)
    variable_bound (register r) h = tt
    variable_bound (name m) h = named (m == n) m
    variable_bound (known w) h = h

    primitive_bound : (p : Primitive) → PrimitiveAvoids ring p → PrimitiveAvoids ring (in_primitive (name_to n v) p)
    primitive_bound (int z) h = tt
    primitive_bound (chan c) h = h
    primitive_bound (part x d) h = variable_bound x h

    calculation_bound : (c : Calculation) → CalculationAvoids ring c → CalculationAvoids ring (in_calculation (name_to n v) c)
    calculation_bound (one p) h = primitive_bound p h
    calculation_bound (both o p q) h = (primitive_bound p h.0, primitive_bound q h.1)

    calculations_bound : (cs : List Calculation) → AllByRecursion (CalculationAvoids ring) cs → AllByRecursion (CalculationAvoids ring) (map (in_calculation (name_to n v)) cs)
    calculations_bound [] h = tt
    calculations_bound (c ∷ cs) h = (calculation_bound c h.0, calculations_bound cs h.1)

    expression_bound : (e : Expression) → ExpressionAvoids ring e → ExpressionAvoids ring (in_expression (name_to n v) e)
    expression_bound (whole x) h = variable_bound x h
    expression_bound (tuple cs) h = calculations_bound cs h

    pub term_bound : (t : Term) → TermAvoids ring t → TermAvoids ring (bound n v t)
    term_bound (always e) h = expression_bound e h
    term_bound never h = tt
    term_bound fresh h = tt
    term_bound (throw e) h = expression_bound e h
    term_bound (send p e) h = (primitive_bound p h.0, expression_bound e h.1)
    term_bound (recv p) h = primitive_bound p h
    term_bound (and_then e m f) h = (term_bound e h.0, term_bound f h.1)
    term_bound (choose e f) h = (term_bound e h.0, term_bound f h.1)
    term_bound (catch e m f) h = (term_bound e h.0, term_bound f h.1)
    term_bound (when test p q e f) h = (primitive_bound p h.0, primitive_bound q h.1, term_bound e h.2, term_bound f h.3)

  -- ---- endings

  gives_value : (r : Result (List Atom) Trap) (v : List Atom) → given_by r ≡ Some (Gives v) → r ≡ Ok v
  gives_value (Ok w) v e = let is : w ≡ v = cc in ap Ok is
  gives_value (Err t) v e = absurd cc

  raises_value : (r : Result (List Atom) Trap) (v : List Atom) → raised_by r ≡ Some (Raises v) → r ≡ Ok v
  raises_value (Ok w) v e = let is : w ≡ v = cc in ap Ok is
  raises_value (Err t) v e = absurd cc

  never_raises : (r : Result (List Atom) Trap) (v : List Atom) → given_by r ≡ Some (Raises v) → ⊥
  never_raises (Ok w) v e = cc
  never_raises (Err t) v e = cc

  never_gives : (r : Result (List Atom) Trap) (v : List Atom) → raised_by r ≡ Some (Gives v) → ⊥
  never_gives (Ok w) v e = cc
  never_gives (Err t) v e = cc

  given_avoids : (t : Term) (v : List Atom) → TermAvoids ring t → outcome_of t ≡ Some (Gives v) → ValueAvoids ring v
  given_avoids (always e) v h is = expression_avoids e v h (gives_value (value_of e) v is)
  given_avoids (throw e) v h is = absurd (never_gives (value_of e) v is)
  given_avoids _ v h is = absurd cc

  raised_avoids : (t : Term) (v : List Atom) → TermAvoids ring t → outcome_of t ≡ Some (Raises v) → ValueAvoids ring v
  raised_avoids (always e) v h is = absurd (never_raises (value_of e) v is)
  raised_avoids (throw e) v h is = expression_avoids e v h (raises_value (value_of e) v is)
  raised_avoids _ v h is = absurd cc

  -- ---- heads

  pub head_avoids : (t : Term) → TermAvoids ring t → TermAvoids ring (head t)
  head_avoids (and_then e n f) h = head_avoids e h.0
  head_avoids (catch e n f) h = head_avoids e h.0
  head_avoids (always e) h = h
  head_avoids never h = h
  head_avoids fresh h = h
  head_avoids (throw e) h = h
  head_avoids (send p e) h = h
  head_avoids (recv p) h = h
  head_avoids (choose e f) h = h
  head_avoids (when test p q e f) h = h

  pub replaced_avoids : (u t : Term) → TermAvoids ring u → TermAvoids ring t → TermAvoids ring (with_head u t)
  replaced_avoids u (and_then e n f) k h = (replaced_avoids u e k h.0, h.1)
  replaced_avoids u (catch e n f) k h = (replaced_avoids u e k h.0, h.1)
  replaced_avoids u _ k h = k

  message_avoids : (c : Result ℕ Trap) (v : Result (List Atom) Trap) (m : Message) → message c v ≡ Some m → (c ≡ Ok m.channel) × (v ≡ Ok m.value)
  message_avoids (Ok c) (Ok v) m e = let is : record { channel = c; value = v } ≡ m = cc in (ap (λ (x : Message). Ok x.channel) is, ap (λ (x : Message). Ok x.value) is)
  message_avoids _ _ m e = absurd cc

  sent_avoids : (t : Term) (m : Message) → TermAvoids ring t → sent_from t ≡ Some m → (¬ IsOnRing ring m.channel) × ValueAvoids ring m.value
  sent_avoids (send p e) m h is =
      let both = message_avoids (channel_value p) (value_of e) m is in (channel_avoids p m.channel h.0 both.0, expression_avoids e m.value h.1 both.1)
  sent_avoids _ m h is = absurd cc

  pub sending_avoids : (t : Term) (m : Message) → TermAvoids ring t → sending t ≡ Some m → (¬ IsOnRing ring m.channel) × ValueAvoids ring m.value
  sending_avoids t m h is = sent_avoids (head t) m (head_avoids t h) is

  on_channel : (r : Result ℕ Trap) (c : ℕ) → channel_at r ≡ Some c → r ≡ Ok c
  on_channel (Ok d) c e = let is : d ≡ c = cc in ap Ok is
  on_channel (Err t) c e = absurd cc

  received_avoids : (t : Term) (c : ℕ) → TermAvoids ring t → received_on t ≡ Some c → ¬ IsOnRing ring c
  received_avoids (recv p) c h is = channel_avoids p c h (on_channel (channel_value p) c is)
  received_avoids _ c h is = absurd cc

  pub receiving_avoids : (t : Term) (c : ℕ) → TermAvoids ring t → receiving t ≡ Some c → ¬ IsOnRing ring c
  receiving_avoids t c h is = received_avoids (head t) c (head_avoids t h) is

  -- ---- choices

  chosen_avoids : (left : Bool) (t u : Term) → TermAvoids ring t → chosen_from left t ≡ Some u → TermAvoids ring u
  chosen_avoids true (choose e f) u h is = let same : e ≡ u = cc in subst (TermAvoids ring) same h.0
  chosen_avoids false (choose e f) u h is = let same : f ≡ u = cc in subst (TermAvoids ring) same h.1
  chosen_avoids left _ u h is = absurd cc

  pub choice_avoids : (left : Bool) (t u : Term) → TermAvoids ring t → after_choice left t ≡ Some u → TermAvoids ring u
  choice_avoids left t u h is = by_choice (chosen_from left (head t)) refl is
    where
      by_choice : (o : Option Term) → chosen_from left (head t) ≡ o → option_map (λ x. with_head x t) o ≡ Some u → TermAvoids ring u
      by_choice None so e = absurd cc
      by_choice (Some x) so e =
          let same : with_head x t ≡ u = cc in
          subst (TermAvoids ring) same (replaced_avoids x t (chosen_avoids left (head t) x (head_avoids t h) so) h)

  -- ---- quiet steps

  module _ (is_ring : IsRing ring) (thread ticket count : ℕ) where
    far : (x y : ℕ) → (2 ^ 30 + x + y) < 256 → ⊥
    far x y lt = omega arith

    fresh_avoids : ¬ IsOnRing ring (fresh_channel thread ticket count)
    fresh_avoids h = far _ count (is_ring.low h.0 _ h.1)

    come : (t : Term) (n : Member) → TermAvoids ring t → Some (come_to thread ticket count t) ≡ Some n → TermAvoids ring n.term
    come t n h e = let is : come_to thread ticket count t ≡ n = cc in subst (λ (x : Member). TermAvoids ring x.term) is h

    thrown_avoids : {A : Type 0} (r : Result A Trap) (n : Member) → option_map (come_to thread ticket count) (thrown r) ≡ Some n → TermAvoids ring n.term
    thrown_avoids (Ok x) n e = absurd cc
    thrown_avoids (Err t) n e = come (raising (trap_value t)) n (trap_avoids t) e

    send_avoids : (c : Result ℕ Trap) (v : Result (List Atom) Trap) (n : Member) → option_map (come_to thread ticket count) (send_trap c v) ≡ Some n → TermAvoids ring n.term
    send_avoids (Err t) v n e = come (raising (trap_value Kind)) n (tt, tt) e
    send_avoids (Ok c) v n e = thrown_avoids v n e

    recv_avoids : (c : Result ℕ Trap) (n : Member) → option_map (come_to thread ticket count) (recv_trap c) ≡ Some n → TermAvoids ring n.term
    recv_avoids (Err t) n e = come (raising (trap_value Kind)) n (tt, tt) e
    recv_avoids (Ok c) n e = absurd cc

    decided_avoids : (r : Result Bool Trap) (e f : Term) → TermAvoids ring e → TermAvoids ring f → TermAvoids ring (decided r e f)
    decided_avoids (Ok true) e f h k = h
    decided_avoids (Ok false) e f h k = k
    decided_avoids (Err t) e f h k = trap_avoids t

    goes_avoids : (e f : Term) (m : ℕ) (o : Option Outcome) (step : Option Member) (n : Member) → TermAvoids ring e → TermAvoids ring f → outcome_of e ≡ o
        → ((k : Member) → step ≡ Some k → TermAvoids ring k.term) → goes_on (come_to thread ticket count) o step m f ≡ Some n → TermAvoids ring n.term
    goes_avoids e f m (Some (Gives v)) step n h k ends ih is = come (bound m v f) n (term_bound m v (given_avoids e v h ends) f k) is
    goes_avoids e f m (Some (Raises v)) step n h k ends ih is = come (raising v) n (raised_avoids e v h ends) is
    goes_avoids e f m None (Some x) n h k ends ih is =
        let same : under_then m f x ≡ n = cc in subst (λ (y : Member). TermAvoids ring y.term) same (ih x refl, k)
    goes_avoids e f m None None n h k ends ih is = absurd cc

    caught_avoids : (e f : Term) (m : ℕ) (o : Option Outcome) (step : Option Member) (n : Member) → TermAvoids ring e → TermAvoids ring f → outcome_of e ≡ o
        → ((k : Member) → step ≡ Some k → TermAvoids ring k.term) → is_caught (come_to thread ticket count) o step m f ≡ Some n → TermAvoids ring n.term
    caught_avoids e f m (Some (Gives v)) step n h k ends ih is = come (giving v) n (given_avoids e v h ends) is
    caught_avoids e f m (Some (Raises v)) step n h k ends ih is = come (bound m v f) n (term_bound m v (raised_avoids e v h ends) f k) is
    caught_avoids e f m None (Some x) n h k ends ih is =
        let same : under_catch m f x ≡ n = cc in subst (λ (y : Member). TermAvoids ring y.term) same (ih x refl, k)
    caught_avoids e f m None None n h k ends ih is = absurd cc

    step_avoids : (t : Term) (n : Member) → TermAvoids ring t → quiet_step_of thread ticket count t ≡ Some n → TermAvoids ring n.term
    step_avoids (always e) n h is = thrown_avoids (value_of e) n is
    step_avoids never n h is = absurd cc
    step_avoids fresh n h is =
        let same : come_to thread ticket (suc count) (giving (Chan (fresh_channel thread ticket count) ∷ [])) ≡ n = cc in
        subst (λ (y : Member). TermAvoids ring y.term) same (fresh_avoids, tt)
    step_avoids (throw e) n h is = thrown_avoids (value_of e) n is
    step_avoids (send p e) n h is = send_avoids (channel_value p) (value_of e) n is
    step_avoids (recv p) n h is = recv_avoids (channel_value p) n is
    step_avoids (and_then e m f) n h is =
        goes_avoids e f m (outcome_of e) (quiet_step_of thread ticket count e) n h.0 h.1 refl (λ k so. step_avoids e k h.0 so) is
    step_avoids (choose e f) n h is = absurd cc
    step_avoids (catch e m f) n h is =
        caught_avoids e f m (outcome_of e) (quiet_step_of thread ticket count e) n h.0 h.1 refl (λ k so. step_avoids e k h.0 so) is
    step_avoids (when test p q e f) n h is = come (decided (test_value test p q) e f) n (decided_avoids (test_value test p q) e f h.2 h.3) is

  pub quiet_avoids : IsRing ring → (m n : Member) → TermAvoids ring m.term → quiet_step m ≡ Some n → TermAvoids ring n.term
  quiet_avoids is_ring m n h is = step_avoids is_ring m.thread m.ticket m.count m.term n h is
