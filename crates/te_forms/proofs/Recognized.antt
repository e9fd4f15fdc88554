-- A form is read of exactly the terms that are a form's: of each one, and it is this form.
use Rattle.std.proofs.Common.{◌≡◌, ℕ, zero, suc, ◌<◌, ◌==◌, ◌&&◌, Bool, true, false, cond, List, [], ◌∷◌, length, Option, Some, None, refl, sym, ap, subst, ◌∙◌, arith, eqb-true, eq-eqb}
use Rattle.std.specs.Prelude.{slice_get, slice_index}
use Rattle.std.specs.Option.{option_map}
use Rattle.std.proofs.lemmas.Option.{slice_get_within}
use Rattle.te_terms.specs.declared.value.Atom.{Atom}
use Rattle.te_terms.specs.Expressions.{register, name, known, Primitive, chan, Expression, whole, tuple}
use Rattle.te_terms.specs.Terms.{Term, always, send, recv, and_then}
use Rattle.te_terms.specs.Steps.{giving}
use Rattle.te_forms.specs.declared.form.Form.{Form}
use Rattle.te_forms.specs.declared.form.Form.TheVariants.{Swap, Barrier}
use Rattle.te_forms.specs.declared.reading.Sent.{Sent}
use Rattle.te_forms.specs.Rings.{IsRing, IsOnRing}
use Rattle.te_forms.specs.Forms.{form_term, role_of, IsForm}
use Rattle.te_forms.specs.Privacy.{TermAvoids}
use Rattle.te_forms.specs.Reading.{parts_at, channel_named, constant, sent_so, sent_by, received_by, gives_name}
use Rattle.te_forms.specs.Reading.{is_unit, gives_unit, form_if, is_on, role_on, last_channel, waits_first}
use Rattle.te_forms.specs.Reading.{form_after_sending, sends_first, by_end, by_role, by_sent, receives_first, by_first}
use Rattle.te_forms.specs.Reading.{by_parts, form_in}
use Rattle.te_forms.proofs.Moves.{in_ring}
use Rattle.te_terms.proofs.Lists.{both_true}

-- ---- parts of terms

when_true : {A : Type 0} (b : Bool) (o : Option A) (x : A) → cond {A = Option A} b o None ≡ Some x → (b ≡ true) × (o ≡ Some x)
when_true true o x e = (refl, e)
when_true false o x e = absurd cc

pub empty : (v : List Atom) → (length v == 0) ≡ true → v ≡ []
empty [] e = refl
empty (a ∷ v) e = let none : length (a ∷ v) ≡ 0 = eqb-true (length (a ∷ v)) 0 e in absurd (omega (arith, none))

parts_are : (level : ℕ) (t : Term) (p : Term × Term) → parts_at level t ≡ Some p → t ≡ and_then p.0 level p.1
parts_are level (and_then e n f) p is =
    let both = when_true (n == level) (Some (e, f)) p is in
    let level_is = eqb-true n level both.0 in
    let pair : (e, f) ≡ p = let so = both.1 in cc in
    λ i. and_then (pair i).0 (level_is i) (pair i).1
parts_are level _ p is = absurd cc

channel_is : (p : Primitive) (c : ℕ) → channel_named p ≡ Some c → p ≡ chan c
channel_is (chan d) c e = let same : d ≡ c = cc in ap chan same
channel_is _ c e = absurd cc

constant_is : (e : Expression) (v : List Atom) → constant e ≡ Some v → e ≡ whole (known v)
constant_is (whole (known w)) v e = let same : w ≡ v = cc in ap (λ (u : List Atom). whole (known u)) same
constant_is (whole (register r)) v e = absurd cc
constant_is (whole (name n)) v e = absurd cc
constant_is (tuple cs) v e = absurd cc

-- what sends this
abbrev pub sending_term : Sent → Term
sending_term s = send (chan s.channel) (whole (known s.value))

sent_is : (t : Term) (s : Sent) → sent_by t ≡ Some s → t ≡ sending_term s
sent_is (send p e) s is = by_both (channel_named p) (constant e) refl refl is
  where
    by_both : (c : Option ℕ) (v : Option (List Atom)) → channel_named p ≡ c → constant e ≡ v → sent_so c v ≡ Some s → send p e ≡ sending_term s
    by_both (Some c) (Some v) c_is v_is so =
        let same : record { channel = c; value = v } ≡ s = cc in
        (λ i. send (channel_is p c c_is i) (constant_is e v v_is i)) ∙ ap sending_term same
    by_both (Some c) None c_is v_is so = absurd cc
    by_both None v c_is v_is so = absurd cc
sent_is _ s is = absurd cc

received_is : (t : Term) (c : ℕ) → received_by t ≡ Some c → t ≡ recv (chan c)
received_is (recv p) c is = ap recv (channel_is p c is)
received_is _ c is = absurd cc

name_is : (t : Term) → gives_name t ≡ true → t ≡ always (whole (name 0))
name_is (always (whole (name n))) e = ap (λ (m : ℕ). always (whole (name m))) (eqb-true n 0 e)
name_is (always (whole (register r))) e = absurd cc
name_is (always (whole (known v))) e = absurd cc
name_is (always (tuple cs)) e = absurd cc
name_is _ e = absurd cc

unit_is : (t : Term) → gives_unit t ≡ true → t ≡ giving []
unit_is (always e) is = by_constant (constant e) refl is
  where
    by_constant : (v : Option (List Atom)) → constant e ≡ v → is_unit v ≡ true → always e ≡ giving []
    by_constant (Some v) so unit = ap always (constant_is e v so) ∙ ap giving (empty v unit)
    by_constant None so unit = absurd cc
unit_is _ is = absurd cc

-- ---- roles by their channels

found_later : (d c : ℕ) (ds : List ℕ) (o : Option ℕ) (i : ℕ) → ((j : ℕ) → o ≡ Some j → slice_get ds j ≡ Some c) → option_map suc o ≡ Some i
    → slice_get (d ∷ ds) i ≡ Some c
found_later d c ds (Some j) i rest e = let same : suc j ≡ i = cc in subst (λ (k : ℕ). slice_get (d ∷ ds) k ≡ Some c) same (rest j refl)
found_later d c ds None i rest e = absurd cc

found_by : (d c : ℕ) (ds : List ℕ) (i : ℕ) (b : Bool) → (d == c) ≡ b → ((j : ℕ) → role_on ds c ≡ Some j → slice_get ds j ≡ Some c)
    → cond {A = Option ℕ} b (Some 0) (option_map suc (role_on ds c)) ≡ Some i → slice_get (d ∷ ds) i ≡ Some c
found_by d c ds i true same rest e =
    let first : 0 ≡ i = cc in subst (λ (k : ℕ). slice_get (d ∷ ds) k ≡ Some c) first (ap Some (eqb-true d c same))
found_by d c ds i false apart rest e = found_later d c ds (role_on ds c) i rest e

pub role_found : (ring : List ℕ) (c i : ℕ) → role_on ring c ≡ Some i → slice_get ring i ≡ Some c
role_found [] c i e = absurd cc
role_found (d ∷ ds) c i e = found_by d c ds i (d == c) refl (λ j. role_found ds c j) e

missed_by : (b : Bool) (o : Option ℕ) → cond {A = Option ℕ} b (Some 0) (option_map suc o) ≡ None → (b ≡ false) × (o ≡ None)
missed_by true o e = absurd cc
missed_by false (Some j) e = absurd cc
missed_by false None e = (refl, refl)

pub no_role : (ring : List ℕ) (c : ℕ) → role_on ring c ≡ None → (i : ℕ) → slice_get ring i ≡ Some c → ⊥
no_role [] c e i at = cc
no_role (d ∷ ds) c e zero at =
    let missed = (missed_by (d == c) (role_on ds c) e).0 in
    let same : d ≡ c = cc in
    let test = eq-eqb d c same in
    let both : true ≡ false = sym test ∙ missed in
    cc
no_role (d ∷ ds) c e (suc i) at = no_role ds c (missed_by (d == c) (role_on ds c) e).1 i at

-- in a ring a channel is that of one role
pub role_is : (ring : List ℕ) → IsRing ring → (c i : ℕ) → slice_get ring i ≡ Some c → role_on ring c ≡ Some i
role_is ring is c i at = by_role_on (role_on ring c) refl
  where
    by_role_on : (o : Option ℕ) → role_on ring c ≡ o → o ≡ Some i
    by_role_on (Some j) e = ap Some (is.different j i c (role_found ring c j e) at)
    by_role_on None e = absurd (no_role ring c e i at)

-- ---- each form is read

self : (x : ℕ) → (x == x) ≡ true
self x = eq-eqb x x refl

module _ (ring : List ℕ) (is_ring : IsRing ring) where
  pub reads : (f : Form) → role_of f < length ring → form_in ring (form_term ring f) ≡ Some f
  reads (Swap zero v) within =
      ap (λ (b : Bool). cond {A = Option Form} b (form_if (last_channel ring == last_channel ring) (Swap 0 v)) None) (self (slice_index ring 0))
      ∙ ap (λ (b : Bool). form_if b (Swap 0 v)) (self (last_channel ring))
  reads (Barrier zero) within =
      ap (λ (b : Bool). cond {A = Option Form} b (form_if ((last_channel ring == last_channel ring) && true) (Barrier 0)) None) (self (slice_index ring 0))
      ∙ ap (λ (b : Bool). form_if (b && true) (Barrier 0)) (self (last_channel ring))
  reads (Swap (suc i) v) within =
      ap (by_role ring (slice_index ring i) v (always (whole (name 0)))) (role_is ring is_ring (slice_index ring (suc i)) (suc i) (in_ring ring (suc i) within))
      ∙ ap (λ (b : Bool). cond {A = Option Form} b (Some (Swap (suc i) v)) None) (self (slice_index ring i))
  reads (Barrier (suc i)) within =
      ap (by_role ring (slice_index ring i) [] (giving [])) (role_is ring is_ring (slice_index ring (suc i)) (suc i) (in_ring ring (suc i) within))
      ∙ ap (λ (b : Bool). cond {A = Option Form} b (Some (Barrier (suc i))) None) (self (slice_index ring i))

  pub is_read : (f : Form) (t : Term) → IsForm ring f t → form_in ring t ≡ Some f
  is_read f t is = ap (form_in ring) is.term_is ∙ reads f is.within

  pub one_form : (f g : Form) (t : Term) → IsForm ring f t → IsForm ring g t → f ≡ g
  one_form f g t is also = let both : Some f ≡ Some g = sym (is_read f t is) ∙ is_read g t also in cc

  -- ---- what is read is the form

  some_role : 0 < length ring
  some_role = omega (arith, is_ring.some)

  if_form : (b : Bool) (f g : Form) → form_if b f ≡ Some g → (b ≡ true) × (f ≡ g)
  if_form true f g e = (refl, cc)
  if_form false f g e = absurd cc

  on_is : (o : Option ℕ) (c : ℕ) → is_on o c ≡ true → o ≡ Some c
  on_is (Some d) c e = ap Some (eqb-true d c e)
  on_is None c e = absurd cc

  as_form : (f g : Form) (t : Term) → IsForm ring f t → f ≡ g → IsForm ring g t
  as_form f g t is same = subst (λ (x : Form). IsForm ring x t) same is

  swap_first : (s : Sent) (rest : Term) → s.channel ≡ slice_index ring 0 → rest ≡ recv (chan (last_channel ring)) → IsForm ring (Swap 0 s.value) (and_then (sending_term s) 0 rest)
  swap_first s rest channel rest_is = record {
    within = some_role;
    term_is = λ i. and_then (send (chan (channel i)) (whole (known s.value))) 0 (rest_is i);
  }

  barrier_first : (s : Sent) (rest : Term) → s.channel ≡ slice_index ring 0 → s.value ≡ [] → rest ≡ and_then (recv (chan (last_channel ring))) 1 (giving [])
      → IsForm ring (Barrier 0) (and_then (sending_term s) 0 rest)
  barrier_first s rest channel nothing rest_is = record {
    within = some_role;
    term_is = λ i. and_then (send (chan (channel i)) (whole (known (nothing i)))) 0 (rest_is i);
  }

  waits_so : (s : Sent) (rest : Term) (p : Option (Term × Term)) (g : Form) → s.channel ≡ slice_index ring 0 → parts_at 1 rest ≡ p → waits_first ring s p ≡ Some g
      → IsForm ring g (and_then (sending_term s) 0 rest)
  waits_so s rest (Some p) g channel parts e =
      let read = if_form (is_on (received_by p.0) (last_channel ring) && ((length s.value == 0) && gives_unit p.1)) (Barrier 0) g e in
      let tests = both_true (is_on (received_by p.0) (last_channel ring)) ((length s.value == 0) && gives_unit p.1) read.0 in
      let ends = both_true (length s.value == 0) (gives_unit p.1) tests.1 in
      let received = received_is p.0 (last_channel ring) (on_is (received_by p.0) (last_channel ring) tests.0) in
      let unit = unit_is p.1 ends.1 in
      let rest_is : rest ≡ and_then (recv (chan (last_channel ring))) 1 (giving []) = parts_are 1 rest p parts ∙ (λ i. and_then (received i) 1 (unit i)) in
      as_form (Barrier 0) g (and_then (sending_term s) 0 rest) (barrier_first s rest channel (empty s.value ends.0) rest_is) read.1
  waits_so s rest None g channel parts e = absurd cc

  sends_so : (s : Sent) (rest : Term) (c : Option ℕ) (g : Form) → s.channel ≡ slice_index ring 0 → received_by rest ≡ c → form_after_sending ring s c (parts_at 1 rest) ≡ Some g
      → IsForm ring g (and_then (sending_term s) 0 rest)
  sends_so s rest (Some c) g channel received e =
      let read = if_form (c == last_channel ring) (Swap 0 s.value) g e in
      let rest_is : rest ≡ recv (chan (last_channel ring)) = received_is rest c received ∙ ap (λ (d : ℕ). recv (chan d)) (eqb-true c (last_channel ring) read.0) in
      as_form (Swap 0 s.value) g (and_then (sending_term s) 0 rest) (swap_first s rest channel rest_is) read.1
  sends_so s rest None g channel received e = waits_so s rest (parts_at 1 rest) g channel refl e

  first_so : (s : Sent) (rest : Term) (g : Form) → sends_first ring rest s ≡ Some g → IsForm ring g (and_then (sending_term s) 0 rest)
  first_so s rest g e =
      let read = when_true (s.channel == slice_index ring 0) (form_after_sending ring s (received_by rest) (parts_at 1 rest)) g e in
      sends_so s rest (received_by rest) g (eqb-true s.channel (slice_index ring 0) read.0) refl read.1

  -- ---- another role

  -- the second part of another role's term
  abbrev second : ℕ → List Atom → Term → Term
  second c v end = and_then (send (chan c) (whole (known v))) 1 end

  role_so : (c i : ℕ) (v : List Atom) (end : Term) (d : ℕ) (g : Form) → slice_get ring (suc i) ≡ Some d → slice_index ring i ≡ c → by_end (suc i) v end ≡ Some g
      → IsForm ring g (and_then (recv (chan c)) 0 (second d v end))
  role_so c i v end d g at before e = by_name (gives_name end) refl e
    where
      own : d ≡ slice_index ring (suc i)
      own = let both : Some d ≡ Some (slice_index ring (suc i)) = sym at ∙ in_ring ring (suc i) (slice_get_within ring (suc i) d at) in cc

      by_name : (b : Bool) → gives_name end ≡ b → cond {A = Option Form} b (Some (Swap (suc i) v)) (form_if ((length v == 0) && gives_unit end) (Barrier (suc i))) ≡ Some g
          → IsForm ring g (and_then (recv (chan c)) 0 (second d v end))
      by_name true named so =
          let same : Swap (suc i) v ≡ g = cc in
          let end_is = name_is end named in
          as_form (Swap (suc i) v) g (and_then (recv (chan c)) 0 (second d v end)) (record {
            within = slice_get_within ring (suc i) d at;
            term_is = λ j. and_then (recv (chan (sym before j))) 0 (second (own j) v (end_is j));
          }) same
      by_name false named so =
          let read = if_form ((length v == 0) && gives_unit end) (Barrier (suc i)) g so in
          let tests = both_true (length v == 0) (gives_unit end) read.0 in
          let nothing = empty v tests.0 in
          let end_is = unit_is end tests.1 in
          as_form (Barrier (suc i)) g (and_then (recv (chan c)) 0 (second d v end)) (record {
            within = slice_get_within ring (suc i) d at;
            term_is = λ j. and_then (recv (chan (sym before j))) 0 (second (own j) (nothing j) (end_is j));
          }) read.1

  by_role_so : (c : ℕ) (v : List Atom) (end : Term) (d : ℕ) (o : Option ℕ) (g : Form) → role_on ring d ≡ o → by_role ring c v end o ≡ Some g
      → IsForm ring g (and_then (recv (chan c)) 0 (second d v end))
  by_role_so c v end d (Some (suc i)) g role e =
      let read = when_true (slice_index ring i == c) (by_end (suc i) v end) g e in
      role_so c i v end d g (role_found ring d (suc i) role) (eqb-true (slice_index ring i) c read.0) read.1
  by_role_so c v end d (Some zero) g role e = absurd cc
  by_role_so c v end d None g role e = absurd cc

  by_sent_so : (c : ℕ) (t end : Term) (s : Option Sent) (g : Form) → sent_by t ≡ s → by_sent ring c end s ≡ Some g → IsForm ring g (and_then (recv (chan c)) 0 (and_then t 1 end))
  by_sent_so c t end (Some s) g sent e =
      subst (λ (x : Term). IsForm ring g (and_then (recv (chan c)) 0 (and_then x 1 end))) (sym (sent_is t s sent))
      (by_role_so c s.value end s.channel (role_on ring s.channel) g refl e)
  by_sent_so c t end None g sent e = absurd cc

  later_so : (c : ℕ) (rest : Term) (p : Option (Term × Term)) (g : Form) → parts_at 1 rest ≡ p → receives_first ring c p ≡ Some g → IsForm ring g (and_then (recv (chan c)) 0 rest)
  later_so c rest (Some p) g parts e =
      subst (λ (x : Term). IsForm ring g (and_then (recv (chan c)) 0 x)) (sym (parts_are 1 rest p parts)) (by_sent_so c p.0 p.1 (sent_by p.0) g refl e)
  later_so c rest None g parts e = absurd cc

  first_part_so : (t rest : Term) (s : Option Sent) (c : Option ℕ) (g : Form) → sent_by t ≡ s → received_by t ≡ c → by_first ring rest s c ≡ Some g
      → IsForm ring g (and_then t 0 rest)
  first_part_so t rest (Some s) c g sent received e =
      subst (λ (x : Term). IsForm ring g (and_then x 0 rest)) (sym (sent_is t s sent)) (first_so s rest g e)
  first_part_so t rest None (Some c) g sent received e =
      subst (λ (x : Term). IsForm ring g (and_then x 0 rest)) (sym (received_is t c received)) (later_so c rest (parts_at 1 rest) g refl e)
  first_part_so t rest None None g sent received e = absurd cc

  parts_so : (t : Term) (p : Option (Term × Term)) (g : Form) → parts_at 0 t ≡ p → by_parts ring p ≡ Some g → IsForm ring g t
  parts_so t (Some p) g parts e =
      subst (IsForm ring g) (sym (parts_are 0 t p parts)) (first_part_so p.0 p.1 (sent_by p.0) (received_by p.0) g refl refl e)
  parts_so t None g parts e = absurd cc

  pub read_is : (t : Term) (g : Form) → form_in ring t ≡ Some g → IsForm ring g t
  read_is t g e = parts_so t (parts_at 0 t) g refl e

  -- ---- forms name the channels of the ring

  not_apart : (i c : ℕ) → slice_get ring i ≡ Some c → ¬ IsOnRing ring c → ⊥
  not_apart i c at apart = apart (i, at)

  term_names : (f : Form) → role_of f < length ring → TermAvoids ring (form_term ring f) → ⊥
  term_names (Swap zero v) lt h = not_apart 0 (slice_index ring 0) (in_ring ring 0 lt) h.0.0
  term_names (Barrier zero) lt h = not_apart 0 (slice_index ring 0) (in_ring ring 0 lt) h.0.0
  term_names (Swap (suc i) v) lt h = not_apart (suc i) (slice_index ring (suc i)) (in_ring ring (suc i) lt) h.1.0.0
  term_names (Barrier (suc i)) lt h = not_apart (suc i) (slice_index ring (suc i)) (in_ring ring (suc i) lt) h.1.0.0

  pub form_names : (f : Form) (t : Term) → IsForm ring f t → TermAvoids ring t → ⊥
  form_names f t is h = term_names f is.within (subst (TermAvoids ring) is.term_is h)
