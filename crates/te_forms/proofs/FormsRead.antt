-- What is read of a form's parts, one after another.
use Rattle.std.proofs.Common.{◌≡◌, ◌≢◌, ℕ, zero, suc, ◌-◌, ◌==◌, ◌&&◌, Bool, true, false, cond, List, length, Option, Some, None, refl, sym, ap, ◌∙◌, arith, eq-eqb, ne_eqb}
use Rattle.std.specs.Prelude.{slice_get, slice_index}
use Rattle.te_terms.specs.declared.value.Atom.{Atom}
use Rattle.te_terms.specs.declared.code.Node.{Node}
use Rattle.te_terms.specs.declared.code.Node.TheVariants as nodes
use Rattle.te_terms.specs.Terms.{Term}
use Rattle.te_terms.specs.Shape.{IsForest}
use Rattle.te_forms.specs.declared.form.Form.{Form}
use Rattle.te_forms.specs.declared.form.Form.TheVariants.{Swap, Barrier}
use Rattle.te_forms.specs.declared.reading.Sent.{Sent}
use Rattle.te_forms.specs.Reading.{replaced_under, both_under, parts_at, sent_by, received_by, gives_name, gives_unit}
use Rattle.te_forms.specs.Reading.{form_if, is_on, role_on, last_channel, waits_first, form_after_sending, sends_first}
use Rattle.te_forms.specs.Reading.{by_end, by_role, by_sent, receives_first, by_first, by_parts, form_in}
use Rattle.te_forms.proofs.NodesRead.{under_node}

-- the children of a `then` are its parts
pub then_parts : (code : List Node) (i a b : ℕ) → IsForest code → Some (nodes.Then a b) ≡ slice_get code i → (regs : List (List Atom)) (level : ℕ)
    → parts_at level (replaced_under code regs level i) ≡ Some (both_under code regs level (a, b))
then_parts code i a b forest at regs level =
    ap (parts_at level) (under_node code regs i (Some (nodes.Then a b)) forest at level)
    ∙ ap (λ (test : Bool). cond {A = Option (Term × Term)} test (Some (both_under code regs level (a, b))) None) (eq-eqb level level refl)

-- ---- role 0

module _ (ring : List ℕ) (s : Sent) (t : Term) where
  abbrev waiting : Option Form
  waiting = waits_first ring s (parts_at 1 t)

  pub waits_whole : parts_at 1 t ≡ None → waiting ≡ None
  waits_whole none = ap (waits_first ring s) none

  module _ (p : Term × Term) (parts : parts_at 1 t ≡ Some p) where
    by_source : (o : Option ℕ) → received_by p.0 ≡ o → waiting ≡ form_if (is_on o (last_channel ring) && ((length s.value == 0) && gives_unit p.1)) (Barrier 0)
    by_source o received =
        ap (waits_first ring s) parts
        ∙ ap (λ (x : Option ℕ). form_if (is_on x (last_channel ring) && ((length s.value == 0) && gives_unit p.1)) (Barrier 0)) received

    pub waits_not : received_by p.0 ≡ None → waiting ≡ None
    waits_not received = by_source None received

    pub waits_elsewhere : (c last : ℕ) → received_by p.0 ≡ Some c → last ≡ last_channel ring → c ≢ last → waiting ≡ None
    waits_elsewhere c last received is other =
        by_source (Some c) received
        ∙ ap (λ (test : Bool). form_if (test && ((length s.value == 0) && gives_unit p.1)) (Barrier 0)) (ne_eqb c (last_channel ring) (λ same. other (same ∙ sym is)))

    pub waits_there : (c last : ℕ) (ends : Bool) (o : Option Form) → received_by p.0 ≡ Some c → last ≡ last_channel ring → c ≡ last
        → ((length s.value == 0) && gives_unit p.1) ≡ ends → form_if ends (Barrier 0) ≡ o → waiting ≡ o
    waits_there c last ends o received is same end so =
        by_source (Some c) received
        ∙ ap (λ (test : Bool). form_if (test && ((length s.value == 0) && gives_unit p.1)) (Barrier 0)) (eq-eqb c (last_channel ring) (same ∙ is))
        ∙ ap (λ (test : Bool). form_if test (Barrier 0)) end ∙ so

  abbrev sending : Option Form
  sending = sends_first ring t s

  pub sends_elsewhere : (first : ℕ) → first ≡ slice_index ring 0 → s.channel ≢ first → sending ≡ None
  sends_elsewhere first is other =
      ap (λ (test : Bool). cond {A = Option Form} test (form_after_sending ring s (received_by t) (parts_at 1 t)) None) (ne_eqb s.channel (slice_index ring 0) (λ same. other (same ∙ sym is)))

  module _ (first : ℕ) (is : first ≡ slice_index ring 0) (same : s.channel ≡ first) where
    by_second : (o : Option ℕ) → received_by t ≡ o → sending ≡ form_after_sending ring s o (parts_at 1 t)
    by_second o received =
        ap (λ (test : Bool). cond {A = Option Form} test (form_after_sending ring s (received_by t) (parts_at 1 t)) None) (eq-eqb s.channel (slice_index ring 0) (same ∙ is))
        ∙ ap (λ (x : Option ℕ). form_after_sending ring s x (parts_at 1 t)) received

    pub sends_then_waits : (o : Option Form) → received_by t ≡ None → waiting ≡ o → sending ≡ o
    sends_then_waits o received so = by_second None received ∙ so

    pub sends_then_elsewhere : (c last : ℕ) → received_by t ≡ Some c → last ≡ last_channel ring → c ≢ last → sending ≡ None
    sends_then_elsewhere c last received there other =
        by_second (Some c) received ∙ ap (λ (test : Bool). form_if test (Swap 0 s.value)) (ne_eqb c (last_channel ring) (λ so. other (so ∙ sym there)))

    pub sends_then_there : (c last : ℕ) → received_by t ≡ Some c → last ≡ last_channel ring → c ≡ last → sending ≡ Some (Swap 0 s.value)
    sends_then_there c last received there so =
        by_second (Some c) received ∙ ap (λ (test : Bool). form_if test (Swap 0 s.value)) (eq-eqb c (last_channel ring) (so ∙ there))

-- ---- another role

pub ends_with_name : (role : ℕ) (v : List Atom) (t : Term) → gives_name t ≡ true → by_end role v t ≡ Some (Swap role v)
ends_with_name role v t named = ap (λ (test : Bool). cond {A = Option Form} test (Some (Swap role v)) (form_if ((length v == 0) && gives_unit t) (Barrier role))) named

pub ends_otherwise : (role : ℕ) (v : List Atom) (t : Term) (ends : Bool) (o : Option Form) → gives_name t ≡ false → ((length v == 0) && gives_unit t) ≡ ends
    → form_if ends (Barrier role) ≡ o → by_end role v t ≡ o
ends_otherwise role v t ends o named end so =
    ap (λ (test : Bool). cond {A = Option Form} test (Some (Swap role v)) (form_if ((length v == 0) && gives_unit t) (Barrier role))) named
    ∙ ap (λ (test : Bool). form_if test (Barrier role)) end ∙ so

module _ (ring : List ℕ) (c : ℕ) (t : Term) where
  abbrev receiving : Option Form
  receiving = receives_first ring c (parts_at 1 t)

  pub receives_whole : parts_at 1 t ≡ None → receiving ≡ None
  receives_whole none = ap (receives_first ring c) none

  module _ (p : Term × Term) (parts : parts_at 1 t ≡ Some p) where
    by_sending : (o : Option Sent) → sent_by p.0 ≡ o → receiving ≡ by_sent ring c p.1 o
    by_sending o sent = ap (receives_first ring c) parts ∙ ap (by_sent ring c p.1) sent

    pub receives_only : sent_by p.0 ≡ None → receiving ≡ None
    receives_only sent = by_sending None sent

    module _ (s : Sent) (sent : sent_by p.0 ≡ Some s) where
      by_its_role : (o : Option ℕ) → role_on ring s.channel ≡ o → receiving ≡ by_role ring c s.value p.1 o
      by_its_role o role = by_sending (Some s) sent ∙ ap (by_role ring c s.value p.1) role

      pub receives_no_role : role_on ring s.channel ≡ None → receiving ≡ None
      receives_no_role role = by_its_role None role

      pub receives_first_role : (r : ℕ) → role_on ring s.channel ≡ Some r → r ≡ 0 → receiving ≡ None
      receives_first_role r role first = by_its_role (Some 0) (role ∙ ap Some first)

      by_before : (r : ℕ) (o : Option Form) → role_on ring s.channel ≡ Some r → r ≢ 0
          → cond {A = Option Form} (slice_index ring (r - 1) == c) (by_end r s.value p.1) None ≡ o → receiving ≡ o
      by_before zero o role other so = absurd (other refl)
      by_before (suc i) o role other so =
          let one : i ≡ suc i - 1 = omega arith in
          by_its_role (Some (suc i)) role
          ∙ ap (λ (j : ℕ). cond {A = Option Form} (slice_index ring j == c) (by_end (suc i) s.value p.1) None) one ∙ so

      pub receives_elsewhere : (r before : ℕ) → role_on ring s.channel ≡ Some r → r ≢ 0 → before ≡ slice_index ring (r - 1) → before ≢ c → receiving ≡ None
      receives_elsewhere r before role other is apart =
          by_before r None role other
          (ap (λ (test : Bool). cond {A = Option Form} test (by_end r s.value p.1) None) (ne_eqb (slice_index ring (r - 1)) c (λ same. apart (is ∙ same))))

      pub receives_there : (r before : ℕ) (o : Option Form) → role_on ring s.channel ≡ Some r → r ≢ 0 → before ≡ slice_index ring (r - 1) → before ≡ c
          → by_end r s.value p.1 ≡ o → receiving ≡ o
      receives_there r before o role other is same so =
          by_before r o role other
          (ap (λ (test : Bool). cond {A = Option Form} test (by_end r s.value p.1) None) (eq-eqb (slice_index ring (r - 1)) c (sym is ∙ same)) ∙ so)

-- ---- the whole

module _ (ring : List ℕ) (t : Term) where
  pub no_parts : parts_at 0 t ≡ None → form_in ring t ≡ None
  no_parts none = ap (by_parts ring) none

  module _ (p : Term × Term) (parts : parts_at 0 t ≡ Some p) where
    by_both : (s : Option Sent) (c : Option ℕ) → sent_by p.0 ≡ s → received_by p.0 ≡ c → form_in ring t ≡ by_first ring p.1 s c
    by_both s c sent received =
        ap (by_parts ring) parts ∙ ap (λ (x : Option Sent). by_first ring p.1 x (received_by p.0)) sent ∙ ap (λ (x : Option ℕ). by_first ring p.1 s x) received

    pub sends_at_first : (s : Sent) (o : Option Form) → sent_by p.0 ≡ Some s → sends_first ring p.1 s ≡ o → form_in ring t ≡ o
    sends_at_first s o sent so = by_both (Some s) (received_by p.0) sent refl ∙ so

    pub receives_at_first : (c : ℕ) (o : Option Form) → sent_by p.0 ≡ None → received_by p.0 ≡ Some c → receives_first ring c (parts_at 1 p.1) ≡ o → form_in ring t ≡ o
    receives_at_first c o sent received so = by_both None (Some c) sent received ∙ so

    pub neither_at_first : sent_by p.0 ≡ None → received_by p.0 ≡ None → form_in ring t ≡ None
    neither_at_first sent received = by_both None None sent received
