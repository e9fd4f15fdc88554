-- What the tests of names tell.
use Rattle.std.proofs.Common.{◌≡◌, ◌↔◌, ◌⊎◌, inl, inr, ℕ, zero, suc, ◌+◌, ◌<◌, ◌≤◌, Bool, true, false, IsTrue, List, []}
use Rattle.std.proofs.Common.{◌∷◌, length, take, Option, Some, None, refl, sym, ap, subst, ◌∙◌, add-one, arith}
use Rattle.std.specs.Prelude.{slice_get}
use Rattle.std.specs.List.{AllByRecursion}
use Rattle.te_terms.specs.declared.value.Atom.{Atom}
use Rattle.te_terms.specs.Terms.{Term, or_register}
use Rattle.te_history.specs.declared.entry.Entry.{Entry}
use Rattle.te_history.specs.declared.entry.Entry.TheVariants.{Post}
use Rattle.std.proofs.lemmas.Option.{slice_get_within}
use Rattle.te_forms.specs.declared.form.Form.{Form}
use Rattle.te_forms.specs.Rings.{IsRing, IsOnRing}
use Rattle.te_forms.specs.Forms.{offer_of}
use Rattle.te_forms.specs.Privacy.{ValueAvoids, VariableAvoids, TermAvoids, FitsRing, IsPrivate}
use Rattle.te_forms.specs.Reading.{role_on, form_in, EntryFits}
use Rattle.te_terms.proofs.Lists.{all_at}
use Rattle.std.proofs.lemmas.Bool.{cases_lt}
use Rattle.te_forms.proofs.Recognized.{role_found, no_role, is_read, read_is, form_names}

-- ---- channels

pub is_of : (ring : List ℕ) (c role : ℕ) → Some role ≡ role_on ring c → IsTrue false ↔ ¬ IsOnRing ring c
is_of ring c role e = (λ t. absurd cc, λ apart. absurd (apart (role, role_found ring c role (sym e))))

pub is_none_of : (ring : List ℕ) (c : ℕ) → None ≡ role_on ring c → IsTrue true ↔ ¬ IsOnRing ring c
is_none_of ring c e = (λ t. λ has. no_role ring c (sym e) has.0 has.1, λ apart. refl)

-- ---- lists of items

next_holds : {X : Type 0} (P : X → Type 0) (xs : List X) (d : ℕ) (x : X) → slice_get xs d ≡ Some x → AllByRecursion P (take d xs) → P x → AllByRecursion P (take (suc d) xs)
next_holds P [] d x at all one = absurd cc
next_holds P (y ∷ ys) zero x at all one = let same : y ≡ x = cc in (subst P (sym same) one, tt)
next_holds P (y ∷ ys) (suc d) x at all one = (all.0, next_holds P ys d x at all.1 one)

pub one_more_holds : {X : Type 0} (P : X → Type 0) (xs : List X) (d : ℕ) (x : X) → slice_get xs d ≡ Some x → AllByRecursion P (take d xs) → P x → AllByRecursion P (take (d + 1) xs)
one_more_holds P xs d x at all one =
    subst (λ (n : ℕ). AllByRecursion P (take n xs)) (sym (add-one d)) (next_holds P xs d x at all one)

pub all_hold : {X : Type 0} (P : X → Type 0) (xs : List X) (d : ℕ) → length xs ≤ d → AllByRecursion P (take d xs) → AllByRecursion P xs
all_hold P [] d past all = tt
all_hold P (x ∷ xs) zero past all = absurd (omega (arith, past))
all_hold P (x ∷ xs) (suc d) past all = (all.0, all_hold P xs d (omega (arith, past)) all.1)

pub one_fails : {X : Type 0} (P : X → Type 0) (xs : List X) (d : ℕ) (x : X) → slice_get xs d ≡ Some x → (IsTrue false ↔ P x) → IsTrue false ↔ AllByRecursion P xs
one_fails P xs d x at fails = (λ t. absurd cc, λ all. fails.1 (item P xs d x at all))
  where
    item : {Y : Type 0} (Q : Y → Type 0) (ys : List Y) (k : ℕ) (y : Y) → slice_get ys k ≡ Some y → AllByRecursion Q ys → Q y
    item Q ys k y e all = all_at Q ys k y all e

pub not_past : {X : Type 0} (xs : List X) (d : ℕ) → d < length xs → None ≡ slice_get xs d → ⊥
not_past [] d lt none = omega (arith, lt)
not_past (x ∷ xs) zero lt none = cc
not_past (x ∷ xs) (suc d) lt none = not_past xs d (omega (arith, lt)) none

-- ---- variables

pub known_tells : (ring : List ℕ) (regs : List (List Atom)) (r : ℕ) (v : List Atom) (test : Bool) → Some v ≡ slice_get regs r → (IsTrue test ↔ ValueAvoids ring v)
    → IsTrue test ↔ VariableAvoids ring (or_register (slice_get regs r) r)
known_tells ring regs r v test at tells = subst (λ (o : Option (List Atom)). IsTrue test ↔ VariableAvoids ring (or_register o r)) at tells

pub unknown_tells : (ring : List ℕ) (regs : List (List Atom)) (r : ℕ) → None ≡ slice_get regs r → IsTrue true ↔ VariableAvoids ring (or_register (slice_get regs r) r)
unknown_tells ring regs r at = subst (λ (o : Option (List Atom)). IsTrue true ↔ VariableAvoids ring (or_register o r)) at (λ t. tt, λ h. refl)

-- ---- events

module _ (ring : List ℕ) (is_ring : IsRing ring) (t : Term) (test : Bool) where
  pub form_fits : (f : Form) → form_in ring t ≡ Some f → (IsTrue test ↔ ValueAvoids ring (offer_of f)) → IsTrue test ↔ FitsRing ring t
  form_fits f read tells = (
    λ yes. inl (record { form = f; is_form = read_is ring is_ring t f read; offer_avoids = tells.0 yes }),
    λ fit. tells.1 (by_fit fit),
  )
    where
      by_fit : FitsRing ring t → ValueAvoids ring (offer_of f)
      by_fit (inl own) =
          let both : Some own.form ≡ Some f = sym (is_read ring is_ring own.form t own.is_form) ∙ read in
          let same : own.form ≡ f = cc in
          subst (λ (g : Form). ValueAvoids ring (offer_of g)) same own.offer_avoids
      by_fit (inr avoids) = absurd (form_names ring is_ring f t (read_is ring is_ring t f read) avoids)

  pub other_fits : form_in ring t ≡ None → (IsTrue test ↔ TermAvoids ring t) → IsTrue test ↔ FitsRing ring t
  other_fits read tells = (λ yes. inr (tells.0 yes), λ fit. tells.1 (by_fit fit))
    where
      by_fit : FitsRing ring t → TermAvoids ring t
      by_fit (inl own) = let both : Some own.form ≡ None = sym (is_read ring is_ring own.form t own.is_form) ∙ read in absurd cc
      by_fit (inr avoids) = avoids

-- ---- histories

abbrev pub FitBefore : List ℕ → List Entry → ℕ → Type 0
FitBefore ring entries i = (k : ℕ) (e : Entry) → k < i → slice_get entries k ≡ Some e → EntryFits ring e

pub fit_next : (ring : List ℕ) (entries : List Entry) (i : ℕ) (e : Entry) → slice_get entries i ≡ Some e → EntryFits ring e → FitBefore ring entries i → FitBefore ring entries (i + 1)
fit_next ring entries i e at fits before k x less here = by_last (cases_lt k i)
  where
    by_last : (k < i) ⊎ (i ≤ k) → EntryFits ring x
    by_last (inl earlier) = before k x earlier here
    by_last (inr last) =
        let same : k ≡ i = omega (arith, last, less) in
        let both : Some e ≡ Some x = sym at ∙ ap (slice_get entries) (sym same) ∙ here in
        let one : e ≡ x = cc in
        subst (EntryFits ring) one fits

pub all_fit : (ring : List ℕ) (entries : List Entry) (i : ℕ) → length entries ≤ i → FitBefore ring entries i → IsPrivate ring entries
all_fit ring entries i past before k by ticket event at =
    let lt = slice_get_within entries k (Post by ticket event) at in before k (Post by ticket event) (omega (arith, lt, past)) at

pub one_unfit : (ring : List ℕ) (entries : List Entry) (i : ℕ) (e : Entry) → slice_get entries i ≡ Some e → (IsTrue false ↔ EntryFits ring e) → IsTrue false ↔ IsPrivate ring entries
one_unfit ring entries i e at tells = (λ t. absurd cc, λ all. tells.1 (by_entry e at all))
  where
    by_entry : (x : Entry) → slice_get entries i ≡ Some x → IsPrivate ring entries → EntryFits ring x
    by_entry (Post by ticket event) here all = all i by ticket event here
    by_entry _ here all = tt
