-- Each role has the same number of form members.
use Rattle.std.proofs.Common.{◌≡◌, ◌≢◌, ◌⊎◌, inl, inr, ℕ, zero, suc, ◌+◌, ◌<◌, ◌≤◌, ◌==◌, Bool, cond, List, [], ◌∷◌, length, Some, refl, sym, ap, subst, ◌∙◌, arith, sum_by, eq-eqb, ne_eqb}
use Rattle.std.specs.Prelude.{slice_get}
use Rattle.std.proofs.lemmas.List.Sums.{sum_by-cons}
use Rattle.te_terms.specs.declared.event.Outcome.{Outcome}
use Rattle.te_terms.specs.Terms.{Term}
use Rattle.te_terms.specs.Steps as steps
use Rattle.te_cert.specs.declared.cert.Member.{Member}
use Rattle.te_cert.specs.declared.cert.Meeting.{Meeting}
use Rattle.te_history.specs.State.{parked, State}
use Rattle.te_history.specs.Follows.{Stands, AreEvents}
use Rattle.te_history.proofs.Commits.{same_or_other}
use Rattle.te_forms.specs.declared.form.Form.{Form}
use Rattle.te_forms.specs.Rings.{IsRing, role_before}
use Rattle.te_forms.specs.Forms.{role_of, IsForm}
use Rattle.te_forms.specs.Privacy.{TermAvoids, FitsRing}
use Rattle.te_forms.specs.Handing.{FormMember, NumberOf, none, one_more, as_many, HasRole, AreEven}
use Rattle.te_board.proofs.ParkedLists.{one_event}
use Rattle.te_forms.proofs.Recognized.{one_form, form_names}
use Rattle.te_forms.proofs.Stages.{begun}
use Rattle.te_forms.proofs.Seats.{Seat, acting, AllFit, first_seat, first_seats, AllDone}
use Rattle.te_forms.proofs.Moves.{Moves}
use Rattle.te_forms.proofs.Evenness.{leaves, awaits, as_much}

pub item_le_sum : {X : Type 0} (f : X → ℕ) (xs : List X) (i : ℕ) (x : X) → slice_get xs i ≡ Some x → f x ≤ sum_by f xs
item_le_sum f [] i x at = absurd cc
item_le_sum f (y ∷ ys) zero x at =
    let same : y ≡ x = cc in
    let all = sum_by-cons f y ys in
    let value = ap f same in
    omega (arith, all, value)
item_le_sum f (y ∷ ys) (suc i) x at =
    let rest = item_le_sum f ys i x at in
    let all = sum_by-cons f y ys in
    omega (arith, all, rest)

module _ (ring : List ℕ) (is_ring : IsRing ring) where
  abbrev roles : ℕ
  roles = length ring

  -- so many seats have the role at first
  abbrev number : ℕ → List Seat → ℕ
  number role seats = sum_by (leaves roles role) seats

  -- ---- the seats that have a role are its members

  module _ (s : State) (role : ℕ) (m : Member) (e : Term) (stands : Stands s m.thread (parked m.ticket e)) where
    has_role : (f : Form) → IsForm ring f e → role_of f ≡ role → HasRole ring s role m
    has_role f is same = record { event = e; form = f; stands = stands; is_form = is; role_is = same }

    its_form : (h : HasRole ring s role m) → IsForm ring h.form e
    its_form h = subst (IsForm ring h.form) (one_event s m.thread m.ticket h.event e h.stands stands) h.is_form

    other_role : (f : Form) → IsForm ring f e → role_of f ≢ role → HasRole ring s role m → ⊥
    other_role f is other h = other (ap role_of (one_form ring is_ring f h.form e is (its_form h)) ∙ h.role_is)

    no_form : TermAvoids ring e → HasRole ring s role m → ⊥
    no_form avoids h = form_names ring is_ring h.form e (its_form h) avoids

    counts : (ms : List Member) (rest : ℕ) (fit : FitsRing ring e) → NumberOf (HasRole ring s role) ms rest
        → NumberOf (HasRole ring s role) (m ∷ ms) (leaves roles role (first_seat ring e fit) + rest)
    counts ms rest (inl own) others = by_role (same_or_other (role_of own.form) role)
      where
        by_role : (role_of own.form ≡ role) ⊎ (role_of own.form ≢ role) → NumberOf (HasRole ring s role) (m ∷ ms) (cond {A = ℕ} (role_of own.form == role) 1 0 + rest)
        by_role (inl same) =
            let one : suc rest ≡ cond {A = ℕ} (role_of own.form == role) 1 0 + rest = sym (ap (λ (b : Bool). cond {A = ℕ} b 1 0 + rest) (eq-eqb (role_of own.form) role same) ∙ omega arith) in
            subst (NumberOf (HasRole ring s role) (m ∷ ms)) one (one_more m ms rest (has_role own.form own.is_form same) others)
        by_role (inr other) =
            let none_here : rest ≡ cond {A = ℕ} (role_of own.form == role) 1 0 + rest = sym (ap (λ (b : Bool). cond {A = ℕ} b 1 0 + rest) (ne_eqb (role_of own.form) role other) ∙ omega arith) in
            subst (NumberOf (HasRole ring s role) (m ∷ ms)) none_here (as_many m ms rest (other_role own.form own.is_form other) others)
    counts ms rest (inr avoids) others =
        let none_here : rest ≡ 0 + rest = omega arith in
        subst (NumberOf (HasRole ring s role) (m ∷ ms)) none_here (as_many m ms rest (no_form avoids) others)

  pub numbers : (s : State) (role : ℕ) (ms : List Member) (gs : List steps.Member) (fit : AllFit ring gs) → AreEvents s ms gs
      → NumberOf (HasRole ring s role) ms (number role (first_seats ring gs fit))
  numbers s role [] [] fit events = none
  numbers s role (m ∷ ms) (g ∷ gs) fit events =
      let all = sum_by-cons (leaves roles role) (first_seat ring g.term fit.0) (first_seats ring gs fit.1) in
      subst (NumberOf (HasRole ring s role) (m ∷ ms)) (sym all)
      (counts s role m g.term events.1 ms (number role (first_seats ring gs fit.1)) fit.0 (numbers s role ms gs fit.1 events.2))
  numbers s role [] (g ∷ gs) fit events = absurd events
  numbers s role (m ∷ ms) [] fit events = absurd events

  -- ---- what awaits a role's channel is the role after it

  same_before : (a b : ℕ) → a < roles → b < roles → role_before roles a ≡ role_before roles b → a ≡ b
  same_before zero zero lt lt' e = refl
  same_before zero (suc j) lt lt' e = absurd (omega (arith, e, lt, lt'))
  same_before (suc i) zero lt lt' e = absurd (omega (arith, e, lt, lt'))
  same_before (suc i) (suc j) lt lt' e = ap suc e

  one_awaits : (role : ℕ) → role < roles → (e : Term) (fit : FitsRing ring e) → awaits roles (role_before roles role) (first_seat ring e fit) ≡ leaves roles role (first_seat ring e fit)
  one_awaits role lt e (inl own) = by_role (same_or_other (role_of own.form) role)
    where
      by_role : (role_of own.form ≡ role) ⊎ (role_of own.form ≢ role)
          → cond {A = ℕ} (role_before roles (role_of own.form) == role_before roles role) 1 0 ≡ cond {A = ℕ} (role_of own.form == role) 1 0
      by_role (inl same) =
          ap (λ (b : Bool). cond {A = ℕ} b 1 0) (eq-eqb (role_before roles (role_of own.form)) (role_before roles role) (ap (role_before roles) same))
          ∙ sym (ap (λ (b : Bool). cond {A = ℕ} b 1 0) (eq-eqb (role_of own.form) role same))
      by_role (inr other) =
          ap (λ (b : Bool). cond {A = ℕ} b 1 0) (ne_eqb (role_before roles (role_of own.form)) (role_before roles role) (λ so. other (same_before (role_of own.form) role own.is_form.within lt so)))
          ∙ sym (ap (λ (b : Bool). cond {A = ℕ} b 1 0) (ne_eqb (role_of own.form) role other))
  one_awaits role lt e (inr avoids) = refl

  all_await : (role : ℕ) → role < roles → (gs : List steps.Member) (fit : AllFit ring gs)
      → sum_by (awaits roles (role_before roles role)) (first_seats ring gs fit) ≡ number role (first_seats ring gs fit)
  all_await role lt [] fit = refl
  all_await role lt (g ∷ gs) fit =
      let one = one_awaits role lt g.term fit.0 in
      let rest = all_await role lt gs fit.1 in
      let left = sum_by-cons (awaits roles (role_before roles role)) (first_seat ring g.term fit.0) (first_seats ring gs fit.1) in
      let right = sum_by-cons (leaves roles role) (first_seat ring g.term fit.0) (first_seats ring gs fit.1) in
      omega (arith, one, rest, left, right)

  -- ---- so the number goes round

  module _ (gs : List steps.Member) (fit : AllFit ring gs) (ms : List Meeting) (last : List Seat) (os : List Outcome) (moves : Moves roles ms (first_seats ring gs fit) last)
      (done_all : AllDone last os) where
    pub same_number : (role : ℕ) → role < roles → number role (first_seats ring gs fit) ≡ number 0 (first_seats ring gs fit)
    same_number zero lt = refl
    same_number (suc i) lt =
        sym (all_await (suc i) lt gs fit) ∙ sym (as_much roles i ms (first_seats ring gs fit) last os moves done_all) ∙ same_number i (omega (arith, lt))

    pub evens : (s : State) (members : List Member) → AreEvents s members gs
        → ((p : FormMember ring s members) → slice_get (first_seats ring gs fit) p.place ≡ Some (acting p.form begun)) → AreEven ring s members
    evens s members events seat_of = record {
      number = number 0 (first_seats ring gs fit);
      even = λ role lt. subst (NumberOf (HasRole ring s role) members) (same_number role lt) (numbers s role members gs fit events);
      some = λ p.
          let at = item_le_sum (leaves roles (role_of p.form)) (first_seats ring gs fit) p.place (acting p.form begun) (seat_of p) in
          let one : cond {A = ℕ} (role_of p.form == role_of p.form) 1 0 ≡ 1 = ap (λ (b : Bool). cond {A = ℕ} b 1 0) (eq-eqb (role_of p.form) (role_of p.form) refl) in
          let same = same_number (role_of p.form) p.is_form.within in
          omega (arith, at, one, same);
    }
