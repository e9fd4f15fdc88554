-- Which caller numbers stand in a view.
use Rattle.std.proofs.Common.{◌≡◌, ◌⊎◌, ℕ, zero, suc, List, [], ◌∷◌, refl, sym, ap, subst, inl, inr, ⊎_elim, arith}
use Rattle.std.specs.Prelude.{All, Contains}
use Rattle.std.proofs.lemmas.List.Elements.{All-cons, All-head, All-tail, Contains-append_left, Contains-append_right, Contains-append_cases}
use Rattle.te_lock.specs.declared.view.View.{View}
use Rattle.te_lock.specs.declared.view.Role.{Role}
use Rattle.te_lock.specs.declared.view.Role.TheVariants.{Maker, Caller, Note, Spent}
use Rattle.te_lock.specs.Rule.{Stands, Closes, closes_of, joined}

module _ {A : Type 0} where
  pub contains_nil : (x : A) → Contains [] x → ⊥
  contains_nil x c = let below = c.1 in omega arith

  contains_here : (x : A) (xs : List A) → Contains (x ∷ xs) x
  contains_here x xs = (0, omega arith, refl)

  contains_there : (y : A) (xs : List A) (x : A) → Contains xs x → Contains (y ∷ xs) x
  contains_there y xs x c = let below = c.1 in (suc c.0, omega arith, c.2)

  contains_cons : (y : A) (xs : List A) (x : A) → Contains (y ∷ xs) x → (y ≡ x) ⊎ Contains xs x
  contains_cons y xs x (zero, below, is) = inl is
  contains_cons y xs x (suc i, below, is) = inr (i, omega arith, is)

module _ {E : Type 0} where
  -- a view with no closed numbers closes none
  pub closes_none : (k : ℕ) (v : View E) → v.closed ≡ [] → Closes k v → ⊥
  closes_none k v none c = contains_nil (k, c.0) (subst (λ l. Contains l (k, c.0)) none c.1)

  own_kept : (k : ℕ) (r : Role) (own : List E) (closed : List (ℕ × List E)) → r ≡ Caller k → Contains (closes_of r own closed) (k, own)
  own_kept k r own closed e = subst (λ r. Contains (closes_of r own closed) (k, own)) (sym e) (contains_here (k, own) closed)

  closed_kept : (c : ℕ × List E) (r : Role) (own : List E) (closed : List (ℕ × List E)) → Contains closed c → Contains (closes_of r own closed) c
  closed_kept c (Caller n) own closed h = contains_there (n, own) closed c h
  closed_kept c (Maker n) own closed h = h
  closed_kept c Note own closed h = h
  closed_kept c Spent own closed h = h

  closes_of_cases : (k : ℕ) (o : List E) (r : Role) (own : List E) (closed : List (ℕ × List E)) → Contains (closes_of r own closed) (k, o) → (r ≡ Caller k) ⊎ Contains closed (k, o)
  closes_of_cases k o (Caller n) own closed h = ⊎_elim (λ (e : (n, own) ≡ (k, o)). inl (ap (λ (c : ℕ × List E). Caller c.0) e))
      (λ (c : Contains closed (k, o)). inr c) (contains_cons (n, own) closed (k, o) h)
  closes_of_cases k o (Maker n) own closed h = inr h
  closes_of_cases k o Note own closed h = inr h
  closes_of_cases k o Spent own closed h = inr h

  -- what holds of each closed number, and of the own one, holds of all of them
  pub all_closes_of : (P : ℕ × List E → Type 0) (r : Role) (own : List E) (closed : List (ℕ × List E)) → ((k : ℕ) → r ≡ Caller k → P (k, own)) → All P closed → All P (closes_of r own closed)
  all_closes_of P (Caller n) own closed mine all = All-cons P (n, own) closed (mine n refl) all
  all_closes_of P (Maker n) own closed mine all = all
  all_closes_of P Note own closed mine all = all
  all_closes_of P Spent own closed mine all = all

  -- both views' numbers stand in the view that takes in the other, and no others
  pub stays_joined : (k : ℕ) (v u : View E) → Stands k v → Stands k (joined v u)
  stays_joined k v u =
      ⊎_elim (λ r. inl r) (λ (c : Closes k v). inr (c.0, Contains-append_left v.closed (closes_of u.role u.own u.closed) (k, c.0) c.1))

  pub taken_in : (k : ℕ) (v u : View E) → Stands k u → Stands k (joined v u)
  taken_in k v u =
      ⊎_elim
      (λ (r : u.role ≡ Caller k). inr (u.own, Contains-append_right v.closed (closes_of u.role u.own u.closed) (k, u.own) (own_kept k u.role u.own u.closed r)))
      (λ (c : Closes k u). inr (c.0, Contains-append_right v.closed (closes_of u.role u.own u.closed) (k, c.0) (closed_kept (k, c.0) u.role u.own u.closed c.1)))

  pub joined_cases : (k : ℕ) (v u : View E) → Stands k (joined v u) → Stands k v ⊎ Stands k u
  joined_cases k v u =
      ⊎_elim
      (λ (r : v.role ≡ Caller k). inl (inl r))
      (λ (c : Closes k (joined v u)).
      ⊎_elim
      (λ (a : Contains v.closed (k, c.0)). inl (inr (c.0, a)))
      (λ (b : Contains (closes_of u.role u.own u.closed) (k, c.0)).
      inr (⊎_elim (λ (r : u.role ≡ Caller k). inl r) (λ (d : Contains u.closed (k, c.0)). inr (c.0, d)) (closes_of_cases k c.0 u.role u.own
      u.closed b)))
      (Contains-append_cases v.closed (closes_of u.role u.own u.closed) (k, c.0) c.1))

  pub all_closes_of_back : (P : ℕ × List E → Type 0) (r : Role) (own : List E) (closed : List (ℕ × List E)) → All P (closes_of r own closed) → ((k : ℕ) → r ≡ Caller k → P (k, own)) × All P closed
  all_closes_of_back P (Caller n) own closed all = ((λ k e. let same : n ≡ k = cc e in subst (λ i. P (i, own)) same (All-head P (n, own) closed all)), All-tail P (n, own) closed all)
  all_closes_of_back P (Maker n) own closed all = ((λ k e. absurd (cc e)), all)
  all_closes_of_back P Note own closed all = ((λ k e. absurd (cc e)), all)
  all_closes_of_back P Spent own closed all = ((λ k e. absurd (cc e)), all)
