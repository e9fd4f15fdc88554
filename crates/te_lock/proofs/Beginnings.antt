-- Lists that begin with one another, and the entries of one caller in them.
use Rattle.std.proofs.Common.{◌≡◌, ◌≢◌, ◌⊎◌, ℕ, ◌<◌, ◌≤◌, eqb, cond, Bool, true, false, List, [], ◌∷◌, ◌++◌, length}
use Rattle.std.proofs.Common.{drop, refl, sym, ap, ◌∙◌, subst, ⊎_elim, inl, inr, arith, append_assoc, length-append}
use Rattle.std.proofs.Common.{ne_eqb, eq-eqb}
use Rattle.std.specs.Prelude.{All}
use Rattle.std.proofs.lemmas.List.{append-nil}
use Rattle.std.proofs.lemmas.Bool.{cases_lt, lt-ltb, le-ltb}
use Rattle.std.proofs.lemmas.List.Elements.{All-nil, All-cons, All-head, All-tail, filter-append}
use mathlib.Core.List.{IsPrefix}
use Rattle.te_lock.specs.Entries.{entries_by, longer}
use Rattle.te_lock.specs.Rule.{read_after}

-- a fact of all elements of two lists, one after the other
module _ {A : Type 0} (P : A → Type 0) where
  pub all_front : (xs ys : List A) → All P (xs ++ ys) → All P xs
  all_front [] ys h = All-nil P
  all_front (x ∷ xs) ys h = All-cons P x xs (All-head P x (xs ++ ys) h) (all_front xs ys (All-tail P x (xs ++ ys) h))

  pub all_back : (xs ys : List A) → All P (xs ++ ys) → All P ys
  all_back [] ys h = h
  all_back (x ∷ xs) ys h = all_back xs ys (All-tail P x (xs ++ ys) h)

module _ {E : Type 0} where
  pub prefix_self : (xs : List E) → IsPrefix xs xs
  prefix_self xs = ([], append-nil xs)

  pub prefix_nil : (xs : List E) → IsPrefix [] xs
  prefix_nil xs = (xs, refl)

  pub prefix_longer : (xs ys more : List E) → IsPrefix xs ys → IsPrefix xs (ys ++ more)
  prefix_longer xs ys more p = (p.0 ++ more, sym (append_assoc xs p.0 more) ∙ ap (λ w. w ++ more) p.1)

  pub prefix_length : (xs ys : List E) → IsPrefix xs ys → length xs ≤ length ys
  prefix_length xs ys p = omega (arith, sym (ap length p.1) ∙ length-append xs p.0)

  pub drop-front : (xs more : List E) → drop (length xs) (xs ++ more) ≡ more
  drop-front [] more = refl
  drop-front (x ∷ xs) more = drop-front xs more

module _ {E : Type 0} (author : E → ℕ) (caller : ℕ) where
  -- entries of this caller alone are all kept
  pub all_by : (xs : List E) → All (λ e. author e ≡ caller) xs → entries_by author caller xs ≡ xs
  all_by [] h = refl
  all_by (x ∷ xs) h =
      let here = eq-eqb (author x) caller (All-head (λ e. author e ≡ caller) x xs h) in
      let rest = all_by xs (All-tail (λ e. author e ≡ caller) x xs h) in
      ap (λ b. cond b (x ∷ entries_by author caller xs) (entries_by author caller xs)) here ∙ ap (λ w. x ∷ w) rest

  -- of another caller's entries none is
  pub none_by : (other : ℕ) → other ≢ caller → (xs : List E) → All (λ e. author e ≡ other) xs → entries_by author caller xs ≡ []
  none_by other apart [] h = refl
  none_by other apart (x ∷ xs) h =
      let is = All-head (λ e. author e ≡ other) x xs h in
      let here = ne_eqb (author x) caller (λ same. apart (sym is ∙ same)) in
      let rest = none_by other apart xs (All-tail (λ e. author e ≡ other) x xs h) in
      ap (λ b. cond b (x ∷ entries_by author caller xs) (entries_by author caller xs)) here ∙ rest

  pub entries_by-append : (xs ys : List E) → entries_by author caller (xs ++ ys) ≡ entries_by author caller xs ++ entries_by author caller ys
  entries_by-append xs ys = filter-append (λ e. eqb (author e) caller) xs ys

-- which of two lists is the longer
pub longer_cases : {E : Type 0} (xs ys : List E) → ((longer xs ys ≡ xs) × (length ys ≤ length xs)) ⊎ ((longer xs ys ≡ ys) × (length xs < length ys))
longer_cases xs ys =
    ⊎_elim
    (λ (t : length xs < length ys). inr (ap (λ b. cond b ys xs) (lt-ltb (length xs) (length ys) t), t))
    (λ (t : length ys ≤ length xs). inl (ap (λ b. cond b ys xs) (le-ltb (length xs) (length ys) t), t))
    (cases_lt (length xs) (length ys))

-- a list that is no shorter than the other is the longer
pub longer_first : {E : Type 0} (xs ys : List E) → length ys ≤ length xs → longer xs ys ≡ xs
longer_first xs ys le = ap (λ b. cond b ys xs) (le-ltb (length xs) (length ys) le)

-- what is read after a join is one of the two lists
pub read_by : {E : Type 0} (P : List E → Type 0) (turn : Bool) (xs ys : List E) → P xs → P ys → P (read_after turn xs ys)
read_by P true xs ys p q = p
read_by P false xs ys p q =
    ⊎_elim
    (λ (t : (longer xs ys ≡ xs) × (length ys ≤ length xs)). subst P (sym t.0) p)
    (λ (t : (longer xs ys ≡ ys) × (length xs < length ys)). subst P (sym t.0) q)
    (longer_cases xs ys)
