-- Lists of numbers: what they have, and that none comes twice.
use Rattle.std.proofs.Common.{◌≡◌, ◌≤◌, ◌<◌, ℕ, zero, suc, ◌+◌, ◌-◌, Bool, true, false, ◌||◌, List, [], ◌∷◌, ◌++◌, length, take, get_or, nat_eq, eqb-true, refl, ap, sym, ◌∙◌, arith, length-append}
use Rattle.std.specs.List.{Contains, IsDistinct, AllByRecursion, list_any}
use Rattle.std.specs.Cmp.{nat_eq_equiv}
use Rattle.std.proofs.lemmas.Map.Keys.{IsDistinct-head, IsDistinct-tail, IsDistinct-cons, IsDistinct-push}
use Rattle.std.proofs.lemmas.List.Elements.{Contains-append_right}
use Rattle.te_terms.proofs.Lists.{take_all}

-- ---- the last of a list

pub without_end : {A : Type 0} (xs : List A) (x : A) → take (length (xs ++ x ∷ []) - 1) (xs ++ x ∷ []) ≡ xs
without_end {A = A} xs x = ap (λ n. take n (xs ++ x ∷ [])) (let e : length (xs ++ x ∷ []) - 1 ≡ length xs = omega (arith, length-append xs (x ∷ [])) in e) ∙ go xs
  where
    go : (xs : List A) → take (length xs) (xs ++ x ∷ []) ≡ xs
    go [] = refl
    go (y ∷ xs) = ap (λ r. y ∷ r) (go xs)

pub take_less : {A : Type 0} (xs ys : List A) (e : A) (n : ℕ) → xs ≡ ys ++ e ∷ [] → n ≤ length ys → take n xs ≡ take n ys
take_less {A = A} xs ys e n h k = ap (take n) h ∙ go ys n k
  where
    go : (ys : List A) (n : ℕ) → n ≤ length ys → take n (ys ++ e ∷ []) ≡ take n ys
    go ys zero k = refl
    go [] (suc n) k = absurd (omega (arith, k))
    go (y ∷ ys) (suc n) k = ap (λ r. y ∷ r) (go ys n (omega (arith, k)))

pub next_taken : {A : Type 0} (xs : List A) (i : ℕ) (d : A) → i < length xs → take (i + 1) xs ≡ take i xs ++ get_or xs i d ∷ []
next_taken [] i d h = absurd (omega (arith, h))
next_taken (x ∷ xs) zero d h = refl
next_taken (x ∷ xs) (suc i) d h = ap (λ n. take n (x ∷ xs)) (let e : suc i + 1 ≡ suc (i + 1) = omega arith in e) ∙ ap (λ r. x ∷ r) (next_taken xs i d (omega (arith, h)))

-- ---- none twice

pub nothing_twice : IsDistinct nat_eq []
unfolding IsDistinct
nothing_twice = _

any_contains : (xs : List ℕ) (x : ℕ) → list_any (nat_eq x) xs ≡ true → Contains xs x
any_contains [] x h = cc
any_contains (y ∷ ys) x h = by (nat_eq x y) refl (any_contains ys x) h
  where
    by : (b : Bool) → nat_eq x y ≡ b → (list_any (nat_eq x) ys ≡ true → Contains ys x) → (b || list_any (nat_eq x) ys) ≡ true → Contains (y ∷ ys) x
    by true e rest g = (0, (let low : 0 < length (y ∷ ys) = omega arith in low), sym (eqb-true x y e))
    by false e rest g = Contains-append_right (y ∷ []) ys x (rest g)

pub not_any : (xs : List ℕ) (x : ℕ) → (¬ Contains xs x) → list_any (nat_eq x) xs ≡ false
not_any xs x free = by (list_any (nat_eq x) xs) refl
  where
    by : (b : Bool) → list_any (nat_eq x) xs ≡ b → b ≡ false
    by true e = absurd (free (any_contains xs x e))
    by false e = refl

pub distinct_more : (xs : List ℕ) (x : ℕ) → IsDistinct nat_eq xs → (¬ Contains xs x) → IsDistinct nat_eq (xs ++ x ∷ [])
distinct_more xs x h free = IsDistinct-push nat_eq_equiv xs x h (not_any xs x free)

all_front : {A : Type 0} (P : A → Type 0) (xs ys : List A) → AllByRecursion P (xs ++ ys) → AllByRecursion P xs
all_front P [] ys h = _
all_front P (x ∷ xs) ys (p, h) = (p, all_front P xs ys h)

pub distinct_front : (xs ys : List ℕ) → IsDistinct nat_eq (xs ++ ys) → IsDistinct nat_eq xs
unfolding IsDistinct
distinct_front [] ys h = _
distinct_front (x ∷ xs) ys h = IsDistinct-cons nat_eq x xs (all_front (λ y. nat_eq x y ≡ false) xs ys
    (IsDistinct-head nat_eq x (xs ++ ys) h)) (distinct_front xs ys (IsDistinct-tail nat_eq x (xs ++ ys) h))
