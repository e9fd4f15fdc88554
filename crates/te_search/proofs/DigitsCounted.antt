-- Lists of digits are as many as the product of their bases, and what has such a list of its own is no more.
use Rattle.std.proofs.Common.{◌≡◌, ◌≢◌, ◌≤◌, ◌<◌, ℕ, zero, suc, ◌+◌, ◌*◌, ◌^◌, List, [], ◌∷◌, ◌++◌, length, replicate}
use Rattle.std.proofs.Common.{Bool, true, false, ◌||◌, eqb, refl, ap, ap₂, sym, ◌∙◌, subst, arith, true≢false, eqb-true}
use Rattle.std.proofs.Common.{mul_assoc, one-mul}
use Rattle.std.specs.List.{AllByRecursion, IsDistinct, list_any}
use Rattle.std.proofs.Math.Nat.{pow-succ', pow-zero}
use Rattle.std.proofs.lemmas.Nat.{mul-add-lt, same_from_place}
use Rattle.std.proofs.lemmas.Map.Steps.{length-le_from_distinct_below}

-- ---- lists of digits

abbrev pub product : List ℕ → ℕ
product [] = 1
product (b ∷ bs) = b * product bs

-- each digit is below its base
abbrev pub Fit : List ℕ → List ℕ → Type 0
Fit [] [] = Unit {0}
Fit (b ∷ bs) (d ∷ ds) = (d < b) × Fit bs ds
Fit _ _ = ⊥

abbrev pub number : List ℕ → List ℕ → ℕ
number (b ∷ bs) (d ∷ ds) = number bs ds * b + d
number _ _ = 0

pub number_low : (bs ds : List ℕ) → Fit bs ds → number bs ds < product bs
number_low [] [] f = omega arith
number_low (b ∷ bs) (d ∷ ds) f = mul-add-lt (number bs ds) b d (product bs) (number_low bs ds f.1) f.0
number_low [] (d ∷ ds) f = absurd f
number_low (b ∷ bs) [] f = absurd f

pub number_tells : (bs ds es : List ℕ) → Fit bs ds → Fit bs es → number bs ds ≡ number bs es → ds ≡ es
number_tells [] [] [] f h e = refl
number_tells (b ∷ bs) (d ∷ ds) (x ∷ es) f h e =
    let both : (number bs ds ≡ number bs es) × (d ≡ x) = same_from_place (number bs ds) d (number bs es) x b f.0 h.0 e in
    ap₂ (λ y ys. y ∷ ys) both.1 (number_tells bs ds es f.1 h.1 both.0)
number_tells [] (d ∷ ds) es f h e = absurd f
number_tells [] [] (x ∷ es) f h e = absurd h
number_tells (b ∷ bs) [] es f h e = absurd f
number_tells (b ∷ bs) (d ∷ ds) [] f h e = absurd h

pub fit_both : (bs ds cs es : List ℕ) → Fit bs ds → Fit cs es → Fit (bs ++ cs) (ds ++ es)
fit_both [] [] cs es f h = h
fit_both (b ∷ bs) (d ∷ ds) cs es f h = (f.0, fit_both bs ds cs es f.1 h)
fit_both [] (d ∷ ds) cs es f h = absurd f
fit_both (b ∷ bs) [] cs es f h = absurd f

pub fit_length : (bs ds : List ℕ) → Fit bs ds → length ds ≡ length bs
fit_length [] [] f = refl
fit_length (b ∷ bs) (d ∷ ds) f = ap suc (fit_length bs ds f.1)
fit_length [] (d ∷ ds) f = absurd f
fit_length (b ∷ bs) [] f = absurd f

pub product_both : (bs cs : List ℕ) → product (bs ++ cs) ≡ product bs * product cs
product_both [] cs = sym (one-mul (product cs))
product_both (b ∷ bs) cs = ap (λ n. b * n) (product_both bs cs) ∙ sym (mul_assoc b (product bs) (product cs))

pub product_alike : (n b : ℕ) → product (replicate n b) ≡ b ^ n
product_alike zero b = sym (pow-zero b)
product_alike (suc n) b = ap (λ k. b * k) (product_alike n b) ∙ sym (pow-succ' b n)

pub both_same : (as' bs cs ds : List ℕ) → length as' ≡ length bs → as' ++ cs ≡ bs ++ ds → (as' ≡ bs) × (cs ≡ ds)
both_same [] [] cs ds n e = (refl, e)
both_same (a ∷ as') (b ∷ bs) cs ds n e =
    let len : length as' ≡ length bs = omega (arith, n) in
    let first : a ≡ b = cc in
    let rest : as' ++ cs ≡ bs ++ ds = cc in
    let both : (as' ≡ bs) × (cs ≡ ds) = both_same as' bs cs ds len rest in
    (ap₂ (λ y ys. y ∷ ys) first both.0, both.1)
both_same [] (b ∷ bs) cs ds n e = absurd (omega (arith, n))
both_same (a ∷ as') [] cs ds n e = absurd (omega (arith, n))

-- ---- a list of codes, filled up with 0

abbrev pub padded : {A : Type 0} → (A → ℕ) → ℕ → List A → List ℕ
padded code zero xs = []
padded code (suc n) [] = 0 ∷ padded code n []
padded code (suc n) (x ∷ xs) = suc (code x) ∷ padded code n xs

pub padded_fits : {A : Type 0} (code : A → ℕ) (low n : ℕ) (xs : List A) → AllByRecursion (λ x. code x < low) xs → Fit (replicate n (suc low)) (padded code n xs)
padded_fits code low zero xs h = tt
padded_fits code low (suc n) [] h = (let z : 0 < suc low = omega arith in z, padded_fits code low n [] tt)
padded_fits code low (suc n) (x ∷ xs) h = (let z : suc (code x) < suc low = omega (arith, h.0) in z, padded_fits code low n xs h.1)

pub padded_tells : {A : Type 0} (code : A → ℕ) (P : A → Type 0) (tells : (x y : A) → P x → P y → code x ≡ code y → x ≡ y) (n : ℕ) (xs ys : List A)
    → AllByRecursion P xs → AllByRecursion P ys → length xs ≤ n → length ys ≤ n → padded code n xs ≡ padded code n ys → xs ≡ ys
padded_tells code P tells zero [] [] hx hy lx ly e = refl
padded_tells code P tells zero (x ∷ xs) ys hx hy lx ly e = absurd (omega (arith, lx))
padded_tells code P tells zero [] (y ∷ ys) hx hy lx ly e = absurd (omega (arith, ly))
padded_tells code P tells (suc n) [] [] hx hy lx ly e = refl
padded_tells code P tells (suc n) (x ∷ xs) [] hx hy lx ly e = let z : suc (code x) ≡ 0 = cc in absurd (omega (arith, z))
padded_tells code P tells (suc n) [] (y ∷ ys) hx hy lx ly e = let z : 0 ≡ suc (code y) = cc in absurd (omega (arith, z))
padded_tells code P tells (suc n) (x ∷ xs) (y ∷ ys) hx hy lx ly e =
    let first : suc (code x) ≡ suc (code y) = cc in
    let rest : padded code n xs ≡ padded code n ys = cc in
    let same : code x ≡ code y = omega (arith, first) in
    let shorter : length xs ≤ n = omega (arith, lx) in
    let shorter_too : length ys ≤ n = omega (arith, ly) in
    ap₂ (λ z zs. z ∷ zs) (tells x y hx.0 hy.0 same) (padded_tells code P tells n xs ys hx.1 hy.1 shorter shorter_too rest)

-- ---- counting

-- each has a number below n
abbrev pub AreNumbered : {A : Type 0} → (A → ℕ → Type 0) → ℕ → List A → Type 0
AreNumbered Is n xs = AllByRecursion (λ x. (k : ℕ) × (k < n) × Is x k) xs

module _ {A : Type 0} (Is : A → ℕ → Type 0) (n : ℕ) (tells : (x y : A) (k : ℕ) → Is x k → Is y k → x ≡ y) where
  numbers : (xs : List A) → AreNumbered Is n xs → List ℕ
  numbers [] h = []
  numbers (x ∷ xs) h = h.0.0 ∷ numbers xs h.1

  as_many : (xs : List A) (h : AreNumbered Is n xs) → length (numbers xs h) ≡ length xs
  unfolding numbers
  as_many [] h = refl
  as_many (x ∷ xs) h = ap suc (as_many xs h.1)

  low : (xs : List A) (h : AreNumbered Is n xs) (q : ℕ) → list_any (eqb q) (numbers xs h) ≡ true → q < n
  unfolding numbers
  low [] h q e = absurd cc
  low (x ∷ xs) h q e = go (low xs h.1 q) (eqb q h.0.0) refl e
    where
      go : (list_any (eqb q) (numbers xs h.1) ≡ true → q < n) → (o : Bool) → eqb q h.0.0 ≡ o → o || list_any (eqb q) (numbers xs h.1) ≡ true → q < n
      go ih true w f = subst (λ k. k < n) (sym (eqb-true q h.0.0 w)) h.0.1
      go ih false w f = ih f

  other : (x : A) (k : ℕ) → Is x k → (xs : List A) (h : AreNumbered Is n xs) → AllByRecursion (λ y. x ≢ y) xs → AllByRecursion (λ j. eqb k j ≡ false) (numbers xs h)
  unfolding numbers
  other x k i [] h a = tt
  other x k i (y ∷ ys) h a = (go (eqb k h.0.0) refl, other x k i ys h.1 a.1)
    where
      go : (o : Bool) → eqb k h.0.0 ≡ o → o ≡ false
      go false w = refl
      go true w = absurd (a.0 (tells x y k i (subst (Is y) (sym (eqb-true k h.0.0 w)) h.0.2)))

-- none comes twice
abbrev pub NoneAlike : {A : Type 0} → List A → Type 0
NoneAlike [] = Unit {0}
NoneAlike (x ∷ xs) = AllByRecursion (λ y. x ≢ y) xs × NoneAlike xs

distinct : {A : Type 0} (Is : A → ℕ → Type 0) (n : ℕ) (tells : (x y : A) (k : ℕ) → Is x k → Is y k → x ≡ y)
    (xs : List A) (h : AreNumbered Is n xs) → NoneAlike xs → IsDistinct eqb (numbers Is n tells xs h)
unfolding numbers IsDistinct
distinct Is n tells [] h a = tt
distinct Is n tells (x ∷ xs) h a = (other Is n tells x h.0.0 h.0.2 xs h.1 a.0, distinct Is n tells xs h.1 a.1)

-- so there are at most n of them
pub counted : {A : Type 0} (Is : A → ℕ → Type 0) (n : ℕ) (tells : (x y : A) (k : ℕ) → Is x k → Is y k → x ≡ y) (xs : List A) → AreNumbered Is n xs → NoneAlike xs → length xs ≤ n
counted Is n tells xs h a =
    subst (λ k. k ≤ n) (as_many Is n tells xs h) (length-le_from_distinct_below (numbers Is n tells xs h) n (distinct Is n tells xs h a) (low Is n tells xs h))
