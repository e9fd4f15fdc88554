-- What the marks say after children have got their parent.
use Rattle.std.proofs.Common.{◌≡◌, ◌≢◌, ◌↔◌, ◌⊎◌, inl, inr, ℕ, zero, suc, ◌+◌, ◌<◌, true, false, cond, eqb, List, [], ◌∷◌, ◌++◌, length, set, get_or, IsTrue, refl, sym, ap, ◌∙◌, subst, arith}
use Rattle.std.specs.Prelude.{◌==◌}
use Rattle.std.specs.List.{sum_by, count_by, AllByRecursion}
use Rattle.std.proofs.lemmas.List.Sums.{sum_by-cons}
use Rattle.std.proofs.lemmas.Bool.{cases_eq}
use Rattle.std.proofs.lemmas.Bool.Decides.{nat_tests}
use Rattle.te_terms.specs.declared.code.Mark.{Mark}
use Rattle.te_terms.specs.Kept.{open_count, as_child, adopt, adopted}

pub length-adopt : (i : ℕ) (ms : List Mark) → length (adopt i ms) ≡ length ms
length-adopt i [] = refl
length-adopt zero (m ∷ ms) = refl
length-adopt (suc i) (m ∷ ms) = ap suc (length-adopt i ms)

pub adopt_is_set : (i : ℕ) (ms : List Mark) (d : Mark) → i < length ms → set ms i (as_child (get_or ms i d)) ≡ adopt i ms
adopt_is_set i [] d h = absurd (omega arith)
adopt_is_set zero (m ∷ ms) d h = refl
adopt_is_set (suc i) (m ∷ ms) d h = ap (λ xs. m ∷ xs) (adopt_is_set i ms d (omega arith))

-- what isn't about parents stays
stays : {A : Type 0} (of : Mark → A) → ((m : Mark) → of (as_child m) ≡ of m) → (i : ℕ) (ms : List Mark) (j : ℕ) (d : Mark) → of (get_or (adopt i ms) j d) ≡ of (get_or ms j d)
stays of same i [] j d = refl
stays of same zero (m ∷ ms) zero d = same m
stays of same zero (m ∷ ms) (suc j) d = refl
stays of same (suc i) (m ∷ ms) zero d = refl
stays of same (suc i) (m ∷ ms) (suc j) d = stays of same i ms j d

others_stay : (i : ℕ) (ms : List Mark) (j : ℕ) (d : Mark) → i ≢ j → get_or (adopt i ms) j d ≡ get_or ms j d
others_stay i [] j d h = refl
others_stay zero (m ∷ ms) zero d h = absurd (h refl)
others_stay zero (m ∷ ms) (suc j) d h = refl
others_stay (suc i) (m ∷ ms) zero d h = refl
others_stay (suc i) (m ∷ ms) (suc j) d h = others_stay i ms j d (λ e. h (ap suc e))

is_child_then : (i : ℕ) (ms : List Mark) (d : Mark) → i < length ms → (get_or (adopt i ms) i d).is_child ≡ true
is_child_then i [] d h = absurd (omega arith)
is_child_then zero (m ∷ ms) d h = refl
is_child_then (suc i) (m ∷ ms) d h = is_child_then i ms d (omega arith)

-- ---- a list of children

pub length-adopted : (cs : List ℕ) (ms : List Mark) → length (adopted cs ms) ≡ length ms
length-adopted [] ms = refl
length-adopted (c ∷ cs) ms = length-adopted cs (adopt c ms) ∙ length-adopt c ms

pub kept-adopted : {A : Type 0} (of : Mark → A) → ((m : Mark) → of (as_child m) ≡ of m) → (cs : List ℕ) (ms : List Mark) (j : ℕ) (d : Mark) → of (get_or (adopted cs ms) j d) ≡ of (get_or ms j d)
kept-adopted of same [] ms j d = refl
kept-adopted of same (c ∷ cs) ms j d = kept-adopted of same cs (adopt c ms) j d ∙ stays of same c ms j d

listed_more : (c j : ℕ) (cs : List ℕ) → count_by (λ x. x == j) (c ∷ cs) ≡ cond (eqb c j) 1 0 + count_by (λ x. x == j) cs
listed_more c j cs = sum_by-cons (λ x. cond (x == j) 1 0) c cs

after_one : (c j : ℕ) (ms : List Mark) (d : Mark) → c < length ms → IsTrue (get_or (adopt c ms) j d).is_child ↔ (IsTrue (get_or ms j d).is_child ⊎ (c ≡ j))
after_one c j ms d h =
    elim (cases_eq c j) [
      | inl same ↦ (λ p. inr same, λ p. subst (λ k. (get_or (adopt c ms) k d).is_child ≡ true) same (is_child_then c ms d h))
      | inr other ↦
          let stays : (get_or (adopt c ms) j d).is_child ≡ (get_or ms j d).is_child = ap (λ m. m.is_child) (others_stay c ms j d other) in
          (λ p. inl (sym stays ∙ p), λ p. elim p [ inl q ↦ stays ∙ q | inr same ↦ absurd (other same) ])
    ]

-- who has a parent then: who had one, and who is listed
pub is_child-adopted : (cs : List ℕ) (ms : List Mark) (j : ℕ) (d : Mark) → AllByRecursion (λ c. c < length ms) cs →
    IsTrue (get_or (adopted cs ms) j d).is_child ↔ (IsTrue (get_or ms j d).is_child ⊎ (0 < count_by (λ x. x == j) cs))
is_child-adopted [] ms j d h = (λ p. inl p, λ p. elim p [ inl q ↦ q | inr q ↦ absurd (omega arith) ])
is_child-adopted (c ∷ cs) ms j d h =
    let within : AllByRecursion (λ x. x < length (adopt c ms)) cs = subst (λ n. AllByRecursion (λ x. x < n) cs) (sym (length-adopt c ms)) h.1 in
    let then_on = is_child-adopted cs (adopt c ms) j d within in
    let one = after_one c j ms d h.0 in
    let count = listed_more c j cs in (
      λ p. elim (then_on.0 p) [
        | inl q ↦ elim (one.0 q) [ inl old ↦ inl old | inr same ↦ inr (grind (arith, nat_tests, count, same)) ]
        | inr more ↦ inr (omega (arith, count, more))
      ],
      λ p. then_on.1 elim p [
        | inl old ↦ inl (one.1 (inl old))
        | inr some ↦ elim (cases_eq c j) [ inl same ↦ inl (one.1 (inr same)) | inr other ↦ inr (grind (arith, nat_tests, count, some, other)) ]
      ],
    )

-- a write to the mark of a child
adopt_at : (i : ℕ) (ms : List Mark) (m : Mark) → m ≡ get_or ms i m → i < length ms → set ms i (as_child m) ≡ adopt i ms
adopt_at i ms m e h = let P : Mark → Type 0 = λ x. set ms i (as_child x) ≡ adopt i ms in subst P (sym e) (adopt_is_set i ms m h)

-- the writes to the marks of two, one after the other
pub adopt_two : (a b : ℕ) (ms : List Mark) (m n : Mark) → m ≡ get_or ms a m → n ≡ get_or (set ms a (as_child m)) b n → a < length ms → b < length ms →
    set (set ms a (as_child m)) b (as_child n) ≡ adopt b (adopt a ms)
adopt_two a b ms m n e e' h k =
    let first : set ms a (as_child m) ≡ adopt a ms = adopt_at a ms m e h in
    let P : List Mark → Type 0 = λ xs. n ≡ get_or xs b n in
    rw first (adopt_at b (adopt a ms) n (subst P first e') (omega (arith, k, length-adopt a ms)))

-- ---- counts of the marks

-- one that gets a parent counts no more
open_less : (of : Mark → ℕ) (i : ℕ) (ms : List Mark) (d : Mark) → i < length ms → (get_or ms i d).is_child ≡ false →
    sum_by (open_count of) (adopt i ms) + of (get_or ms i d) ≡ sum_by (open_count of) ms
open_less of i [] d h free = absurd (omega arith)
open_less of zero (m ∷ ms) d h free =
    let counts : open_count of m ≡ of m = ap (λ b. cond b 0 (of m)) free in
    omega (arith, counts, sum_by-cons (open_count of) m ms, sum_by-cons (open_count of) (as_child m) ms)
open_less of (suc i) (m ∷ ms) d h free =
    omega (arith, open_less of i ms d (omega arith) free, sum_by-cons (open_count of) m ms, sum_by-cons (open_count of) m (adopt i ms))

-- nor do two
pub open_two_less : (of : Mark → ℕ) → ((m : Mark) → of (as_child m) ≡ of m) → (a b : ℕ) (ms : List Mark) (d : Mark) → a ≢ b → a < length ms → b < length ms →
    (get_or ms a d).is_child ≡ false → (get_or ms b d).is_child ≡ false →
    sum_by (open_count of) (adopted (a ∷ b ∷ []) ms) + (of (get_or ms a d) + of (get_or ms b d)) ≡ sum_by (open_count of) ms
open_two_less of same a b ms d differ ha hb free_a free_b =
    let still : get_or (adopt a ms) b d ≡ get_or ms b d = others_stay a ms b d differ in
    omega (arith, open_less of a ms d ha free_a, open_less of b (adopt a ms) d (omega (arith, hb, length-adopt a ms)) (ap (λ m. m.is_child) still ∙ free_b), ap of still)

adopt_front : (i : ℕ) (ms : List Mark) (m : Mark) → i < length ms → adopt i (ms ++ m ∷ []) ≡ adopt i ms ++ m ∷ []
adopt_front i [] m h = absurd (omega arith)
adopt_front zero (n ∷ ms) m h = refl
adopt_front (suc i) (n ∷ ms) m h = ap (λ xs. n ∷ xs) (adopt_front i ms m (omega arith))

-- parents of the others leave the last mark
pub adopted_front : (cs : List ℕ) (ms : List Mark) (m : Mark) → AllByRecursion (λ c. c < length ms) cs → adopted cs (ms ++ m ∷ []) ≡ adopted cs ms ++ m ∷ []
adopted_front [] ms m h = refl
adopted_front (c ∷ cs) ms m h =
    ap (adopted cs) (adopt_front c ms m h.0) ∙ adopted_front cs (adopt c ms) m (subst (λ n. AllByRecursion (λ x. x < n) cs) (sym (length-adopt c ms)) h.1)
