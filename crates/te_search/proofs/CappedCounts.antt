-- Sums and products of a list's counts that stay at a most.
use Rattle.std.proofs.Common.{◌≡◌, ◌≤◌, ◌<◌, ◌⊎◌, inl, inr, ℕ, zero, suc, ◌+◌, ◌*◌, ◌^◌, min, List, [], ◌∷◌, ◌++◌, map}
use Rattle.std.proofs.Common.{take, length, Some, slice_get, refl, ap, ap₂, sym, ◌∙◌, subst, arith, le_trans, le_of_lt}
use Rattle.std.proofs.Common.{mul_assoc, mul_comm, mul-one, add-zero, add_assoc}
use Rattle.std.proofs.Math.Nat.{min-eq_left, min-eq_right, min-le_left, le-mul_of_pos_right, pow-zero, pow-suc}
use Rattle.std.proofs.lemmas.Nat.{pow-add}
use Rattle.std.proofs.lemmas.Bool.{cases_lt}
use native.Mathlib.Numerals.{unary_clauses}
use Rattle.te_terms.specs.declared.event.Parked.{Parked}
use Rattle.te_terms.specs.Terms.{Term}
use Rattle.te_terms.specs.Measures.{choice_count, send_count, receive_count}
use Rattle.te_terms.specs.Steps.{Member}
use Rattle.te_terms.specs.Joint.{as_member, as_group}
use Rattle.te_trail.proofs.EventsFound.{one_more}
use Rattle.te_search.specs.Bounds.{over_all, views_most, paths_most, enough_for}

-- ---- staying at a most

-- what is at most m times b, or m, is what the whole times b is
pub capped_times : (a b m : ℕ) → min (min a m * b) m ≡ min (a * b) m
capped_times a b m = go (cases_lt m a)
  where
    beyond : (m < a) → (k : ℕ) → min (min a m * k) m ≡ min (a * k) m
    beyond h zero = rw (min-eq_right (le_of_lt h)) (simp unary_clauses refl)
    beyond h (suc k) =
        let low : m ≤ m * suc k = le-mul_of_pos_right m (let z : 0 < suc k = omega arith in z) in
        let high : a ≤ a * suc k = le-mul_of_pos_right a (let z : 0 < suc k = omega arith in z) in
        ap (λ n. min (n * suc k) m) (min-eq_right (le_of_lt h)) ∙ min-eq_right low ∙ sym (min-eq_right (le_trans (le_of_lt h) high))

    go : (m < a) ⊎ (a ≤ m) → min (min a m * b) m ≡ min (a * b) m
    go (inl h) = beyond h b
    go (inr h) = ap (λ n. min (n * b) m) (min-eq_left h)

pub times_capped : (a b m : ℕ) → min (a * min b m) m ≡ min (a * b) m
times_capped a b m = ap (λ n. min n m) (mul_comm a (min b m)) ∙ capped_times b a m ∙ ap (λ n. min n m) (mul_comm b a)

pub capped_plus : (a b m : ℕ) → min (min a m + b) m ≡ min (a + b) m
capped_plus a b m = go (cases_lt m a)
  where
    go : (m < a) ⊎ (a ≤ m) → min (min a m + b) m ≡ min (a + b) m
    go (inl h) =
        let low : m ≤ m + b = omega arith in
        let high : m ≤ a + b = omega (arith, h) in
        ap (λ n. min (n + b) m) (min-eq_right (le_of_lt h)) ∙ min-eq_right low ∙ sym (min-eq_right high)
    go (inr h) = ap (λ n. min (n + b) m) (min-eq_left h)

pub capped_next : (a m : ℕ) → min a m + 1 ≡ min (a + 1) (m + 1)
capped_next a m = go (cases_lt m a)
  where
    go : (m < a) ⊎ (a ≤ m) → min a m + 1 ≡ min (a + 1) (m + 1)
    go (inl h) = let more : m + 1 ≤ a + 1 = omega (arith, h) in ap (λ n. n + 1) (min-eq_right (le_of_lt h)) ∙ sym (min-eq_right more)
    go (inr h) = let more : a + 1 ≤ m + 1 = omega (arith, h) in ap (λ n. n + 1) (min-eq_left h) ∙ sym (min-eq_left more)

pub one_power_more : (a n k m : ℕ) → min (min (a * n ^ k) m * n) m ≡ min (a * n ^ (k + 1)) m
one_power_more a n k m =
    let is : n ^ (k + 1) ≡ n ^ k * n = ap (λ j. n ^ j) (let z : k + 1 ≡ suc k = omega arith in z) ∙ pow-suc n k in
    capped_times (a * n ^ k) n m ∙ ap (λ x. min x m) (mul_assoc a (n ^ k) n ∙ ap (λ x. a * x) (sym is))

-- a factor that stays at the most
pub capped_power : (a b k m : ℕ) → min (a * min b m ^ k) m ≡ min (a * b ^ k) m
capped_power a b zero m = ap (λ n. min (a * n) m) (pow-zero (min b m) ∙ sym (pow-zero b))
capped_power a b (suc k) m =
    ap (λ n. min n m) (ap (λ n. a * n) (pow-suc (min b m) k) ∙ sym (mul_assoc a (min b m ^ k) (min b m))) ∙ times_capped (a * min b m ^ k) b m
    ∙ sym (capped_times (a * min b m ^ k) b m) ∙ ap (λ n. min (n * b) m) (capped_power a b k m) ∙ capped_times (a * b ^ k) b m
    ∙ ap (λ n. min n m) (mul_assoc a (b ^ k) b ∙ ap (λ n. a * n) (sym (pow-suc b k)))

-- ---- one member more

over_more : (count : Term → ℕ) (g : List Member) (m : Member) → over_all count (g ++ (m ∷ [])) ≡ over_all count g + count m.term
over_more count [] m = omega arith
over_more count (x ∷ g) m = omega (arith, over_more count g m)

pub over_next : (count : Term → ℕ) (ps : List Parked) (i : ℕ) (p : Parked) → slice_get ps i ≡ Some p
    → over_all count (as_group (take (i + 1) ps)) ≡ over_all count (as_group (take i ps)) + count p.event
over_next count ps i p e = ap (over_all count) (sym (one_more ps i p e)) ∙ over_more count (as_group (take i ps)) (as_member p)

-- ---- what the counts of a list come to

swap : (a b x y : ℕ) → (a * b) * (x * y) ≡ (a * x) * (b * y)
swap a b x y =
    mul_assoc a b (x * y) ∙ ap (λ n. a * n) (sym (mul_assoc b x y) ∙ ap (λ n. n * y) (mul_comm b x) ∙ mul_assoc x b y) ∙ sym (mul_assoc a x (b * y))

pub grown_next : (n f c s x y m : ℕ) → min (min (min (n * (3 ^ c * f ^ s)) m * 3 ^ x) m * f ^ y) m ≡ min (n * (3 ^ (c + x) * f ^ (s + y))) m
grown_next n f c s x y m =
    capped_times (min (n * (3 ^ c * f ^ s)) m * 3 ^ x) (f ^ y) m
    ∙ ap (λ k. min k m) (mul_assoc (min (n * (3 ^ c * f ^ s)) m) (3 ^ x) (f ^ y))
    ∙ capped_times (n * (3 ^ c * f ^ s)) (3 ^ x * f ^ y) m
    ∙ ap (λ k. min k m) (mul_assoc n (3 ^ c * f ^ s) (3 ^ x * f ^ y) ∙ ap (λ k. n * k) (swap (3 ^ c) (f ^ s) (3 ^ x) (f ^ y)
    ∙ ap₂ (λ i j. i * j) (sym (pow-add 3 c x)) (sym (pow-add f s y))))

pub as_long : (ps : List Parked) → length (as_group ps) ≡ length ps
as_long [] = refl
as_long (p ∷ ps) = ap suc (as_long ps)

pub paths_capped : (ps : List Parked) (m : ℕ) → min (min (length ps) (m + 1) *
    (3 ^ over_all choice_count (as_group ps) * (min (over_all receive_count (as_group ps)) m + 1) ^ over_all send_count
    (as_group ps))) (m + 1)
    ≡ min (paths_most (as_group ps)) (m + 1)
paths_capped ps m =
    let c : ℕ = over_all choice_count (as_group ps) in
    let r : ℕ = over_all receive_count (as_group ps) in
    let s : ℕ = over_all send_count (as_group ps) in
    capped_times (length ps) (3 ^ c * (min r m + 1) ^ s) (m + 1)
    ∙ ap (λ k. min k (m + 1)) (sym (mul_assoc (length ps) (3 ^ c) ((min r m + 1) ^ s)) ∙ ap (λ k. (length ps * 3 ^ c) * k ^ s) (capped_next r m))
    ∙ capped_power (length ps * 3 ^ c) (r + 1) s (m + 1)
    ∙ ap (λ k. min k (m + 1)) (mul_assoc (length ps) (3 ^ c) ((r + 1) ^ s) ∙ ap (λ k. k * (3 ^ c * (r + 1) ^ s)) (sym (as_long ps)))

-- below the most a number is as it is
pub below_most : (a b : ℕ) → a ≡ min b 1000001 → a ≤ 500000 → a ≡ b
below_most a b e h = go (cases_lt 1000001 b)
  where
    go : (1000001 < b) ⊎ (b ≤ 1000001) → a ≡ b
    go (inl l) = absurd (omega (arith, h, e, min-eq_right (le_of_lt l)))
    go (inr l) = e ∙ min-eq_left l

pub above_half : (a b : ℕ) → a ≡ min b 1000001 → 500000 < a → 1000000 < 2 * b
above_half a b e h = omega (arith, h, e, min-le_left b 1000001)
