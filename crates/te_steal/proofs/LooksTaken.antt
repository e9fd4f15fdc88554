-- What a look at the path of one more place adds.
use Rattle.std.proofs.Common.{◌≡◌, ◌≢◌, ◌⊎◌, ◌<◌, ◌≤◌, ℕ, zero, suc, Bool, false, true≢false}
use Rattle.std.proofs.Common.{List, [], ◌∷◌, ◌++◌, length, Option, Some, slice_get, set, refl, sym, ap, ◌∙◌, subst, inl, inr, ⊎_elim, arith}
use Rattle.std.proofs.lemmas.Bool.Decides.{eqb_tells}
use Rattle.std.proofs.lemmas.List.{length-set}
use Rattle.te_search.specs.declared.batched.Look.{Look}
use Rattle.te_search.specs.Batches.{Batches, IsLook}
use Rattle.te_steal.specs.Relays.{one_where, occurrences}
use Rattle.te_steal.specs.Stolen.{AreLooksAt, HasLook}
use Rattle.te_steal.proofs.OrderKept.{occurrences_append}

occurs_before_last : (k p : ℕ) (took : List ℕ) → 0 < occurrences k (took ++ p ∷ []) → (0 < occurrences k took) ⊎ (k ≡ p)
occurs_before_last k p took more =
    let parts = occurrences_append k took (p ∷ []) in
    ⊎_elim (λ is. inr is.1) (λ other. inl (let none = ap one_where other.0 in omega (arith, parts, none, more))) (eqb_tells k p)

-- ---- an item that is put at a place

pub is_here : {A : Type 0} (xs : List A) (i : ℕ) (x : A) → i < length xs → slice_get (set xs i x) i ≡ Some x
is_here [] i x low = absurd (omega (arith, low))
is_here (y ∷ ys) zero x low = refl
is_here (y ∷ ys) (suc i) x low = is_here ys i x (omega (arith, low))

pub as_before : {A : Type 0} (xs : List A) (i k : ℕ) (x : A) → k ≢ i → slice_get (set xs i x) k ≡ slice_get xs k
as_before [] i k x other = refl
as_before (y ∷ ys) zero zero x other = absurd (other refl)
as_before (y ∷ ys) zero (suc k) x other = refl
as_before (y ∷ ys) (suc i) zero x other = refl
as_before (y ∷ ys) (suc i) (suc k) x other = as_before ys i k x (λ same. other (ap suc same))

pub same_place : (i k : ℕ) → (k ≡ i) ⊎ (k ≢ i)
same_place i k = ⊎_elim (λ is. inl is.1) (λ other. inr other.1) (eqb_tells k i)

pub some_same : {A : Type 0} (x y : A) → Some x ≡ Some y → x ≡ y
some_same x y is = cc

pub look_here : (looks : List (Option Look)) (i : ℕ) (look : Look) → i < length looks → HasLook (set looks i (Some look)) i
look_here looks i look low = (look, is_here looks i (Some look) low)

pub look_stays : (looks : List (Option Look)) (i k : ℕ) (look : Look) → i < length looks → HasLook looks k
    → HasLook (set looks i (Some look)) k
look_stays looks i k look low has =
    ⊎_elim (λ (is : k ≡ i). subst (λ j. HasLook (set looks i (Some look)) j) (sym is) (look_here looks i look low))
    (λ other. (has.0, as_before looks i k (Some look) other ∙ has.1)) (same_place i k)

-- ---- what was taken

-- a place past the batch has no path
pub past_the_batch : (s : Batches) (batch took : List ℕ) (looks : List (Option Look)) (whole : Bool) (p : ℕ) → length batch ≤ p
    → AreLooksAt s batch took looks whole → AreLooksAt s batch (took ++ p ∷ []) looks whole
past_the_batch s batch took looks whole p past are = record {
  count = are.count;
  seen = are.seen;
  there = λ all k low more.
      ⊎_elim (are.there all k low) (λ (is : k ≡ p). absurd (omega (arith, is, low, past))) (occurs_before_last k p took more);
}

-- a look was refused
pub one_refused : (s : Batches) (batch took : List ℕ) (looks : List (Option Look)) (whole : Bool) (p : ℕ)
    → AreLooksAt s batch took looks whole → AreLooksAt s batch (took ++ p ∷ []) looks false
one_refused s batch took looks whole p are = record {
  count = are.count;
  seen = are.seen;
  there = λ all. absurd (true≢false (sym all));
}

pub one_seen : (s : Batches) (batch took : List ℕ) (looks : List (Option Look)) (whole : Bool) (p : ℕ) (look : Look) → p < length batch
    → ((q : ℕ) → slice_get batch p ≡ Some q → IsLook s q look)
    → AreLooksAt s batch took looks whole → AreLooksAt s batch (took ++ p ∷ []) (set looks p (Some look)) whole
one_seen s batch took looks whole p look low is_look are =
    let wide : p < length looks = (let count = are.count in omega (arith, low, count)) in record {
      count = length-set looks p (Some look) ∙ are.count;
      seen = λ k q l path there.
          ⊎_elim
          (λ (is : k ≡ p).
          let here : slice_get (set looks p (Some look)) p ≡ Some (Some l) = subst (λ j. slice_get (set looks p (Some look)) j ≡ Some (Some l)) is there in
          let same : look ≡ l = some_same look l (some_same (Some look) (Some l) (sym (is_here looks p (Some look) wide) ∙ here)) in
          subst (λ x. IsLook s q x) same (is_look q (subst (λ j. slice_get batch j ≡ Some q) is path)))
          (λ other. are.seen k q l path (sym (as_before looks p k (Some look) other) ∙ there))
          (same_place p k);
      there = λ all k in_batch more.
          ⊎_elim (λ before. look_stays looks p k look wide (are.there all k in_batch before))
          (λ (is : k ≡ p). subst (λ j. HasLook (set looks p (Some look)) j) (sym is) (look_here looks p look wide))
          (occurs_before_last k p took more);
    }
