-- Facts of all items of a list, by their places.
use Rattle.std.proofs.Common.{◌≡◌, ℕ, zero, suc, ◌+◌, ◌<◌, ◌≤◌, ◌⊎◌, inl, inr, length, get_or, List, [], ◌∷◌, Some, refl, ap, sym, ◌∙◌, subst, arith}
use Rattle.std.specs.List.{slice_get, AllByRecursion}
use Rattle.std.proofs.lemmas.Bool.{cases_lt}
use Rattle.std.proofs.lemmas.Option.{slice_get_past}
use Rattle.te_terms.proofs.Lists.{all_at, get_at}

pub all_by_places : {A : Type 0} (P : A → Type 0) (xs : List A) → ((k : ℕ) (x : A) → slice_get xs k ≡ Some x → P x) → AllByRecursion P xs
all_by_places P [] each = tt
all_by_places P (x ∷ xs) each = (each 0 x refl, all_by_places P xs (λ k. each (suc k)))

-- what holds before a place, and at it, holds before the next
pub before_next : {A : Type 0} (P : A → Type 0) (xs : List A) (i : ℕ) (x : A) → slice_get xs i ≡ Some x → P x
    → ((k : ℕ) (y : A) → k < i → slice_get xs k ≡ Some y → P y)
    → (k : ℕ) (y : A) → k < i + 1 → slice_get xs k ≡ Some y → P y
before_next P xs i x at here before k y low is = by_side (cases_lt k i)
  where
    by_side : (k < i) ⊎ (i ≤ k) → P y
    by_side (inl lower) = before k y lower is
    by_side (inr last) =
        let one : k ≡ i = omega arith in
        let both : Some x ≡ Some y = sym at ∙ ap (slice_get xs) (sym one) ∙ is in
        let same : x ≡ y = cc in
        subst P same here

-- lists with the same items at all places are one
pub same_by_places : {A : Type 0} (xs ys : List A) → ((k : ℕ) → slice_get xs k ≡ slice_get ys k) → xs ≡ ys
same_by_places [] [] each = refl
same_by_places [] (y ∷ ys) each = let clash = each 0 in absurd cc
same_by_places (x ∷ xs) [] each = let clash = each 0 in absurd cc
same_by_places (x ∷ xs) (y ∷ ys) each =
    let first : Some x ≡ Some y = each 0 in
    let rest : xs ≡ ys = same_by_places xs ys (λ k. each (suc k)) in
    cc

pub same_up_to : {A : Type 0} (xs ys : List A) (n : ℕ) → length xs ≤ n → length ys ≤ n → ((k : ℕ) → k < n → slice_get xs k ≡ slice_get ys k) → xs ≡ ys
same_up_to xs ys n short short' before =
    same_by_places xs ys (λ k. elim (cases_lt k n) [
      | inl low ↦ before k low
      | inr past ↦ slice_get_past xs k (omega (arith, past, short)) ∙ sym (slice_get_past ys k (omega (arith, past, short')))
    ])
