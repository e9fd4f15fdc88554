-- Where no look was refused, each path of a batch has its look.
use Rattle.std.proofs.Common.{◌≡◌, ◌≢◌, ◌<◌, ℕ, zero, suc, ◌+◌, Bool, true, false, eqb, List, [], ◌∷◌, ◌++◌, length, map, Option, Some, None, All, slice_get, refl, sym, ap, ◌∙◌, ⊎_elim, arith}
use Rattle.std.proofs.lemmas.Bool.Decides.{eqb_tells}
use Rattle.std.specs.List.{concat}
use Rattle.std.proofs.lemmas.Option.{get_or_from_slice_get, slice_get_within}
use Rattle.te_search.specs.declared.batched.Look.{Look}
use Rattle.te_search.specs.Batches.{Batches}
use Rattle.te_steal.specs.Relays.{one_where, occurrences, ThiefOf, took_by}
use Rattle.te_steal.specs.Stolen.{AreLooksAt, IsLookedAt}
use Rattle.te_steal.proofs.OrderKept.{occurrences_append}

-- what was pushed was taken by the owner or a thief, or is left
pub all_looked_at : (s : Batches) (batch pushed own left : List ℕ) (thieves : List ThiefOf) (looks : List (Option Look)) (whole : Bool)
    → AreLooksAt s batch ((own ++ concat (map took_by thieves)) ++ left) looks whole → whole ≡ true
    → ((n : ℕ) → occurrences n pushed ≡ occurrences n own + occurrences n (concat (map took_by thieves)) + occurrences n left)
    → ((k : ℕ) → k < length batch → 0 < occurrences k pushed) → IsLookedAt batch looks
all_looked_at s batch pushed own left thieves looks whole are none counts all k low =
    let count = counts k in
    let more = all k low in
    let first = occurrences_append k (own ++ concat (map took_by thieves)) left in
    let second = occurrences_append k own (concat (map took_by thieves)) in
    are.there none k low (omega (arith, count, more, first, second))

none_there : (looks : List (Option Look)) (k : ℕ) (look : Look) → All (λ one. one ≡ None) looks → slice_get looks k ≡ Some (Some look) → ⊥
none_there looks k look none there =
    let low = slice_get_within looks k (Some look) there in
    let is : None ≡ Some look = sym (none k None low) ∙ get_or_from_slice_get looks k (Some look) None there in
    absurd cc

-- nothing was taken, and there is no look
pub no_look_yet : (s : Batches) (batch took : List ℕ) (looks : List (Option Look)) → length looks ≡ length batch
    → All (λ one. one ≡ None) looks → took ≡ [] → AreLooksAt s batch took looks true
no_look_yet s batch took looks count none nothing = record {
  count = count;
  seen = λ k p l path there. absurd (none_there looks k l none there);
  there = λ all k low more. absurd (omega (arith, ap (occurrences k) nothing, more));
}

-- one place more is pushed
pub one_more_pushed : (pushed pushed' : List ℕ) (i : ℕ) → pushed' ≡ pushed ++ i ∷ [] → ((k : ℕ) → k < i → 0 < occurrences k pushed)
    → (k : ℕ) → k < i + 1 → 0 < occurrences k pushed'
one_more_pushed pushed pushed' i is below k low =
    let now = ap (occurrences k) is in
    let parts = occurrences_append k pushed (i ∷ []) in
    ⊎_elim
    (λ (same : (eqb k i ≡ true) × (k ≡ i)). let one = ap one_where same.0 in omega (arith, now, parts, one))
    (λ (other : (eqb k i ≡ false) × (k ≢ i)). let before = below k (under k i low other.1) in omega (arith, now, parts, before))
    (eqb_tells k i)
  where
    under : (k i : ℕ) → k < i + 1 → k ≢ i → k < i
    under zero zero low other = absurd (other refl)
    under zero (suc i) low other = omega arith
    under (suc k) zero low other = absurd (omega (arith, low))
    under (suc k) (suc i) low other = (let rest = under k i (omega (arith, low)) (λ same. other (ap suc same)) in omega (arith, rest))
