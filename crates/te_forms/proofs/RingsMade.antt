-- When a list of channels is a ring, and what a ring keeps.
use Rattle.std.proofs.Common.{◌≡◌, ◌≢◌, ◌⊎◌, inl, inr, ℕ, zero, suc, ◌+◌, ◌-◌, ◌<◌, ◌≤◌, List, [], ◌∷◌, length, take}
use Rattle.std.proofs.Common.{set, Bool, cond, eq-eqb, ne_eqb, Option, Some, None, refl, sym, ap, subst, ◌∙◌, add-one}
use Rattle.std.proofs.Common.{arith}
use Rattle.std.specs.Prelude.{slice_get, slice_index}
use Rattle.std.specs.Option.{option_map}
use Rattle.std.proofs.lemmas.Bool.{cases_lt}
use Rattle.std.proofs.Math.ListN.{length-set}
use Rattle.std.proofs.lemmas.Option.{slice_get_within}
use Rattle.te_forms.specs.Rings.{IsRing, IsOnRing, role_before}
use Rattle.te_forms.specs.Keeping.{PlacesAreKept}
use Rattle.te_forms.specs.Reading.{last_channel, role_on}
use Rattle.te_forms.proofs.Moves.{in_ring}

-- the first so many are low and differ, and are kept
pub record SoFar (channels kept : List ℕ) (i : ℕ) : Type 0 where
  pub same : take i kept ≡ take i channels
  pub low : (k : ℕ) → k < i → slice_index channels k < 256
  pub apart : (j k : ℕ) → j < k → k < i → slice_index channels j ≢ slice_index channels k
  pub places : length kept ≡ 64

at_index : (xs : List ℕ) (i c : ℕ) → slice_get xs i ≡ Some c → slice_index xs i ≡ c
at_index [] i c at = absurd cc
at_index (x ∷ xs) zero c at = cc
at_index (x ∷ xs) (suc i) c at = at_index xs i c at

kept_one : (xs ys : List ℕ) (k : ℕ) → k < length ys → k < length xs → take k xs ≡ take k ys → take (suc k) (set xs k (slice_index ys k)) ≡ take (suc k) ys
kept_one [] ys k a b e = absurd (omega (arith, b))
kept_one (x ∷ xs) [] k a b e = absurd (omega (arith, a))
kept_one (x ∷ xs) (y ∷ ys) zero a b e = refl
kept_one (x ∷ xs) (y ∷ ys) (suc k) a b e =
    let first : x ≡ y = cc in
    let rest : take k xs ≡ take k ys = cc in
    let more = kept_one xs ys k (omega (arith, a)) (omega (arith, b)) rest in
    λ i. first i ∷ more i

module _ (channels : List ℕ) where
  pub is_made : (kept : List ℕ) → 2 ≤ length channels → length channels ≤ 64 → SoFar channels kept (length channels) → IsRing channels
  is_made kept some few so_far = record {
    some = some;
    few = few;
    low = λ i c at. let lt = slice_get_within channels i c at in let low = so_far.low i lt in let is = at_index channels i c at in omega (arith, low, is);
    different = λ i j c at also. by_order i j c at also (cases_lt i j) (cases_lt j i);
  }
    where
      by_order : (i j c : ℕ) → slice_get channels i ≡ Some c → slice_get channels j ≡ Some c → (i < j) ⊎ (j ≤ i) → (j < i) ⊎ (i ≤ j) → i ≡ j
      by_order i j c at also (inl lt) _ =
          absurd (so_far.apart i j lt (slice_get_within channels j c also) (at_index channels i c at ∙ sym (at_index channels j c also)))
      by_order i j c at also (inr ge) (inl lt) =
          absurd (so_far.apart j i lt (slice_get_within channels i c at) (at_index channels j c also ∙ sym (at_index channels i c at)))
      by_order i j c at also (inr ge) (inr le) = omega (arith, ge, le)

  pub too_high : (i : ℕ) → i < length channels → 256 ≤ slice_index channels i → ¬ IsRing channels
  too_high i lt high ring = let low = ring.low i (slice_index channels i) (in_ring channels i lt) in omega (arith, low, high)

  earlier : (i : ℕ) (xs : List ℕ) (k c : ℕ) → slice_get (take i xs) k ≡ Some c → (slice_get xs k ≡ Some c) × (k < i)
  earlier zero xs k c at = absurd cc
  earlier (suc i) [] k c at = absurd cc
  earlier (suc i) (x ∷ xs) zero c at = (at, omega arith)
  earlier (suc i) (x ∷ xs) (suc k) c at = let rest = earlier i xs k c at in (rest.0, omega (arith, rest.1))

  pub twice : (i : ℕ) → i < length channels → IsOnRing (take i channels) (slice_index channels i) → ¬ IsRing channels
  twice i lt among ring =
      let before = earlier i channels among.0 (slice_index channels i) among.1 in
      let same = ring.different among.0 i (slice_index channels i) before.0 (in_ring channels i lt) in
      let less = before.1 in
      omega (arith, same, less)

  pub too_short : length channels < 2 → ¬ IsRing channels
  too_short lt ring = let some = ring.some in omega (arith, some, lt)

  pub too_long : 64 < length channels → ¬ IsRing channels
  too_long lt ring = let few = ring.few in omega (arith, few, lt)

  in_take : (i : ℕ) (xs : List ℕ) (k : ℕ) → k < i → k < length xs → slice_get (take i xs) k ≡ Some (slice_index xs k)
  in_take zero xs k lt within = absurd (omega (arith, lt))
  in_take (suc i) [] k lt within = absurd (omega (arith, within))
  in_take (suc i) (x ∷ xs) zero lt within = refl
  in_take (suc i) (x ∷ xs) (suc k) lt within = in_take i xs k (omega (arith, lt)) (omega (arith, within))

  -- one more
  pub one_so_far : (kept : List ℕ) (i : ℕ) → i < length channels → i < length kept → slice_index channels i < 256 → ¬ IsOnRing (take i channels) (slice_index channels i)
      → SoFar channels kept i → SoFar channels (set kept i (slice_index channels i)) (i + 1)
  one_so_far kept i lt within low new so_far = record {
    same = kept_more kept channels i lt within so_far.same;
    low = λ k less. by_last_low k (cases_lt k i) less;
    apart = λ j k less before. by_last j k less (cases_lt k i) before;
    places = length-set kept i (slice_index channels i) ∙ so_far.places;
  }
    where
      kept_more : (xs ys : List ℕ) (k : ℕ) → k < length ys → k < length xs → take k xs ≡ take k ys → take (k + 1) (set xs k (slice_index ys k)) ≡ take (k + 1) ys
      kept_more xs ys k a b e = rw (add-one k) (kept_one xs ys k a b e)

      by_last_low : (k : ℕ) → (k < i) ⊎ (i ≤ k) → k < i + 1 → slice_index channels k < 256
      by_last_low k (inl less) _ = so_far.low k less
      by_last_low k (inr more) less = let same : i ≡ k = omega (arith, more, less) in subst (λ (n : ℕ). slice_index channels n < 256) same low

      by_last : (j k : ℕ) → j < k → (k < i) ⊎ (i ≤ k) → k < i + 1 → slice_index channels j ≢ slice_index channels k
      by_last j k less (inl earlier_one) _ = so_far.apart j k less earlier_one
      by_last j k less (inr more) before = λ same.
          let last : k ≡ i = omega (arith, more, before) in
          let first : j < i = omega (arith, less, last) in
          new (j, in_take i channels j first (omega (arith, first, lt)) ∙ ap Some (same ∙ ap (slice_index channels) last))

take_whole : (xs : List ℕ) → take (length xs) xs ≡ xs
take_whole [] = refl
take_whole (x ∷ xs) = ap (λ (ys : List ℕ). x ∷ ys) (take_whole xs)

-- all are kept
module _ (channels kept : List ℕ) (i : ℕ) (past : length channels ≤ i) (within : i ≤ length channels) (some : 2 ≤ length channels) (few : length channels ≤ 64) (so_far : SoFar channels kept i) where
  all_so_far : SoFar channels kept (length channels)
  all_so_far = let same : i ≡ length channels = omega (arith, past, within) in subst (SoFar channels kept) same so_far

  pub ring_made : IsRing channels
  ring_made = is_made channels kept some few all_so_far

  pub ring_kept : PlacesAreKept (length channels) kept
  ring_kept =
      let all : take (length channels) kept ≡ channels = all_so_far.same ∙ take_whole channels in
      record { as_long = ap length all; ring = subst IsRing (sym all) ring_made }

-- ---- the roles of a ring

-- the last channel, by the length
pub last_of : (ring : List ℕ) (len : ℕ) → len ≡ length ring → slice_index ring (len - 1) ≡ last_channel ring
last_of ring len as_long = ap (λ (n : ℕ). slice_index ring (n - 1)) as_long

pub first_before : (ring : List ℕ) (role c : ℕ) → role ≡ 0 → c ≡ last_channel ring → c ≡ slice_index ring (role_before (length ring) role)
first_before ring role c first is = is ∙ ap (λ (r : ℕ). slice_index ring (role_before (length ring) r)) (sym first)

-- the first role with a channel
pub role_here : (ring : List ℕ) (c i : ℕ) → i < length ring → ((k : ℕ) → k < i → slice_index ring k ≢ c) → slice_index ring i ≡ c → role_on ring c ≡ Some i
role_here [] c i lt none is = absurd (omega (arith, lt))
role_here (d ∷ ds) c zero lt none is = ap (λ (b : Bool). cond {A = Option ℕ} b (Some 0) (option_map suc (role_on ds c))) (eq-eqb d c is)
role_here (d ∷ ds) c (suc i) lt none is =
    let apart : d ≢ c = none 0 (omega arith) in
    let rest = role_here ds c i (omega (arith, lt)) (λ k less. none (suc k) (omega (arith, less))) is in
    ap (λ (b : Bool). cond {A = Option ℕ} b (Some 0) (option_map suc (role_on ds c))) (ne_eqb d c apart) ∙ ap (option_map suc) rest

pub role_nowhere : (ring : List ℕ) (c i : ℕ) → length ring ≤ i → ((k : ℕ) → k < i → slice_index ring k ≢ c) → role_on ring c ≡ None
role_nowhere [] c i past none = refl
role_nowhere (d ∷ ds) c zero past none = absurd (omega (arith, past))
role_nowhere (d ∷ ds) c (suc i) past none =
    let apart : d ≢ c = none 0 (omega arith) in
    let rest = role_nowhere ds c i (omega (arith, past)) (λ k less. none (suc k) (omega (arith, less))) in
    ap (λ (b : Bool). cond {A = Option ℕ} b (Some 0) (option_map suc (role_on ds c))) (ne_eqb d c apart) ∙ ap (option_map suc) rest
