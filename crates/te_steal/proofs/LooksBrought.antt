-- Looks that are brought from another, place by place, from the last one on.
use Rattle.std.proofs.Common.{◌≡◌, ◌≢◌, ◌⊎◌, ◌<◌, ◌≤◌, ◌+◌, ℕ, zero, suc, Bool, true, false, ◌&&◌, true≢false}
use Rattle.std.proofs.Common.{List, [], ◌∷◌, ◌++◌, length, map, Option, Some, None, slice_get, set, refl, sym, ap, ◌∙◌, subst, inl, inr, ⊎_elim, append_assoc, length-append, arith}
use Rattle.std.specs.List.{concat}
use Rattle.std.proofs.lemmas.List.{length-set, append-nil}
use Rattle.te_search.specs.declared.batched.Look.{Look}
use Rattle.te_search.specs.Batches.{Batches}
use Rattle.te_steal.specs.Relays.{occurrences, ThiefOf, took_by}
use Rattle.te_steal.specs.Stolen.{AreLooksAt, HasLook, IsBrought}
use Rattle.te_steal.proofs.OrderKept.{occurrences_append}
use Rattle.te_steal.proofs.LooksTaken.{is_here, as_before, same_place, some_same, look_here, look_stays}

-- of their looks the rest is still to be brought
pub record IsBringing (old theirs rest looks : List (Option Look)) : Type 0 where
  pub count : length looks ≡ length old
  pub low : length rest ≤ length looks
  pub gone : List (Option Look)
  pub theirs_are : theirs ≡ rest ++ gone
  pub either : (k : ℕ) (look : Look) → slice_get looks k ≡ Some (Some look)
      → (slice_get old k ≡ Some (Some look)) ⊎ (slice_get theirs k ≡ Some (Some look))
  pub own : (k : ℕ) → HasLook old k → HasLook looks k
  pub brought : (k : ℕ) → length rest ≤ k → HasLook theirs k → HasLook looks k

at_seam : {A : Type 0} (xs ys : List A) (y : A) → slice_get (xs ++ y ∷ ys) (length xs) ≡ Some y
at_seam [] ys y = refl
at_seam (x ∷ xs) ys y = at_seam xs ys y

none_within : {A : Type 0} (xs : List A) (k : ℕ) (y : A) → length xs ≤ k → slice_get xs k ≡ Some y → ⊥
none_within [] k y past there = absurd cc
none_within (x ∷ xs) zero y past there = omega (arith, past)
none_within (x ∷ xs) (suc k) y past there = none_within xs k y (omega (arith, past)) there

pub nothing_brought : (old theirs : List (Option Look)) → length theirs ≡ length old → IsBringing old theirs theirs old
nothing_brought old theirs same = record {
  count = refl;
  low = omega (arith, same);
  gone = [];
  theirs_are = sym (append-nil theirs);
  either = λ k look there. inl there;
  own = λ k has. has;
  brought = λ k past has. absurd (none_within theirs k (Some has.0) past has.1);
}

module _ (old theirs rest rest' looks : List (Option Look)) (is : IsBringing old theirs rest looks) where
  theirs_at : (one : Option Look) → rest ≡ rest' ++ one ∷ [] → slice_get theirs (length rest') ≡ Some one
  theirs_at one popped =
      let whole : theirs ≡ rest' ++ one ∷ is.gone = is.theirs_are ∙ ap (λ l. l ++ is.gone) popped ∙ append_assoc rest' (one ∷ []) is.gone in
      subst (λ l. slice_get l (length rest') ≡ Some one) (sym whole) (at_seam rest' is.gone one)

  pub look_brought : (look : Look) → rest ≡ rest' ++ Some look ∷ [] → IsBringing old theirs rest' (set looks (length rest') (Some look))
  look_brought look popped =
      let i = length rest' in
      let more : length rest ≡ i + 1 = ap length popped ∙ length-append rest' (Some look ∷ []) in
      let wide : i < length looks = (let low = is.low in omega (arith, low, more)) in
      let here = theirs_at (Some look) popped in record {
        count = length-set looks i (Some look) ∙ is.count;
        low = (let same = length-set looks i (Some look) in omega (arith, same, wide));
        gone = Some look ∷ is.gone;
        theirs_are = is.theirs_are ∙ ap (λ l. l ++ is.gone) popped ∙ append_assoc rest' (Some look ∷ []) is.gone;
        either = λ k l there.
            ⊎_elim
            (λ (at : k ≡ i).
            let found : slice_get (set looks i (Some look)) i ≡ Some (Some l) = subst (λ j. slice_get (set looks i (Some look)) j ≡ Some (Some l)) at there in
            let same : Some look ≡ Some l = some_same (Some look) (Some l) (sym (is_here looks i (Some look) wide) ∙ found) in
            inr (subst (λ j. slice_get theirs j ≡ Some (Some l)) (sym at) (here ∙ ap Some same)))
            (λ other. is.either k l (sym (as_before looks i k (Some look) other) ∙ there))
            (same_place i k);
        own = λ k has. look_stays looks i k look wide (is.own k has);
        brought = λ k past has.
            ⊎_elim (λ (at : k ≡ i). subst (λ j. HasLook (set looks i (Some look)) j) (sym at) (look_here looks i look wide))
            (λ other. look_stays looks i k look wide (is.brought k (let beyond = above k i past other in omega (arith, beyond, more)) has))
            (same_place i k);
      }
    where
      above : (k i : ℕ) → i ≤ k → k ≢ i → i + 1 ≤ k
      above zero zero past other = absurd (other refl)
      above zero (suc i) past other = absurd (omega (arith, past))
      above (suc k) zero past other = omega arith
      above (suc k) (suc i) past other = (let rest = above k i (omega (arith, past)) (λ same. other (ap suc same)) in omega (arith, rest))

  pub none_brought : rest ≡ rest' ++ None ∷ [] → IsBringing old theirs rest' looks
  none_brought popped =
      let i = length rest' in
      let more : length rest ≡ i + 1 = ap length popped ∙ length-append rest' (None ∷ []) in
      let here = theirs_at None popped in record {
        count = is.count;
        low = (let low = is.low in omega (arith, low, more));
        gone = None ∷ is.gone;
        theirs_are = is.theirs_are ∙ ap (λ l. l ++ is.gone) popped ∙ append_assoc rest' (None ∷ []) is.gone;
        either = is.either;
        own = is.own;
        brought = λ k past has.
            ⊎_elim
            (λ (at : k ≡ i).
            let found : slice_get theirs i ≡ Some (Some has.0) = subst (λ j. slice_get theirs j ≡ Some (Some has.0)) at has.1 in
            absurd (not_none has.0 (some_same None (Some has.0) (sym here ∙ found))))
            (λ other. is.brought k (let beyond = above k i past other in omega (arith, beyond, more)) has)
            (same_place i k);
      }
    where
      above : (k i : ℕ) → i ≤ k → k ≢ i → i + 1 ≤ k
      above zero zero past other = absurd (other refl)
      above zero (suc i) past other = absurd (omega (arith, past))
      above (suc k) zero past other = omega arith
      above (suc k) (suc i) past other = (let rest = above k i (omega (arith, past)) (λ same. other (ap suc same)) in omega (arith, rest))

      not_none : (l : Look) → None ≡ Some l → ⊥
      not_none l is = absurd cc

pub all_brought : (old theirs rest looks : List (Option Look)) → length rest ≡ 0 → IsBringing old theirs rest looks → IsBrought old theirs looks
all_brought old theirs rest looks none is = record {
  either = is.either;
  own = is.own;
  brought = λ k has. is.brought k (omega (arith, none)) has;
}

-- ---- what one more thief took

pub one_thief_more : (k : ℕ) (thieves : List ThiefOf) (t : ThiefOf)
    → occurrences k (concat (map took_by (thieves ++ t ∷ []))) ≡ occurrences k (concat (map took_by thieves)) + occurrences k t.took
one_thief_more k [] t = (let own = occurrences_append k t.took [] in omega (arith, own))
one_thief_more k (u ∷ thieves) t =
    let first = occurrences_append k u.took (concat (map took_by (thieves ++ t ∷ []))) in
    let old = occurrences_append k u.took (concat (map took_by thieves)) in
    let rest = one_thief_more k thieves t in
    omega (arith, first, old, rest)

first_of_both : (a b : Bool) → (a && b) ≡ true → a ≡ true
first_of_both true b both = refl
first_of_both false b both = both

second_of_both : (a b : Bool) → (a && b) ≡ true → b ≡ true
second_of_both true b both = both
second_of_both false b both = absurd (true≢false (sym both))

one_or_other : (a b : ℕ) → 0 < a + b → (0 < a) ⊎ (0 < b)
one_or_other zero b more = inr (omega (arith, more))
one_or_other (suc a) b more = inl (omega arith)

pub both_took : (s : Batches) (batch took : List ℕ) (thieves : List ThiefOf) (t : ThiefOf) (looks theirs new : List (Option Look)) (whole all : Bool)
    → AreLooksAt s batch (took ++ concat (map took_by thieves)) looks whole → AreLooksAt s batch t.took theirs all
    → length new ≡ length looks → IsBrought looks theirs new
    → AreLooksAt s batch (took ++ concat (map took_by (thieves ++ t ∷ []))) new (whole && all)
both_took s batch took thieves t looks theirs new whole all own their same is = record {
  count = same ∙ own.count;
  seen = λ k p l path there. ⊎_elim (own.seen k p l path) (their.seen k p l path) (is.either k l there);
  there = λ both k low more.
      let old = occurrences_append k took (concat (map took_by thieves)) in
      let now = occurrences_append k took (concat (map took_by (thieves ++ t ∷ []))) in
      let one = one_thief_more k thieves t in
      ⊎_elim (λ mine. is.own k (own.there (first_of_both whole all both) k low mine))
      (λ stolen. is.brought k (their.there (second_of_both whole all both) k low stolen))
      (one_or_other (occurrences k (took ++ concat (map took_by thieves))) (occurrences k t.took) (omega (arith, more, old, now, one)));
}
