-- A table that tells of the threads of a list.
use Rattle.std.proofs.Common.{◌≡◌, ◌<◌, ◌≢◌, ◌⊎◌, inl, inr, ℕ, zero, suc, ◌+◌, List, [], ◌∷◌, ◌++◌, take, length, Bool, true, false, nat_eq, ◌||◌, Some, slice_get}
use Rattle.std.proofs.Common.{slice_set, refl, ap, sym, ◌∙◌, subst, arith, eqb-true, eq-eqb}
use Rattle.te_search.specs.Plantings.{has_number, IsTabled}
use Rattle.te_terms.proofs.Lists.{at_last}
use Rattle.te_search.proofs.EventsPlanted.{number_more}

set_here : (table : List Bool) (t : ℕ) (o b : Bool) → slice_get table t ≡ Some o → slice_get (slice_set table t b) t ≡ Some b
set_here [] t o b e = cc
set_here (x ∷ table) zero o b e = refl
set_here (x ∷ table) (suc t) o b e = set_here table t o b e

set_other : (table : List Bool) (s t : ℕ) (b : Bool) → (s ≢ t) → slice_get (slice_set table s b) t ≡ slice_get table t
set_other [] s t b ne = refl
set_other (x ∷ table) zero zero b ne = absurd (ne refl)
set_other (x ∷ table) zero (suc t) b ne = refl
set_other (x ∷ table) (suc s) zero b ne = refl
set_other (x ∷ table) (suc s) (suc t) b ne = set_other table s t b (λ e. ne (ap suc e))

taken_part : (ns : List ℕ) (s i : ℕ) → i < length ns → take i (ns ++ (s ∷ [])) ≡ take i ns
taken_part [] s i l = absurd (omega (arith, l))
taken_part (n ∷ ns) s zero l = refl
taken_part (n ∷ ns) s (suc i) l = ap (λ r. n ∷ r) (taken_part ns s i (omega (arith, l)))

taken_whole : (ns : List ℕ) (s : ℕ) → take (length ns) (ns ++ (s ∷ [])) ≡ ns
taken_whole [] s = refl
taken_whole (n ∷ ns) s = ap (λ r. n ∷ r) (taken_whole ns s)

earlier : (ns : List ℕ) (s i t : ℕ) → slice_get ns i ≡ Some t → (i < length ns) × (slice_get (ns ++ (s ∷ [])) i ≡ Some t)
earlier [] s i t e = cc
earlier (n ∷ ns) s zero t e = ((let l : 0 < suc (length ns) = omega arith in l), e)
earlier (n ∷ ns) s (suc i) t e = (let r : (i < length ns) × (slice_get (ns ++ (s ∷ [])) i ≡ Some t) = earlier ns s i t e in ((let l : suc i < suc (length ns) = omega (arith, r.0) in l), r.1))

where_at : (ns : List ℕ) (s i t : ℕ) → slice_get (ns ++ (s ∷ [])) i ≡ Some t → ((i ≡ length ns) × (s ≡ t)) ⊎ ((i < length ns) × (slice_get ns i ≡ Some t))
where_at [] s zero t e = inl (refl, cc)
where_at [] s (suc i) t e = cc
where_at (n ∷ ns) s zero t e = inr ((let l : 0 < suc (length ns) = omega arith in l), e)
where_at (n ∷ ns) s (suc i) t e = elim (where_at ns s i t e) [ inl a ↦ inl (ap suc a.0, a.1) | inr b ↦ inr ((let l : suc i < suc (length ns) = omega (arith, b.0) in l), b.1) ]

-- ---- one thread more

once_more : (ns : List ℕ) (table : List Bool) (s : ℕ) → IsTabled ns table → has_number ns s ≡ false → (i t : ℕ) → slice_get (ns ++ (s ∷ [])) i ≡ Some t
    → has_number (take i (ns ++ (s ∷ []))) t ≡ false
once_more ns table s h new i t e = elim (where_at ns s i t e) [
  | inl a ↦ ap (λ k. has_number (take k (ns ++ (s ∷ []))) t) a.0 ∙ ap (λ l. has_number l t) (taken_whole ns s) ∙ ap (has_number ns) (sym a.1) ∙ new
  | inr b ↦ ap (λ l. has_number l t) (taken_part ns s i b.0) ∙ h.once i t b.1
]

set_told : (ns : List ℕ) (table : List Bool) (s t : ℕ) → s < 64 → t < 64 → IsTabled ns table → (o : Bool) → nat_eq s t ≡ o → slice_get (slice_set table s true) t ≡ Some (has_number ns t || o)
set_told ns table s t ls l h true w = ap (slice_get (slice_set table s true)) (sym (eqb-true s t w)) ∙ set_here table s (has_number ns s) true (h.told s ls) ∙ ap Some (go (has_number ns t))
  where
    go : (b : Bool) → true ≡ b || true
    go true = refl
    go false = refl
set_told ns table s t ls l h false w = set_other table s t true (λ e. (let k : true ≡ false = sym (eq-eqb s t e) ∙ w in cc)) ∙ h.told t l ∙ ap Some (go (has_number ns t))
  where
    go : (b : Bool) → b ≡ b || false
    go true = refl
    go false = refl

pub tabled_more : (ns : List ℕ) (table : List Bool) (s : ℕ) → IsTabled ns table → has_number ns s ≡ false → s < 64 → IsTabled (ns ++ (s ∷ [])) (slice_set table s true)
tabled_more ns table s h new low = record {
  once = once_more ns table s h new;
  told = λ t l. set_told ns table s t low l h (nat_eq s t) refl ∙ ap Some (sym (number_more ns s t));
}

-- one that the table doesn't tell of
pub tabled_beyond : (ns : List ℕ) (table : List Bool) (s : ℕ) → IsTabled ns table → has_number ns s ≡ false → (¬ (s < 64)) → IsTabled (ns ++ (s ∷ [])) table
tabled_beyond ns table s h new high = record {
  once = once_more ns table s h new;
  told = λ t l. h.told t l ∙ ap Some (go t l (nat_eq s t) refl ∙ sym (number_more ns s t));
}
  where
    plain : (b : Bool) → b ≡ b || false
    plain true = refl
    plain false = refl

    go : (t : ℕ) → t < 64 → (o : Bool) → nat_eq s t ≡ o → has_number ns t ≡ has_number ns t || nat_eq s t
    go t l true w = absurd (high (subst (λ k. k < 64) (sym (eqb-true s t w)) l))
    go t l false w = plain (has_number ns t) ∙ ap (λ o. has_number ns t || o) (sym w)

-- ---- the last thread less

once_less : (ns : List ℕ) (table : List Bool) (s : ℕ) → IsTabled (ns ++ (s ∷ [])) table → (i t : ℕ) → slice_get ns i ≡ Some t → has_number (take i ns) t ≡ false
once_less ns table s h i t e = (let r : (i < length ns) × (slice_get (ns ++ (s ∷ [])) i ≡ Some t) = earlier ns s i t e in
    ap (λ l. has_number l t) (sym (taken_part ns s i r.0)) ∙ h.once i t r.1)

gone : (ns : List ℕ) (table : List Bool) (s : ℕ) → IsTabled (ns ++ (s ∷ [])) table → has_number ns s ≡ false
gone ns table s h = ap (λ l. has_number l s) (sym (taken_whole ns s)) ∙ h.once (length ns) s (at_last ns s)

pub tabled_less : (ns : List ℕ) (table : List Bool) (s : ℕ) → IsTabled (ns ++ (s ∷ [])) table → s < 64 → IsTabled ns (slice_set table s false)
tabled_less ns table s h low = record { once = once_less ns table s h; told = λ t l. go t l (nat_eq s t) refl }
  where
    plain : (b : Bool) → b || false ≡ b
    plain true = refl
    plain false = refl

    go : (t : ℕ) → t < 64 → (o : Bool) → nat_eq s t ≡ o → slice_get (slice_set table s false) t ≡ Some (has_number ns t)
    go t l true w = ap (slice_get (slice_set table s false)) (sym (eqb-true s t w)) ∙ set_here table s (has_number (ns ++ (s ∷ [])) s) false (h.told s low)
        ∙ ap Some (sym (gone ns table s h) ∙ ap (has_number ns) (eqb-true s t w))
    go t l false w = set_other table s t false (λ e. (let k : true ≡ false = sym (eq-eqb s t e) ∙ w in cc)) ∙ h.told t l
        ∙ ap Some (number_more ns s t ∙ ap (λ o. has_number ns t || o) w ∙ plain (has_number ns t))

pub tabled_less_beyond : (ns : List ℕ) (table : List Bool) (s : ℕ) → IsTabled (ns ++ (s ∷ [])) table → (¬ (s < 64)) → IsTabled ns table
tabled_less_beyond ns table s h high = record { once = once_less ns table s h; told = λ t l. h.told t l ∙ ap Some (number_more ns s t ∙ go t l (nat_eq s t) refl) }
  where
    plain : (b : Bool) → b || false ≡ b
    plain true = refl
    plain false = refl

    go : (t : ℕ) → t < 64 → (o : Bool) → nat_eq s t ≡ o → has_number ns t || nat_eq s t ≡ has_number ns t
    go t l true w = absurd (high (subst (λ k. k < 64) (sym (eqb-true s t w)) l))
    go t l false w = ap (λ o. has_number ns t || o) w ∙ plain (has_number ns t)

-- ---- none

abbrev pub all_false : List Bool → Bool
all_false [] = true
all_false (true ∷ bs) = false
all_false (false ∷ bs) = all_false bs

false_at : (table : List Bool) (t : ℕ) → all_false table ≡ true → t < length table → slice_get table t ≡ Some false
false_at [] t a l = absurd (omega (arith, l))
false_at (true ∷ table) t a l = cc
false_at (false ∷ table) zero a l = refl
false_at (false ∷ table) (suc t) a l = false_at table t a (omega (arith, l))

pub tabled_none : (table : List Bool) → all_false table ≡ true → length table ≡ 64 → IsTabled [] table
tabled_none table a long = record { once = λ i t e. cc; told = λ t l. false_at table t a (subst (λ n. t < n) (sym long) l) }
