-- Where the first rule of a text stands, line by line.
use Rattle.std.proofs.Common.{◌≡◌, ◌≢◌, ◌≤◌, ◌<◌, ◌⊎◌, ℕ, zero, suc, ◌+◌, Bool, true, false, List, [], ◌∷◌, ◌++◌}
use Rattle.std.proofs.Common.{length, take, drop, get_or, refl, ap, sym, ◌∙◌, subst, inl, inr, arith, eqb-true}
use Rattle.std.proofs.Common.{length-append}
use Rattle.std.proofs.Math.Dec.{eqb}
use Rattle.std.proofs.Math.Seq.{take-suc}
use Rattle.std.proofs.lemmas.List.{length-take-le, take-append-drop, take_at, drop_at}
use Rattle.tevents.proofs.PostsCounted.{same_or_apart}
use Rattle.tevents.specs.Parts.{StartsLine, IsRuled, HasRule, AreParts}

-- no rule stands before a place, and whether a line begins there
pub record Scanned (text : List ℕ) (starts : Bool) (i : ℕ) : Type 0 where
  pub low : i ≤ length text
  pub none : (before rest : List ℕ) → HasRule text before rest → i ≤ length before
  pub begins : starts ≡ true → StartsLine (take i text)
  pub within : starts ≡ false → ¬ StartsLine (take i text)

last_of : (xs ys : List ℕ) (a b : ℕ) → xs ++ a ∷ [] ≡ ys ++ b ∷ [] → a ≡ b
last_of [] [] a b e = cc
last_of [] (y ∷ []) a b e = absurd cc
last_of [] (y ∷ z ∷ ys) a b e = absurd cc
last_of (x ∷ []) [] a b e = absurd cc
last_of (x ∷ z ∷ xs) [] a b e = absurd cc
last_of (x ∷ xs) (y ∷ ys) a b e = last_of xs ys a b cc

pub scanned_none : (text : List ℕ) → Scanned text true 0
scanned_none text = record { low = omega arith; none = λ before rest h. omega arith; begins = λ e. inl refl; within = λ e. absurd cc }

at_place : (text before rest : List ℕ) (i : ℕ) → HasRule text before rest → length before ≡ i → StartsLine (take i text) × IsRuled (drop i text) rest
at_place text before rest i h n = (
  subst StartsLine (sym (ap (take i) h.whole ∙ take_at before h.behind i n)) h.starts,
  subst (λ bs. IsRuled bs rest) (sym (ap (drop i) h.whole ∙ drop_at before h.behind i n)) h.ruled,
)

scanned_past : (text before rest : List ℕ) (starts : Bool) (i : ℕ) → Scanned text starts i
    → (starts ≡ true → (r : List ℕ) → ¬ IsRuled (drop i text) r) → HasRule text before rest → length before ≡ i → ⊥
scanned_past text before rest true i s free h n = free refl rest (at_place text before rest i h n).1
scanned_past text before rest false i s free h n = s.within refl (at_place text before rest i h n).0

goes_on : (text before rest : List ℕ) (starts : Bool) (i : ℕ) → Scanned text starts i → (starts ≡ true → (r : List ℕ) → ¬ IsRuled (drop i text) r) → HasRule text before rest → suc i ≤ length before
goes_on text before rest starts i s free h = (let low : i ≤ length before = s.none before rest h in
    let not : length before ≢ i = scanned_past text before rest starts i s free h in omega (arith, low, not))

next : (text : List ℕ) (i : ℕ) → i < length text → take (suc i) text ≡ take i text ++ get_or text i 0 ∷ []
next text i lt = take-suc text i 0 lt

scanned_on : (text : List ℕ) (starts : Bool) (i : ℕ) → i < length text → Scanned text starts i
    → (starts ≡ true → (r : List ℕ) → ¬ IsRuled (drop i text) r) → Scanned text (eqb (get_or text i 0) 10) (suc i)
scanned_on text starts i lt s free = record {
  low = omega (arith, lt);
  none = λ before rest h. goes_on text before rest starts i s free h;
  begins = λ e. inr (take i text, next text i lt ∙ ap (λ b. take i text ++ b ∷ []) (eqb-true _ _ e));
  within = λ e. inside e;
}
  where
    inside : eqb (get_or text i 0) 10 ≡ false → ¬ StartsLine (take (suc i) text)
    inside e (inl none) = (let short : length (take i text ++ get_or text i 0 ∷ []) ≡ 0 =
        ap length (sym (next text i lt) ∙ none) in let long : length (take i text ++ get_or text i 0 ∷ []) ≡ length
        (take i text) + 1 = length-append (take i text) (get_or text i 0 ∷ []) in omega (arith, short, long))
    inside e (inr (earlier, is)) = (let ten : get_or text i 0 ≡ 10 =
        last_of (take i text) earlier (get_or text i 0) 10 (sym (next text i lt) ∙ is) in let eq : eqb 10 10 ≡ false =
        subst (λ b. eqb b 10 ≡ false) ten e in cc)

pub scanned_next : (text : List ℕ) (starts : Bool) (i : ℕ) → i < length text → Scanned text starts i
    → (starts ≡ true → (r : List ℕ) → ¬ IsRuled (drop i text) r) → Scanned text (eqb (get_or text i 0) 10) (i + 1)
scanned_next text starts i lt s free = (let is : suc i ≡ i + 1 = omega arith in subst (λ n. Scanned text (eqb (get_or text i 0) 10) n) is (scanned_on text starts i lt s free))

pub parts_found : (text rest : List ℕ) (i : ℕ) → Scanned text true i → IsRuled (drop i text) rest → AreParts text (take i text) rest
parts_found text rest i s ruled = inl (
  record {
    behind = drop i text;
    whole = sym (take-append-drop i text);
    starts =
        s.begins refl;
    ruled = ruled;
  },
  λ before r h. subst (λ n. n ≤ length before) (sym (length-take-le i text s.low))
      (s.none before r h),
)

pub parts_none : (text : List ℕ) (starts : Bool) (i : ℕ) → length text ≤ i → Scanned text starts i → AreParts text text []
parts_none text starts i over s = inr (none, refl, refl)
  where
    long : (behind rest : List ℕ) → IsRuled behind rest → 3 ≤ length behind
    long behind rest (inl is) = subst (λ (bs : List ℕ). 3 ≤ length bs) (sym is) (omega arith)
    long behind rest (inr (is, r)) = subst (λ (bs : List ℕ). 3 ≤ length bs) (sym is) (omega arith)

    none : (before rest : List ℕ) → ¬ HasRule text before rest
    none before rest h =
        let far : i ≤ length before = s.none before rest h in
        let more : 3 ≤ length h.behind = long h.behind rest h.ruled in
        let all : length text ≡ length before + length h.behind = ap length h.whole ∙ length-append before h.behind in
        omega (arith, over, far, more, all)

-- a text has one pair of parts
pub parts_once : (text upper lower other rest : List ℕ) → AreParts text upper lower → AreParts text other rest → (upper ≡ other) × (lower ≡ rest)
parts_once text upper lower other rest (inr (free, a, b)) (inr (no2, c, d)) = (sym a ∙ c, b ∙ sym d)
parts_once text upper lower other rest (inr (free, a, b)) (inl (h, first)) = absurd (free other rest h)
parts_once text upper lower other rest (inl (h, first)) (inr (free, a, b)) = absurd (free upper lower h)
parts_once text upper lower other rest (inl (h, first)) (inl (k, second)) = (same, behind_once (h.behind) (k.behind) lower rest below h.ruled k.ruled)
  where
    long : length upper ≡ length other
    long = (let a : length upper ≤ length other = first other rest k in let b : length other ≤ length upper = second upper lower h in omega (arith, a, b))

    same : upper ≡ other
    same = sym (take_at upper h.behind (length other) long) ∙ ap (take (length other)) (sym h.whole ∙ k.whole) ∙ take_at other k.behind (length other) refl

    below : h.behind ≡ k.behind
    below = sym (drop_at upper h.behind (length other) long) ∙ ap (drop (length other)) (sym h.whole ∙ k.whole) ∙ drop_at other k.behind (length other) refl

    behind_once : (bs cs r q : List ℕ) → bs ≡ cs → IsRuled bs r → IsRuled cs q → r ≡ q
    behind_once bs cs r q e (inl a) (inl b) = (let z : 45 ∷ 45 ∷ 45 ∷ 10 ∷ r ≡ 45 ∷ 45 ∷ 45 ∷ 10 ∷ q = sym a ∙ e ∙ b in cc)
    behind_once bs cs r q e (inl a) (inr (b, n)) = absurd (let z : 45 ∷ 45 ∷ 45 ∷ 10 ∷ r ≡ 45 ∷ 45 ∷ 45 ∷ [] = sym a ∙ e ∙ b in cc)
    behind_once bs cs r q e (inr (a, m)) (inl b) = absurd (let z : 45 ∷ 45 ∷ 45 ∷ [] ≡ 45 ∷ 45 ∷ 45 ∷ 10 ∷ q = sym a ∙ e ∙ b in cc)
    behind_once bs cs r q e (inr (a, m)) (inr (b, n)) = m ∙ sym n

-- ---- every text has parts

is_ruled : (bytes : List ℕ) → ((rest : List ℕ) × IsRuled bytes rest) ⊎ ((rest : List ℕ) → ¬ IsRuled bytes rest)
is_ruled [] = inr (λ rest h. elim h [ inl is ↦ cc | inr is ↦ absurd (let z : [] ≡ 45 ∷ 45 ∷ 45 ∷ [] = is.0 in cc) ])
is_ruled (a ∷ []) = inr (λ rest h. elim h [ inl is ↦ cc | inr is ↦ absurd (let z : a ∷ [] ≡ 45 ∷ 45 ∷ 45 ∷ [] = is.0 in cc) ])
is_ruled (a ∷ b ∷ []) = inr (λ rest h. elim h [ inl is ↦ cc | inr is ↦ absurd (let z : a ∷ b ∷ [] ≡ 45 ∷ 45 ∷ 45 ∷ [] = is.0 in cc) ])
is_ruled (a ∷ b ∷ c ∷ []) = by (same_or_apart a 45) (same_or_apart b 45) (same_or_apart c 45)
  where
    by : (a ≡ 45) ⊎ (a ≡ 45 → ⊥) → (b ≡ 45) ⊎ (b ≡ 45 → ⊥) → (c ≡ 45) ⊎ (c ≡ 45 → ⊥) → ((rest : List ℕ) × IsRuled (a ∷ b ∷ c ∷ []) rest) ⊎ ((rest : List ℕ) → ¬ IsRuled (a ∷ b ∷ c ∷ []) rest)
    by (inl x) (inl y) (inl z) = inl ([], inr (cc, refl))
    by (inr x) _ _ = inr (λ rest h. elim h [ inl is ↦ cc | inr is ↦ x (let e : a ∷ b ∷ c ∷ [] ≡ 45 ∷ 45 ∷ 45 ∷ [] = is.0 in cc) ])
    by _ (inr y) _ = inr (λ rest h. elim h [ inl is ↦ cc | inr is ↦ y (let e : a ∷ b ∷ c ∷ [] ≡ 45 ∷ 45 ∷ 45 ∷ [] = is.0 in cc) ])
    by _ _ (inr z) = inr (λ rest h. elim h [ inl is ↦ cc | inr is ↦ z (let e : a ∷ b ∷ c ∷ [] ≡ 45 ∷ 45 ∷ 45 ∷ [] = is.0 in cc) ])
is_ruled (a ∷ b ∷ c ∷ d ∷ more) = by (same_or_apart a 45) (same_or_apart b 45) (same_or_apart c 45) (same_or_apart d 10)
  where
    by : (a ≡ 45) ⊎ (a ≡ 45 → ⊥) → (b ≡ 45) ⊎ (b ≡ 45 → ⊥) → (c ≡ 45) ⊎ (c ≡ 45 → ⊥) → (d ≡ 10) ⊎ (d ≡ 10 → ⊥)
        → ((rest : List ℕ) × IsRuled (a ∷ b ∷ c ∷ d ∷ more) rest)
        ⊎ ((rest : List ℕ) → ¬ IsRuled (a ∷ b ∷ c ∷ d ∷ more) rest)
    by (inl x) (inl y) (inl z) (inl w) = inl (more, inl cc)
    by (inr x) _ _ _ = inr (λ rest h. elim h [ inl is ↦ x cc | inr is ↦ absurd (let e : a ∷ b ∷ c ∷ d ∷ more ≡ 45 ∷ 45 ∷ 45 ∷ [] = is.0 in cc) ])
    by _ (inr y) _ _ = inr (λ rest h. elim h [ inl is ↦ y cc | inr is ↦ absurd (let e : a ∷ b ∷ c ∷ d ∷ more ≡ 45 ∷ 45 ∷ 45 ∷ [] = is.0 in cc) ])
    by _ _ (inr z) _ = inr (λ rest h. elim h [ inl is ↦ z cc | inr is ↦ absurd (let e : a ∷ b ∷ c ∷ d ∷ more ≡ 45 ∷ 45 ∷ 45 ∷ [] = is.0 in cc) ])
    by _ _ _ (inr w) = inr (λ rest h. elim h [ inl is ↦ w cc | inr is ↦ absurd (let e : a ∷ b ∷ c ∷ d ∷ more ≡ 45 ∷ 45 ∷ 45 ∷ [] = is.0 in cc) ])

abbrev HasParts : List ℕ → Type 0
HasParts text = (upper : List ℕ) × (lower : List ℕ) × AreParts text upper lower

parts_from : (text : List ℕ) (n i : ℕ) (starts : Bool) → i + n ≡ length text → Scanned text starts i → HasParts text
parts_from text zero i starts e s = (text, [], parts_none text starts i (omega (arith, e)) s)
parts_from text (suc n) i starts e s = by (λ (free : starts ≡ true → (rest : List ℕ) → ¬ IsRuled (drop i text) rest).
    parts_from text n (i + 1) (eqb (get_or text i 0) 10) (omega (arith, e))
    (scanned_next text starts i (omega (arith, e)) s free)) starts refl (is_ruled (drop i text))
  where
    by : ((starts ≡ true → (rest : List ℕ) → ¬ IsRuled (drop i text) rest) → HasParts text) → (b : Bool) → starts ≡ b
        → ((rest : List ℕ) × IsRuled (drop i text) rest) ⊎ ((rest : List ℕ) → ¬ IsRuled (drop i text) rest)
        → HasParts text
    by on true is (inl ruled) = (take i text, ruled.0, parts_found text ruled.0 i (subst (λ b. Scanned text b i) is s) ruled.1)
    by on true is (inr none) = on (λ e rest. none rest)
    by on false is ruled = on (λ e. absurd (let z : true ≡ false = sym e ∙ is in cc))

pub parts_of : (text : List ℕ) → HasParts text
parts_of text = parts_from text (length text) 0 true (omega arith) (scanned_none text)
