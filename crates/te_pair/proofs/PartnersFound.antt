-- What a walk over a place finds.
use Rattle.std.proofs.Common.{◌≡◌, ◌≢◌, ◌<◌, ◌↔◌, ◌⊎◌, ℕ, zero, suc, ◌+◌, Bool, true, false, not, cond, ◌&&◌, List, []}
use Rattle.std.proofs.Common.{◌∷◌, ◌++◌, length, take, get_or, Some, slice_get, nat_eq, eqb-true, eq-eqb, refl, ap, ap₂}
use Rattle.std.proofs.Common.{sym, ◌∙◌, subst, arith, inl, inr}
use Rattle.std.specs.List.{Contains, IsDistinct, AllByRecursion, filter}
use Rattle.std.specs.List.Sorted.{IsPermutation, IsStrictlyIncreasing, IsSorted}
use Rattle.std.specs.Ordering.{nat_cmp}
use Rattle.std.proofs.lemmas.List.Elements.{Contains-append_cases, Contains-append_right, All-contains}
use Rattle.std.proofs.lemmas.List.Sorted.{Contains-permutation, IsPermutation-sym, IsNonDecreasingBy-from_sort}
use Rattle.std.proofs.lemmas.Map.Keys.{IsDistinct-head, IsDistinct-tail, IsDistinct-cons, IsDistinct-IsPermutation, IsStrictlyIncreasing-from_distinct}
use Rattle.te_trail.specs.Paths.{Path}
use Rattle.te_trail.specs.Clocks.{Agree}
use Rattle.te_trail.specs.Trails.{Trail, AreAgreeing, TellsWhether}
use Rattle.te_pair.specs.declared.end.End.{End}
use Rattle.te_pair.specs.Ends.{path_of, paths_kept, IsEnd, AreEnds, is_at, paths_at, IsPartner}
use Rattle.te_pair.proofs.Among.{nothing_twice, next_taken}
use Rattle.te_pair.proofs.EndsTold.{path_low, path_there}
use Rattle.te_terms.proofs.Lists.{both_true, not_true}

-- ---- what is picked of a list

-- ys are those of xs of which P holds, in order
abbrev pub Picks : (ℕ → Type 0) → List ℕ → List ℕ → Type 0
Picks P [] ys = ys ≡ []
Picks P (x ∷ xs) ys = ((zs : List ℕ) × (ys ≡ x ∷ zs) × P x × Picks P xs zs) ⊎ ((¬ P x) × Picks P xs ys)

pub picks_more : (P : ℕ → Type 0) (xs ys : List ℕ) (x : ℕ) → Picks P xs ys → P x → Picks P (xs ++ x ∷ []) (ys ++ x ∷ [])
picks_more P [] ys x h p = inl ([], ap (λ r. r ++ x ∷ []) h, p, refl)
picks_more P (y ∷ xs) ys x (inl (zs, e, q, r)) p = inl (zs ++ x ∷ [], ap (λ r. r ++ x ∷ []) e, q, picks_more P xs zs x r p)
picks_more P (y ∷ xs) ys x (inr (f, r)) p = inr (f, picks_more P xs ys x r p)

pub picks_pass : (P : ℕ → Type 0) (xs ys : List ℕ) (x : ℕ) → Picks P xs ys → (¬ P x) → Picks P (xs ++ x ∷ []) ys
picks_pass P [] ys x h f = inr (f, h)
picks_pass P (y ∷ xs) ys x (inl (zs, e, q, r)) f = inl (zs, e, q, picks_pass P xs zs x r f)
picks_pass P (y ∷ xs) ys x (inr (g, r)) f = inr (g, picks_pass P xs ys x r f)

one_there : {A : Type 0} (x q : A) → Contains (x ∷ []) q → x ≡ q
one_there x q (zero, low, e) = e
one_there x q (suc k, low, e) = absurd (omega (arith, low))

here : {A : Type 0} (x q : A) (xs : List A) → x ≡ q → Contains (x ∷ xs) q
here x q xs e = (0, (let low : 0 < length (x ∷ xs) = omega arith in low), e)

none_there : {A : Type 0} (q : A) → Contains [] q → ⊥
none_there q (k, low, e) = omega (arith, low)

picked_there : (P : ℕ → Type 0) (xs ys : List ℕ) (q : ℕ) → Picks P xs ys → Contains ys q → Contains xs q × P q
picked_there P [] ys q h c = absurd (none_there q (subst (λ r. Contains r q) h c))
picked_there P (x ∷ xs) ys q (inl (zs, e, p, r)) c = by (picked_there P xs zs q r) (Contains-append_cases (x ∷ []) zs q (subst (λ r. Contains r q) e c))
  where
    by : (Contains zs q → Contains xs q × P q) → Contains (x ∷ []) q ⊎ Contains zs q → Contains (x ∷ xs) q × P q
    by rest (inl one) = (here x q xs (one_there x q one), subst P (one_there x q one) p)
    by rest (inr more) = (Contains-append_right (x ∷ []) xs q (rest more).0, (rest more).1)
picked_there P (x ∷ xs) ys q (inr (f, r)) c = (let rest : Contains xs q × P q = picked_there P xs ys q r c in (Contains-append_right (x ∷ []) xs q rest.0, rest.1))

there_picked : (P : ℕ → Type 0) (xs ys : List ℕ) (q : ℕ) → Picks P xs ys → Contains xs q → P q → Contains ys q
there_picked P [] ys q h c p = absurd (none_there q c)
there_picked P (x ∷ xs) ys q (inl (zs, e, o, r)) c p = by (λ more. there_picked P xs zs q r more p) (Contains-append_cases (x ∷ []) xs q c)
  where
    by : (Contains xs q → Contains zs q) → Contains (x ∷ []) q ⊎ Contains xs q → Contains ys q
    by rest (inl one) = subst (λ r. Contains r q) (sym e) (here x q zs (one_there x q one))
    by rest (inr more) = subst (λ r. Contains r q) (sym e) (Contains-append_right (x ∷ []) zs q (rest more))
there_picked P (x ∷ xs) ys q (inr (f, r)) c p = by (λ more. there_picked P xs ys q r more p) (Contains-append_cases (x ∷ []) xs q c)
  where
    by : (Contains xs q → Contains ys q) → Contains (x ∷ []) q ⊎ Contains xs q → Contains ys q
    by rest (inl one) = absurd (f (subst P (sym (one_there x q one)) p))
    by rest (inr more) = rest more

all_picked : (P R : ℕ → Type 0) (xs ys : List ℕ) → AllByRecursion R xs → Picks P xs ys → AllByRecursion R ys
all_picked P R [] ys a h = subst (AllByRecursion R) (sym h) _
all_picked P R (x ∷ xs) ys (o, a) (inl (zs, e, p, r)) = subst (AllByRecursion R) (sym e) (o, all_picked P R xs zs a r)
all_picked P R (x ∷ xs) ys (o, a) (inr (f, r)) = all_picked P R xs ys a r

picked_once : (P : ℕ → Type 0) (xs ys : List ℕ) → IsDistinct nat_eq xs → Picks P xs ys → IsDistinct nat_eq ys
picked_once P [] ys d h = subst (IsDistinct nat_eq) (sym h) nothing_twice
picked_once P (x ∷ xs) ys d (inl (zs, e, p, r)) = subst (IsDistinct nat_eq) (sym e)
    (IsDistinct-cons nat_eq x zs (all_picked P (λ y. nat_eq x y ≡ false) xs zs (IsDistinct-head nat_eq x xs d) r)
    (picked_once P xs zs (IsDistinct-tail nat_eq x xs d) r))
picked_once P (x ∷ xs) ys d (inr (f, r)) = picked_once P xs ys (IsDistinct-tail nat_eq x xs d) r

-- ---- the paths of a place

pub record From (test : End → Bool) (kept : List End) (q : ℕ) : Type 0 where
  pub end : End
  pub kept_is : Contains kept end
  pub passes : test end ≡ true
  pub path : end.path ≡ q

from_later : (test : End → Bool) (d : End) (kept : List End) (q : ℕ) → From test kept q → From test (d ∷ kept) q
from_later test d kept q h = record { end = h.end; kept_is = Contains-append_right (d ∷ []) kept h.end h.kept_is; passes = h.passes; path = h.path }

pub from_place : (test : End → Bool) (kept : List End) (q : ℕ) → Contains (paths_kept (filter test kept)) q → From test kept q
from_place test [] q c = absurd (none_there q c)
from_place test (d ∷ kept) q c = by (test d) refl (from_place test kept q) c
  where
    some : (Contains (paths_kept (filter test kept)) q → From test kept q) → test d ≡ true → Contains (d.path ∷ []) q ⊎ Contains (paths_kept (filter test kept)) q → From test (d ∷ kept) q
    some rest t (inl one) = record { end = d; kept_is = here d d kept refl; passes = t; path = one_there d.path q one }
    some rest t (inr more) = from_later test d kept q (rest more)

    by : (b : Bool) → test d ≡ b → (Contains (paths_kept (filter test kept)) q → From test kept q) → Contains (paths_kept (cond b (d ∷ filter test kept) (filter test kept))) q → From test (d ∷ kept) q
    by true t rest g = some rest t (Contains-append_cases (d.path ∷ []) (paths_kept (filter test kept)) q g)
    by false t rest g = from_later test d kept q (rest g)

to_place : (test : End → Bool) (kept : List End) (e : End) → Contains kept e → test e ≡ true → Contains (paths_kept (filter test kept)) e.path
to_place test [] e c t = absurd (none_there e c)
to_place test (d ∷ kept) e c t = by (test d) refl (λ more. to_place test kept e more t) (Contains-append_cases (d ∷ []) kept e c)
  where
    by : (b : Bool) → test d ≡ b → (Contains kept e → Contains (paths_kept (filter test kept)) e.path)
        → Contains (d ∷ []) e ⊎ Contains kept e → Contains (paths_kept (cond b (d ∷ filter test kept) (filter test kept)))
        e.path
    by true o rest (inl one) = here d.path e.path (paths_kept (filter test kept)) (ap path_of (one_there d e one))
    by true o rest (inr more) = Contains-append_right (d.path ∷ []) (paths_kept (filter test kept)) e.path (rest more)
    by false o rest (inl one) = (let both : true ≡ false = sym t ∙ ap test (sym (one_there d e one)) ∙ o in cc)
    by false o rest (inr more) = rest more

all_placed : (test : End → Bool) (R : ℕ → Type 0) (kept : List End) → AllByRecursion R (paths_kept kept) → AllByRecursion R (paths_kept (filter test kept))
all_placed test R [] a = _
all_placed test R (d ∷ kept) (o, a) = by (test d) (all_placed test R kept a)
  where
    by : (b : Bool) → AllByRecursion R (paths_kept (filter test kept)) → AllByRecursion R (paths_kept (cond b (d ∷ filter test kept) (filter test kept)))
    by true rest = (o, rest)
    by false rest = rest

pub placed_once : (test : End → Bool) (kept : List End) → IsDistinct nat_eq (paths_kept kept) → IsDistinct nat_eq (paths_kept (filter test kept))
placed_once test [] d = d
placed_once test (e ∷ kept) d = by (test e) (placed_once test kept (IsDistinct-tail nat_eq e.path (paths_kept kept) d))
  where
    by : (b : Bool) → IsDistinct nat_eq (paths_kept (filter test kept)) → IsDistinct nat_eq (paths_kept (cond b (e ∷ filter test kept) (filter test kept)))
    by true rest = IsDistinct-cons nat_eq e.path (paths_kept (filter test kept)) (all_placed test (λ y. nat_eq e.path y ≡ false) kept (IsDistinct-head nat_eq e.path (paths_kept kept) d)) rest
    by false rest = rest

pub at_told : (channel : ℕ) (sends : Bool) (e : End) → is_at channel sends e ≡ true → (e.channel ≡ channel) × (e.sends ≡ sends)
at_told channel true e h = (eqb-true e.channel channel (both_true (nat_eq e.channel channel) e.sends h).0, (both_true (nat_eq e.channel channel) e.sends h).1)
at_told channel false e h = (eqb-true e.channel channel (both_true (nat_eq e.channel channel) (not e.sends) h).0, not_true e.sends (both_true (nat_eq e.channel channel) (not e.sends) h).1)

pub at_is : (channel : ℕ) (sends : Bool) (e : End) → e.channel ≡ channel → e.sends ≡ sends → is_at channel sends e ≡ true
at_is channel true e c s = ap₂ (λ a b. a && b) (eq-eqb e.channel channel c) s
at_is channel false e c s = ap₂ (λ a b. a && not b) (eq-eqb e.channel channel c) s

turned : (a b : Bool) → a ≡ not b → a ≢ b
turned a true h e = cc
turned a false h e = cc

other_side : (a b : Bool) → a ≢ b → a ≡ not b
other_side true true h = absurd (h refl)
other_side true false h = refl
other_side false true h = refl
other_side false false h = absurd (h refl)

-- ---- partners

pub kept_low : (store : Trail) (kept : List End) (channel : ℕ) (sends : Bool) (ns : List ℕ) (q : ℕ) → AreEnds store kept → ns ≡ paths_at channel sends kept → Contains ns q → q < length store.paths
kept_low store kept channel sends ns q ends is c = by (from_place (is_at channel sends) kept q (subst (λ r. Contains r q) is c))
  where
    by : From (is_at channel sends) kept q → q < length store.paths
    by h = (let e : IsEnd store h.end = All-contains (IsEnd store) kept h.end ends h.kept_is in subst (λ n. n < length store.paths) h.path (path_low store.paths h.end.path e.of e.made))

pub record Own (store : Trail) (p : ℕ) (own : End) : Type 0 where
  pub path : own.path ≡ p
  pub is : IsEnd store own
  pub only : (e : End) → e.path ≡ p → IsEnd store e → e ≡ own

pub agrees : (store : Trail) (p q : ℕ) → TellsWhether store.paths p q Agree true → AreAgreeing store p q
agrees store p q told x y ex ey = (told x y ex ey).0 refl

pub differs : (store : Trail) (p q : ℕ) → p < length store.paths → q < length store.paths → TellsWhether store.paths p q Agree false → ¬ AreAgreeing store p q
differs store p q low high told agree = by (path_there store.paths p low) (path_there store.paths q high)
  where
    by : (x : Path) × (slice_get store.paths p ≡ Some x) → (y : Path) × (slice_get store.paths q ≡ Some y) → ⊥
    by (x, ex) (y, ey) = (let yes : false ≡ true = (told x y ex ey).1 (agree x y ex ey) in cc)

pub found_exact : (store : Trail) (kept : List End) (p : ℕ) (own : End) (found sorted : List ℕ) → Own store p own
    → Picks (AreAgreeing store p) (paths_at own.channel (not own.sends) kept) found → IsPermutation found sorted
    → (q : ℕ) → Contains sorted q ↔ IsPartner store kept p q
found_exact store kept p own found sorted o picks moved q = (is, has)
  where
    place : List ℕ
    place = paths_at own.channel (not own.sends) kept

    of : Contains place q → AreAgreeing store p q → IsPartner store kept p q
    of c agree = (let h : From (is_at own.channel (not own.sends)) kept q = from_place (is_at own.channel (not own.sends)) kept q c in
        let at : (h.end.channel ≡ own.channel) × (h.end.sends ≡ not own.sends) = at_told own.channel (not own.sends) h.end h.passes in
        record {
          own = own;
          own_path = o.path;
          own_end = o.is;
          other = h.end;
          other_path = h.path;
          other_kept =
              h.kept_is;
          channel = at.0;
          direction = turned h.end.sends own.sends at.1;
          agree = agree;
        })

    is : Contains sorted q → IsPartner store kept p q
    is c = (let both : Contains place q × AreAgreeing store p q =
        picked_there (AreAgreeing store p) place found q picks
        (Contains-permutation sorted found q (IsPermutation-sym found sorted moved) c) in of both.0 both.1)

    has : IsPartner store kept p q → Contains sorted q
    has h =
        let same : h.own ≡ own = o.only h.own h.own_path h.own_end in
        let test : is_at own.channel (not own.sends) h.other ≡ true =
        at_is own.channel (not own.sends) h.other (h.channel ∙ ap (λ (e : End). e.channel) same)
        (other_side h.other.sends own.sends (λ e. h.direction (e ∙ ap (λ (d : End). d.sends) (sym same)))) in
        Contains-permutation found sorted q moved (there_picked (AreAgreeing store p) place found q picks
        (subst (Contains place) h.other_path (to_place (is_at own.channel (not own.sends)) kept h.other h.other_kept
        test)) h.agree)

flips : (x y : ℕ) → nat_eq x y ≡ nat_eq y x
flips x y = by (nat_eq x y) refl (nat_eq y x) refl
  where
    by : (a : Bool) → nat_eq x y ≡ a → (b : Bool) → nat_eq y x ≡ b → a ≡ b
    by true e true f = refl
    by true e false f = (let both : true ≡ false = sym (eq-eqb y x (sym (eqb-true x y e))) ∙ f in cc)
    by false e true f = (let both : true ≡ false = sym (eq-eqb x y (sym (eqb-true y x f))) ∙ e in cc)
    by false e false f = refl

pub found_rise : (P : ℕ → Type 0) (ends found sorted : List ℕ) → IsDistinct nat_eq ends → Picks P ends found → IsPermutation found sorted → IsSorted nat_cmp sorted → IsStrictlyIncreasing sorted
found_rise P ends found sorted once picks moved rise =
    IsStrictlyIncreasing-from_distinct sorted (IsNonDecreasingBy-from_sort (λ x. x) sorted rise) (IsDistinct-IsPermutation nat_eq flips found sorted moved (picked_once P ends found once picks))

-- ---- the walk

pub walk_more : (P : ℕ → Type 0) (ends found more : List ℕ) (i : ℕ) → i < length ends → Picks P (take i ends) found
    → P (get_or ends i 0) → more ≡ found ++ get_or ends i 0 ∷ [] → Picks P (take (i + 1) ends) more
walk_more P ends found more i low h p is = subst (λ xs. Picks P xs more) (sym (next_taken ends i 0 low))
    (subst (Picks P (take i ends ++ get_or ends i 0 ∷ [])) (sym is)
    (picks_more P (take i ends) found (get_or ends i 0) h p))

pub walk_pass : (P : ℕ → Type 0) (ends found : List ℕ) (i : ℕ) → i < length ends → Picks P (take i ends) found → (¬ P (get_or ends i 0)) → Picks P (take (i + 1) ends) found
walk_pass P ends found i low h p = subst (λ xs. Picks P xs found) (sym (next_taken ends i 0 low)) (picks_pass P (take i ends) found (get_or ends i 0) h p)
