-- Lists of threads, and parts of lists.
use Rattle.std.proofs.Common.{◌≡◌, ◌<◌, ◌≤◌, inl, inr, ℕ, zero, suc, ◌+◌, List, [], ◌∷◌, ◌++◌, take, length, Bool}
use Rattle.std.proofs.Common.{true, false, cond, ◌||◌, Some, None, slice_get, get_or, refl, ap, sym, ◌∙◌, subst, arith, nat_eq, eqb-true, eq-eqb}
use Rattle.te_terms.specs.declared.event.Parked.{Parked}
use Rattle.te_terms.specs.Steps.{Member}
use Rattle.te_terms.specs.Joint.{RiseFrom, IsGroup, member_of, as_member, as_group}
use Rattle.te_cert.specs.Certs.{place_of}
use Rattle.te_search.specs.Works.{threads_of}
use Rattle.te_search.specs.Findings.{HasThread}
use Rattle.te_search.specs.Plantings.{has_number}
use Rattle.te_search.specs.Picks.{RiseAbove, NumbersRise}
use Rattle.te_terms.proofs.Lists.{found_here}

take_next : {A : Type 0} (xs : List A) (i : ℕ) (x : A) → slice_get xs i ≡ Some x → take (suc i) xs ≡ take i xs ++ (x ∷ [])
take_next [] i x e = cc
take_next (y ∷ xs) zero x e = (let one : y ≡ x = cc in ap (λ z. z ∷ []) one)
take_next (y ∷ xs) (suc i) x e = ap (λ r. y ∷ r) (take_next xs i x e)

pub take_one : {A : Type 0} (xs : List A) (i : ℕ) (x : A) → slice_get xs i ≡ Some x → take (i + 1) xs ≡ take i xs ++ (x ∷ [])
take_one xs i x e = (let n : i + 1 ≡ suc i = omega arith in ap (λ k. take k xs) n ∙ take_next xs i x e)

-- ---- threads

number_before : (ns : List ℕ) (i t n : ℕ) → slice_get ns i ≡ Some n → (n ≡ t → ⊥) → has_number (take i ns) t ≡ false → has_number (take (suc i) ns) t ≡ false
number_before [] i t n e ne h = cc
number_before (m ∷ ns) zero t n e ne h = (let one : m ≡ n = cc in go (nat_eq m t) refl one)
  where
    go : (o : Bool) → nat_eq m t ≡ o → m ≡ n → o || false ≡ false
    go true w one = absurd (ne (sym one ∙ eqb-true m t w))
    go false w one = refl
number_before (m ∷ ns) (suc i) t n e ne h = go (nat_eq m t) (number_before ns i t n e ne) h
  where
    go : (o : Bool) → (has_number (take i ns) t ≡ false → has_number (take (suc i) ns) t ≡ false) → o || has_number (take i ns) t ≡ false → o || has_number (take (suc i) ns) t ≡ false
    go true ih h = cc
    go false ih h = ih h

pub number_step : (ns : List ℕ) (i t d : ℕ) → i < length ns → (get_or ns i d ≡ t → ⊥) → has_number (take i ns) t ≡ false → has_number (take (i + 1) ns) t ≡ false
number_step ns i t d l ne h = (let n : suc i ≡ i + 1 = omega arith in subst (λ k. has_number (take k ns) t ≡ false) n (number_before ns i t (get_or ns i d) (there ns i l) ne h))
  where
    there : (ns : List ℕ) (i : ℕ) → i < length ns → slice_get ns i ≡ Some (get_or ns i d)
    there [] i l = absurd (omega (arith, l))
    there (n ∷ ns) zero l = refl
    there (n ∷ ns) (suc i) l = there ns i (omega (arith, l))

-- the first place of a thread is its place in a group
pub place_is : (names : List ℕ) (group : List Member) (t i : ℕ) → names ≡ threads_of group → slice_get names i ≡ Some t → has_number (take i names) t ≡ false → i ≡ place_of t group
place_is names [] t i e g h = (let f : slice_get [] i ≡ Some t = ap (λ l. slice_get l i) (sym e) ∙ g in cc)
place_is [] (m ∷ ms) t i e g h = cc
place_is (n ∷ ns) (m ∷ ms) t zero e g h = (let one : n ≡ t = cc in let two : n ≡ m.thread = cc in ap (λ o. cond o 0 (suc (place_of t ms))) (sym (eq-eqb m.thread t (sym two ∙ one))))
place_is (n ∷ ns) (m ∷ ms) t (suc i) e g h = (let two : n ≡ m.thread = cc in let rest : ns ≡ threads_of ms = cc in go (nat_eq n t) refl two h (place_is ns ms t i rest g))
  where
    go : (o : Bool) → nat_eq n t ≡ o → n ≡ m.thread → o || has_number (take i ns) t ≡ false → (has_number (take i ns) t ≡ false → i ≡ place_of t ms)
        → suc i ≡ cond (nat_eq m.thread t) 0 (suc (place_of t ms))
    go true w two h ih = cc
    go false w two h ih = ap suc (ih h) ∙ ap (λ o. cond o 0 (suc (place_of t ms))) (sym (ap (λ k. nat_eq k t) (sym two) ∙ w))

above_place : (low : ℕ) (ns : List ℕ) (i t : ℕ) → RiseAbove low ns → slice_get ns i ≡ Some t → low + i < t
above_place low [] i t r e = cc
above_place low (n ∷ ns) zero t r e = (let one : n ≡ t = cc in let l : low < n = r.0 in omega (arith, one, l))
above_place low (n ∷ ns) (suc i) t r e = (let l : low < n = r.0 in let h : n + i < t = above_place n ns i t r.1 e in omega (arith, l, h))

pub place_below : (ns : List ℕ) (i t : ℕ) → NumbersRise ns → slice_get ns i ≡ Some t → i ≤ t
place_below [] i t r e = cc
place_below (n ∷ ns) zero t r e = omega arith
place_below (n ∷ ns) (suc i) t r e = (let h : n + i < t = above_place n ns i t r e in omega (arith, h))

numbers_above : (low : ℕ) (g : List Member) → RiseFrom low g → RiseAbove low (threads_of g)
numbers_above low [] r = tt
numbers_above low (m ∷ ms) r = (r.0, numbers_above m.thread ms r.1)

pub group_numbers : (g : List Member) → IsGroup g → NumbersRise (threads_of g)
group_numbers [] r = tt
group_numbers (m ∷ ms) r = numbers_above m.thread ms r

pub absent : (g : List Member) (t : ℕ) → has_number (threads_of g) t ≡ false → member_of t g ≡ None
absent [] t h = refl
absent (m ∷ ms) t h = go (nat_eq m.thread t) (absent ms t) h
  where
    go : (o : Bool) → (has_number (threads_of ms) t ≡ false → member_of t ms ≡ None) → o || has_number (threads_of ms) t ≡ false → cond o (Some m) (member_of t ms) ≡ None
    go true ih h = cc
    go false ih h = ih h

pub present : (g : List Member) (t : ℕ) (e : Member) → has_number (threads_of g) t ≡ false → member_of t g ≡ Some e → ⊥
present g t e h f = (let n : member_of t g ≡ None = absent g t h in cc)

-- the event at a place is that of its thread
pub parked_found : (parked : List Parked) (i : ℕ) (p : Parked) → IsGroup (as_group parked) → slice_get parked i ≡ Some p → member_of p.thread (as_group parked) ≡ Some (as_member p)
parked_found [] i p r e = cc
parked_found (q ∷ parked) zero p r e = (let one : q ≡ p = cc in subst (λ k. member_of k.thread (as_group (q ∷ parked)) ≡ Some (as_member k)) one
    (ap (λ o. cond o (Some (as_member q)) (member_of q.thread (as_group parked))) (eq-eqb q.thread q.thread refl)))
parked_found (q ∷ parked) (suc i) p r e = go (nat_eq q.thread p.thread) refl (parked_found parked i p (rest parked r) e)
  where
    rest : (parked : List Parked) → IsGroup (as_group (q ∷ parked)) → IsGroup (as_group parked)
    rest [] r = tt
    rest (k ∷ parked) r = r.1

    later : (low : ℕ) (parked : List Parked) (i : ℕ) → RiseFrom low (as_group parked) → slice_get parked i ≡ Some p → low < p.thread
    later low [] i r e = cc
    later low (k ∷ parked) zero r e = (let one : k ≡ p = cc in subst (λ z. low < z.thread) one r.0)
    later low (k ∷ parked) (suc i) r e = (let h : k.thread < p.thread = later k.thread parked i r.1 e in let l : low < k.thread = r.0 in omega (arith, h, l))

    go : (o : Bool) → nat_eq q.thread p.thread ≡ o → member_of p.thread (as_group parked) ≡ Some (as_member p) → cond o (Some (as_member q)) (member_of p.thread (as_group parked)) ≡ Some (as_member p)
    go true w h = (let same : q.thread ≡ p.thread = eqb-true q.thread p.thread w in let l : q.thread < p.thread = later q.thread parked i r e in absurd (omega (arith, same, l)))
    go false w h = h

-- it isn't at any place
pub nowhere : (parked : List Parked) (t n : ℕ) → length parked ≤ n → HasThread parked t → ((j : ℕ) (p : Parked) → j < n → slice_get parked j ≡ Some p → p.thread ≡ t → ⊥) → ⊥
nowhere [] t n l h f = h
nowhere (p ∷ parked) t n l (inl e) f = f 0 p (omega (arith, l)) refl e
nowhere (p ∷ parked) t n l (inr h) f = nowhere parked t n (omega (arith, l)) h (λ j q k e. beyond j q e)
  where
    low_at : (xs : List Parked) (j : ℕ) (q : Parked) → slice_get xs j ≡ Some q → j < length xs
    low_at [] j q e = cc
    low_at (x ∷ xs) zero q e = omega arith
    low_at (x ∷ xs) (suc j) q e = (let h : j < length xs = low_at xs j q e in omega (arith, h))

    beyond : (j : ℕ) (q : Parked) → slice_get parked j ≡ Some q → q.thread ≡ t → ⊥
    beyond j q e = f (suc j) q (let h : j < length parked = low_at parked j q e in omega (arith, h, l)) e
