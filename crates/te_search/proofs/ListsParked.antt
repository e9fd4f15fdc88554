-- A list of parked events with one more, and with one less.
use Rattle.std.proofs.Common.{◌≡◌, ◌≢◌, ◌<◌, ◌≤◌, inl, inr, ℕ, zero, suc, List, [], ◌∷◌, length, Bool}
use Rattle.std.proofs.Common.{true, false, cond, ltb, Some, slice_get, refl, ap, sym, ◌∙◌, subst, arith, nat_eq, eqb-true, eq-eqb, eq-or-lt_of_le}
use Rattle.std.specs.List.{insert, remove}
use Rattle.std.proofs.lemmas.Bool.{lt-ltb, ltb-true, ltb-false}
use Rattle.te_terms.specs.declared.event.Parked.{Parked}
use Rattle.te_terms.specs.Steps.{Member}
use Rattle.te_terms.specs.Joint.{RiseFrom, IsGroup, member_of, as_member, as_group}
use Rattle.te_search.specs.Findings.{HasThread, put_in, without}
use Rattle.te_search.specs.Stacks.{IsPlaceFor, IsPlaceWith, EventsAreAmong}

-- ---- one more

pub put_is : (parked : List Parked) (new : Parked) (i : ℕ) → IsPlaceFor parked new.thread i → insert parked i new ≡ put_in new parked
put_is [] new zero h = refl
put_is [] new (suc i) h = absurd (let l : suc i ≤ 0 = h.low in omega (arith, l))
put_is (p ∷ parked) new zero h = (let a : new.thread < p.thread = h.after p refl in ap (λ o. cond o (new ∷ p ∷ parked) (p ∷ put_in new parked)) (sym (lt-ltb new.thread p.thread a)))
put_is (p ∷ parked) new (suc i) h = go (put_is parked new i) (ltb new.thread p.thread) refl
  where
    rest : IsPlaceFor parked new.thread i
    rest = record { low = (let l : suc i ≤ suc (length parked) = h.low in omega (arith, l)); before = λ j q l e. h.before (suc j) q (omega (arith, l)) e; after = h.after }

    go : (IsPlaceFor parked new.thread i → insert parked i new ≡ put_in new parked) → (o : Bool) → ltb new.thread p.thread ≡ o
        → p ∷ insert parked i new ≡ cond o (new ∷ p ∷ parked) (p ∷ put_in new parked)
    go ih true w = absurd (h.before 0 p (omega arith) refl (ltb-true new.thread p.thread w))
    go ih false w = ap (λ r. p ∷ r) (ih rest)

put_rises : (low : ℕ) (new : Parked) (parked : List Parked) → low < new.thread → RiseFrom low (as_group parked) → (¬ HasThread parked new.thread) → RiseFrom low (as_group (put_in new parked))
put_rises low new [] h r none = (h, tt)
put_rises low new (p ∷ parked) h r none = go (λ k. put_rises p.thread new parked k r.1 (λ q. none (inr q))) (ltb new.thread p.thread) refl
  where
    go : (p.thread < new.thread → RiseFrom p.thread (as_group (put_in new parked))) → (o : Bool) → ltb new.thread p.thread ≡ o
        → RiseFrom low (as_group (cond o (new ∷ p ∷ parked) (p ∷ put_in new parked)))
    go ih true w = (h, (ltb-true new.thread p.thread w, r.1))
    go ih false w = (r.0, ih (above w))
      where
        above : ltb new.thread p.thread ≡ false → p.thread < new.thread
        above w = (let k : p.thread ≤ new.thread = ltb-false new.thread p.thread w in elim (eq-or-lt_of_le k) [ inl e ↦ absurd (none (inl e)) | inr l ↦ l ])

pub put_group : (new : Parked) (parked : List Parked) → IsGroup (as_group parked) → (¬ HasThread parked new.thread) → IsGroup (as_group (put_in new parked))
put_group new [] r none = tt
put_group new (p ∷ parked) r none = go (ltb new.thread p.thread) refl
  where
    go : (o : Bool) → ltb new.thread p.thread ≡ o → IsGroup (as_group (cond o (new ∷ p ∷ parked) (p ∷ put_in new parked)))
    go true w = (ltb-true new.thread p.thread w, r)
    go false w = put_rises p.thread new parked (let k : p.thread ≤ new.thread = ltb-false new.thread p.thread w in elim
        (eq-or-lt_of_le k) [ inl e ↦ absurd (none (inl e)) | inr l ↦ l ]) r (λ k. none (inr k))

has_by_member : (parked : List Parked) (t : ℕ) (e : Member) → member_of t (as_group parked) ≡ Some e → HasThread parked t
has_by_member [] t e h = cc
has_by_member (p ∷ parked) t e h = go (has_by_member parked t e) (nat_eq p.thread t) refl h
  where
    go : (member_of t (as_group parked) ≡ Some e → HasThread parked t) → (o : Bool) → nat_eq p.thread t ≡ o → cond o (Some (as_member p)) (member_of t (as_group parked)) ≡ Some e
        → HasThread (p ∷ parked) t
    go ih true w h = inl (eqb-true p.thread t w)
    go ih false w h = inr (ih h)

pub put_among : (new : Parked) (parked : List Parked) → (¬ HasThread parked new.thread) → EventsAreAmong (as_group parked) (as_group (put_in new parked))
put_among new parked none t e h = found parked (λ s. none (subst (HasThread parked) (sym s) (has_by_member parked t e h))) h
  where
    found : (parked : List Parked) → (new.thread ≢ t) → member_of t (as_group parked) ≡ Some e → member_of t (as_group (put_in new parked)) ≡ Some e
    found [] ne h = cc
    found (p ∷ parked) ne h = go (ltb new.thread p.thread) h (found parked ne)
      where
        skip : (o : Bool) → nat_eq new.thread t ≡ o → cond o (Some (as_member new)) (member_of t (as_group (p ∷ parked))) ≡ member_of t (as_group (p ∷ parked))
        skip true w = absurd (ne (eqb-true new.thread t w))
        skip false w = refl

        under : (o : Bool) → cond o (Some (as_member p)) (member_of t (as_group parked)) ≡ Some e
            → (member_of t (as_group parked) ≡ Some e → member_of t (as_group (put_in new parked)) ≡ Some e)
            → cond o (Some (as_member p)) (member_of t (as_group (put_in new parked))) ≡ Some e
        under true h ih = h
        under false h ih = ih h

        go : (o : Bool) → member_of t (as_group (p ∷ parked)) ≡ Some e → (member_of t (as_group parked) ≡ Some e → member_of t (as_group (put_in new parked)) ≡ Some e)
            → member_of t (as_group (cond o (new ∷ p ∷ parked) (p ∷ put_in new parked))) ≡ Some e
        go true h ih = skip (nat_eq new.thread t) refl ∙ h
        go false h ih = under (nat_eq p.thread t) h ih

-- ---- one less

pub without_is : (parked : List Parked) (t i : ℕ) → IsPlaceWith parked t i → remove parked i ≡ without t parked
without_is [] t i h = (let e : slice_get [] i ≡ Some h.event = h.is in cc)
without_is (p ∷ parked) t zero h = (let one : p ≡ h.event = (let e : Some p ≡ Some h.event = h.is in cc) in ap (λ o. cond o parked (p ∷ without t parked))
    (sym (eq-eqb p.thread t (ap (λ q. q.thread) one ∙ h.of))))
without_is (p ∷ parked) t (suc i) h = go (without_is parked t i) (nat_eq p.thread t) refl
  where
    rest : IsPlaceWith parked t i
    rest = record { event = h.event; is = h.is; of = h.of; before = λ j q l e. h.before (suc j) q (omega (arith, l)) e }

    go : (IsPlaceWith parked t i → remove parked i ≡ without t parked) → (o : Bool) → nat_eq p.thread t ≡ o → p ∷ remove parked i ≡ cond o parked (p ∷ without t parked)
    go ih true w = absurd (h.before 0 p (omega arith) refl (eqb-true p.thread t w))
    go ih false w = ap (λ r. p ∷ r) (ih rest)

lower : (low high : ℕ) (parked : List Parked) → low < high → RiseFrom high (as_group parked) → RiseFrom low (as_group parked)
lower low high [] h r = tt
lower low high (p ∷ parked) h r = ((let z : high < p.thread = r.0 in let k : low < p.thread = omega (arith, h, z) in k), r.1)

less_rises : (t low : ℕ) (parked : List Parked) → RiseFrom low (as_group parked) → RiseFrom low (as_group (without t parked))
less_rises t low [] r = tt
less_rises t low (p ∷ parked) r = go (less_rises t p.thread parked r.1) (nat_eq p.thread t)
  where
    go : RiseFrom p.thread (as_group (without t parked)) → (o : Bool) → RiseFrom low (as_group (cond o parked (p ∷ without t parked)))
    go ih true = lower low p.thread parked r.0 r.1
    go ih false = (r.0, ih)

pub without_group : (t : ℕ) (parked : List Parked) → IsGroup (as_group parked) → IsGroup (as_group (without t parked))
without_group t [] r = tt
without_group t (p ∷ parked) r = go (nat_eq p.thread t)
  where
    plain : (parked : List Parked) → RiseFrom p.thread (as_group parked) → IsGroup (as_group parked)
    plain [] r = tt
    plain (q ∷ parked) r = r.1

    go : (o : Bool) → IsGroup (as_group (cond o parked (p ∷ without t parked)))
    go true = plain parked r
    go false = less_rises t p.thread parked r

-- another thread's event is still there
pub without_found : (s : ℕ) (parked : List Parked) (t : ℕ) (e : Member) → (s ≢ t) → member_of t (as_group parked) ≡ Some e → member_of t (as_group (without s parked)) ≡ Some e
without_found s [] t e ne h = cc
without_found s (p ∷ parked) t e ne h = go (without_found s parked t e ne) (nat_eq p.thread s) refl h
  where
    skip : (o : Bool) → nat_eq p.thread t ≡ o → p.thread ≡ s → cond o (Some (as_member p)) (member_of t (as_group parked)) ≡ Some e → member_of t (as_group parked) ≡ Some e
    skip true w same h = absurd (ne (sym same ∙ eqb-true p.thread t w))
    skip false w same h = h

    under : (member_of t (as_group parked) ≡ Some e → member_of t (as_group (without s parked)) ≡ Some e) → (o : Bool)
        → cond o (Some (as_member p)) (member_of t (as_group parked)) ≡ Some e → cond o (Some (as_member p)) (member_of t (as_group (without s parked))) ≡ Some e
    under ih true h = h
    under ih false h = ih h

    go : (member_of t (as_group parked) ≡ Some e → member_of t (as_group (without s parked)) ≡ Some e) → (o : Bool) → nat_eq p.thread s ≡ o
        → member_of t (as_group (p ∷ parked)) ≡ Some e → member_of t (as_group (cond o parked (p ∷ without s parked))) ≡ Some e
    go ih true w h = skip (nat_eq p.thread t) refl (eqb-true p.thread s w) h
    go ih false w h = under ih (nat_eq p.thread t) h
