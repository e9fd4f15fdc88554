-- The event that a caller is parked with is that of its last post.
use Rattle.std.proofs.Common.{◌≡◌, ◌≢◌, ◌⊎◌, inl, inr, ℕ, zero, suc, ◌==◌, Bool, true, false, cond, List, [], ◌∷◌, ◌++◌}
use Rattle.std.proofs.Common.{take, Option, Some, None, refl, sym, ap, subst, ◌∙◌, append_assoc, eqb-true, eq-eqb}
use Rattle.std.proofs.Common.{ne_eqb, replicate}
use Rattle.std.proofs.lemmas.List.{append-nil}
use Rattle.std.specs.Prelude.{slice_get, slice_set}
use Rattle.te_terms.specs.declared.event.Outcome.{Outcome}
use Rattle.te_terms.specs.Terms.{Term}
use Rattle.te_cert.specs.declared.cert.Member.{Member}
use Rattle.te_cert.specs.declared.cert.Cert.{Cert}
use Rattle.te_cert.proofs.Places.{get_set_other}
use Rattle.te_history.specs.declared.entry.Entry.{Entry}
use Rattle.te_history.specs.declared.entry.Entry.TheVariants.{Post, Commit, Withdraw, Take, Rest, Stuck, End}
use Rattle.te_history.specs.State.{Standing, idle, parked, given, ended, State, opening, with_standing, with_given, changed, state_from, state}
use Rattle.te_history.specs.Follows.{Stands, Commits, LooselyFollows, LooseFrom, IsLoose}
use Rattle.te_history.proofs.Commits.{same_or_other}
use Rattle.te_forms.specs.Reading.{posted_by, or_else, last_posted}
use Rattle.te_terms.proofs.Lists.{in_beginning}

-- ---- one standing is put in place

put_is : {X : Type 0} (xs : List X) (i : ℕ) (x y : X) → slice_get (slice_set xs i y) i ≡ Some x → y ≡ x
put_is [] i x y e = absurd cc
put_is (z ∷ xs) zero x y e = cc
put_is (z ∷ xs) (suc i) x y e = put_is xs i x y e

-- a caller that stands so, where another caller's standing, or this one's, was put in place
was_so : (s : State) (by t : ℕ) (new x : Standing) → Stands (with_standing by new s) t x → (x ≡ new) ⊎ Stands s t x
was_so s by t new x stands = by_caller (same_or_other by t)
  where
    by_caller : (by ≡ t) ⊎ (by ≢ t) → (x ≡ new) ⊎ Stands s t x
    by_caller (inl same) =
        inl (sym (put_is s.callers by x new (subst (λ (k : ℕ). slice_get (slice_set s.callers by new) k ≡ Some x) (sym same) stands)))
    by_caller (inr other) = inr (sym (get_set_other s.callers by t new other) ∙ stands)

-- only a post parks
not_parked : (t k : ℕ) (e : Term) (s : State) (by : ℕ) (new : Standing) → (parked k e ≡ new → ⊥) → Stands (with_standing by new s) t (parked k e) → Stands s t (parked k e)
not_parked t k e s by new other stands = by_case (was_so s by t new (parked k e) stands)
  where
    by_case : (parked k e ≡ new) ⊎ Stands s t (parked k e) → Stands s t (parked k e)
    by_case (inl same) = absurd (other same)
    by_case (inr was) = was

given_parked : (t k : ℕ) (e : Term) (ms : List Member) (os : List Outcome) (s : State) → Stands (with_given ms os s) t (parked k e) → Stands s t (parked k e)
given_parked t k e [] os s stands = stands
given_parked t k e (m ∷ ms) [] s stands = stands
given_parked t k e (m ∷ ms) (o ∷ os) s stands =
    not_parked t k e s m.thread (given m.ticket o) (λ same. cc) (given_parked t k e ms os (with_standing m.thread (given m.ticket o) s) stands)

-- ---- the last post

-- by an entry: it posts the event, or it stood so before
By : ℕ → ℕ → Term → State → Entry → Type 0
By t k e s entry = (posted_by t entry ≡ Some e) ⊎ ((posted_by t entry ≡ None) × Stands s t (parked k e))

by_entry : (t k : ℕ) (e : Term) (s : State) (entry : Entry) → Stands (changed s entry) t (parked k e) → By t k e s entry
unfolding By
by_entry t k e s (Post by ticket event) stands = by_caller (same_or_other by t)
  where
    by_caller : (by ≡ t) ⊎ (by ≢ t) → (cond {A = Option Term} (by == t) (Some event) None ≡ Some e) ⊎ ((cond {A = Option Term} (by == t) (Some event) None ≡ None) × Stands s t (parked k e))
    by_caller (inl same) =
        let new : parked ticket event ≡ parked k e =
        put_is s.callers by (parked k e) (parked ticket event) (subst (λ (j : ℕ). slice_get (slice_set s.callers by (parked ticket event)) j ≡ Some (parked k e)) (sym same) stands) in
        let one : event ≡ e = cc in
        inl (ap (λ (b : Bool). cond {A = Option Term} b (Some event) None) (eq-eqb by t same) ∙ ap Some one)
    by_caller (inr other) =
        inr (
          ap (λ (b : Bool). cond {A = Option Term} b (Some event) None) (ne_eqb by t other),
          sym (get_set_other s.callers by t (parked ticket event) other) ∙ stands,
        )
by_entry t k e s (Commit by cert outcomes) stands = inr (refl, given_parked t k e cert.members outcomes s stands)
by_entry t k e s (Withdraw by ticket) stands = inr (refl, not_parked t k e s by idle (λ same. cc) stands)
by_entry t k e s (Take by ticket outcome) stands = inr (refl, not_parked t k e s by idle (λ same. cc) stands)
by_entry t k e s (Rest by) stands = inr (refl, stands)
by_entry t k e s (Stuck by) stands = inr (refl, stands)
by_entry t k e s (End by how) stands = inr (refl, not_parked t k e s by ended (λ same. cc) stands)

-- among entries: one posts the event, and none after it posts another; or it stood so before
Among : ℕ → ℕ → Term → State → List Entry → Type 0
Among t k e s h = (last_posted t h ≡ Some e) ⊎ ((last_posted t h ≡ None) × Stands s t (parked k e))

one_more : (t k : ℕ) (e : Term) (s : State) (entry : Entry) (es : List Entry) → last_posted t es ≡ None → By t k e s entry → Among t k e s (entry ∷ es)
unfolding By Among
one_more t k e s entry es none (inl posts) = inl (ap (λ (o : Option Term). or_else o (posted_by t entry)) none ∙ posts)
one_more t k e s entry es none (inr was) = inr (ap (λ (o : Option Term). or_else o (posted_by t entry)) none ∙ was.0, was.1)

among : (t k : ℕ) (e : Term) (s : State) (h : List Entry) → Stands (state_from s h) t (parked k e) → Among t k e s h
unfolding Among
among t k e s [] stands = inr (refl, stands)
among t k e s (entry ∷ es) stands = by_rest (among t k e (changed s entry) es stands)
  where
    by_rest : (last_posted t es ≡ Some e) ⊎ ((last_posted t es ≡ None) × Stands (changed s entry) t (parked k e)) → Among t k e s (entry ∷ es)
    by_rest (inl posts) = inl (ap (λ (o : Option Term). or_else o (posted_by t entry)) posts)
    by_rest (inr before) = one_more t k e s entry es before.0 (by_entry t k e s entry before.1)

nobody_parked : (callers t k : ℕ) (e : Term) → slice_get (replicate callers idle) t ≡ Some (parked k e) → ⊥
nobody_parked zero t k e at = cc
nobody_parked (suc n) zero k e at = cc
nobody_parked (suc n) (suc t) k e at = nobody_parked n t k e at

pub parked_posted : (callers : ℕ) (h : List Entry) (t k : ℕ) (e : Term) → Stands (state callers h) t (parked k e) → last_posted t h ≡ Some e
unfolding Among
parked_posted callers h t k e stands = by_case (among t k e (opening callers) h stands)
  where
    by_case : (last_posted t h ≡ Some e) ⊎ ((last_posted t h ≡ None) × Stands (opening callers) t (parked k e)) → last_posted t h ≡ Some e
    by_case (inl posts) = posts
    by_case (inr before) = absurd (nobody_parked callers t k e before.1)

-- ---- where it stands

pub record PostedAt (h : List Entry) (t : ℕ) (e : Term) : Type 0 where
  pub place : ℕ
  pub ticket : ℕ
  pub is_there : slice_get h place ≡ Some (Post t ticket e)

posts_so : (t : ℕ) (entry : Entry) (e : Term) → posted_by t entry ≡ Some e → (ticket : ℕ) × (entry ≡ Post t ticket e)
posts_so t (Post by ticket event) e is = by_test (by == t) refl is
  where
    by_test : (b : Bool) → (by == t) ≡ b → cond {A = Option Term} b (Some event) None ≡ Some e → (k : ℕ) × (Post by ticket event ≡ Post t k e)
    by_test true same so =
        let one : event ≡ e = cc in
        let who = eqb-true by t same in
        (ticket, λ i. Post (who i) ticket (one i))
    by_test false apart so = absurd cc
posts_so t _ e is = absurd cc

pub posted_there : (t : ℕ) (h : List Entry) (e : Term) → last_posted t h ≡ Some e → PostedAt h t e
posted_there t [] e is = absurd cc
posted_there t (entry ∷ es) e is = by_rest (last_posted t es) (λ x so. posted_there t es x so) is
  where
    by_rest : (o : Option Term) → ((x : Term) → o ≡ Some x → PostedAt es t x) → or_else o (posted_by t entry) ≡ Some e → PostedAt (entry ∷ es) t e
    by_rest (Some x) rest so =
        let same : x ≡ e = cc in
        let there = rest x refl in
        record { place = suc there.place; ticket = there.ticket; is_there = there.is_there ∙ ap (λ (y : Term). Some (Post t there.ticket y)) same }
    by_rest None rest so = let here = posts_so t entry e so in record { place = 0; ticket = here.0; is_there = ap Some here.1 }

-- ---- beginnings of histories

follows_from : (callers : ℕ) (before history : List Entry) (n : ℕ) (e : Entry) → LooseFrom callers before history → slice_get history n ≡ Some e
    → LooselyFollows callers (before ++ take n history) e
follows_from callers before [] n e loose at = absurd cc
follows_from callers before (x ∷ xs) zero e loose at =
    let same : x ≡ e = cc in
    let here : LooselyFollows callers (before ++ []) x = subst (λ (h : List Entry). LooselyFollows callers h x) (sym (append-nil before)) loose.0 in
    subst (LooselyFollows callers (before ++ [])) same here
follows_from callers before (x ∷ xs) (suc n) e loose at =
    subst (λ (h : List Entry). LooselyFollows callers h e) (append_assoc before (x ∷ []) (take n xs)) (follows_from callers (before ++ x ∷ []) xs n e loose.1 at)

-- each entry of a loose history follows those before it
pub entry_follows : (callers : ℕ) (history : List Entry) (n : ℕ) (e : Entry) → IsLoose callers history → slice_get history n ≡ Some e
    → LooselyFollows callers (take n history) e
entry_follows callers history n e loose at = follows_from callers [] history n e loose at

pub commits_so : (callers : ℕ) (history : List Entry) (n by : ℕ) (cert : Cert) (outcomes : List Outcome) → IsLoose callers history
    → slice_get history n ≡ Some (Commit by cert outcomes) → Commits (state callers (take n history)) cert outcomes
commits_so callers history n by cert outcomes loose at = (entry_follows callers history n (Commit by cert outcomes) loose at).2
