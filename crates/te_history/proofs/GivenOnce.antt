-- A caller that is given an outcome under a ticket, or took one, was named under it once in all commits, with that outcome.
use Rattle.std.proofs.Common.{◌≡◌, ◌≢◌, ◌⊎◌, inl, inr, ℕ, zero, suc, ◌<◌, ◌≤◌, Bool, true, false, List, [], ◌∷◌, ◌++◌, Option, Some, replicate, refl, ap, sym, ◌∙◌, subst, arith, append_assoc, eq-eqb}
use Rattle.std.specs.List.{slice_get}
use Rattle.std.proofs.lemmas.List.{append-nil}
use Rattle.te_terms.specs.declared.event.Outcome.{Outcome}
use Rattle.te_terms.specs.Terms.{Term}
use Rattle.te_history.specs.declared.entry.Entry.{Entry}
use Rattle.te_history.specs.declared.entry.Entry.TheVariants.{Post, Commit, Withdraw, Take, Rest, Stuck, End}
use Rattle.te_history.specs.declared.status.How.{How}
use Rattle.te_history.specs.declared.status.How.TheVariants as ways
use Rattle.te_history.specs.State.{Standing, idle, parked, given, ended, State, with_standing, with_given, changed, state, is_post_by, posts_by}
use Rattle.te_history.specs.Follows.{Stands, MayEndAs, LooselyFollows, IsLoose}
use Rattle.te_history.specs.Givings.{givings_of, givings}
use Rattle.te_history.proofs.AfterEntry.{state-after, counted, posts_by-after}
use Rattle.te_history.proofs.Commits.{same_or_other, stands_put, stands_other, Touch, untouched, touched, touch}
use Rattle.te_history.proofs.Growing.{grows, in_longer}

-- where a caller stands with a ticket, and what it took, the commits so far are these
record IsOnce (callers : ℕ) (h : List Entry) (t : ℕ) : Type 0 where
  fresh : (ticket : ℕ) → posts_by t h ≤ ticket → givings t ticket h ≡ []
  parked_so : (ticket : ℕ) (event : Term) → Stands (state callers h) t (parked ticket event) → (ticket < posts_by t h) × (givings t ticket h ≡ [])
  given_so : (ticket : ℕ) (outcome : Outcome) → Stands (state callers h) t (given ticket outcome)
      → (ticket < posts_by t h) × (givings t ticket h ≡ Some outcome ∷ [])
  taken_so : (ticket : ℕ) (outcome : Outcome) (k : ℕ) → slice_get h k ≡ Some (Take t ticket outcome)
      → (ticket < posts_by t h) × (givings t ticket h ≡ Some outcome ∷ [])

givings-after : (t ticket : ℕ) (h : List Entry) (e : Entry) → givings t ticket (h ++ e ∷ []) ≡ givings t ticket h ++ givings_of t ticket e
givings-after t ticket [] e = append-nil (givings_of t ticket e)
givings-after t ticket (x ∷ xs) e =
    ap (λ (l : List (Option Outcome)). givings_of t ticket x ++ l) (givings-after t ticket xs e) ∙ sym (append_assoc (givings_of t ticket x) (givings t ticket xs) (givings_of t ticket e))

counted_above : (b : Bool) (n : ℕ) → n ≤ counted b n
counted_above true n = omega arith
counted_above false n = omega arith

-- an entry that gives this caller nothing, is no new take of its, and lets it be parked or given only where it was
same_after : (callers : ℕ) (h : List Entry) (t : ℕ) (e : Entry) → IsOnce callers h t → ((ticket : ℕ) → givings_of t ticket e ≡ [])
    → ((ticket : ℕ) (event : Term) → Stands (changed (state callers h) e) t (parked ticket event)
    → Stands (state callers h) t (parked ticket event) ⊎ ((ticket ≡ posts_by t h) × (is_post_by t e ≡ true)))
    → ((ticket : ℕ) (outcome : Outcome) → Stands (changed (state callers h) e) t (given ticket outcome) → Stands (state callers h) t (given ticket outcome))
    → ((ticket : ℕ) (outcome : Outcome) → Take t ticket outcome ≡ e → Stands (state callers h) t (given ticket outcome))
    → IsOnce callers (h ++ e ∷ []) t
same_after callers h t e once none park give take = record {
  fresh = λ ticket high. let more = counted_above (is_post_by t e) (posts_by t h) in same ticket [] (once.fresh ticket (omega (arith, counts, more)));
  parked_so = λ ticket event stands. by_post ticket event (park ticket event (subst (λ (s : State). Stands s t (parked ticket event)) (state-after callers h e) stands));
  given_so = λ ticket outcome stands.
      higher ticket outcome (once.given_so ticket outcome (give ticket outcome (subst (λ (s : State). Stands s t (given ticket outcome))
      (state-after callers h e) stands)));
  taken_so = λ ticket outcome k is. by_place ticket outcome k (in_longer h k (Take t ticket outcome) e is);
}
  where
    counts : posts_by t (h ++ e ∷ []) ≡ counted (is_post_by t e) (posts_by t h)
    counts = posts_by-after t h e

    same : (ticket : ℕ) (is : List (Option Outcome)) → givings t ticket h ≡ is → givings t ticket (h ++ e ∷ []) ≡ is
    same ticket is was =
        givings-after t ticket h e ∙ ap (λ (l : List (Option Outcome)). givings t ticket h ++ l) (none ticket) ∙ append-nil (givings t ticket h) ∙ was

    higher : (ticket : ℕ) (outcome : Outcome) → (ticket < posts_by t h) × (givings t ticket h ≡ Some outcome ∷ [])
        → (ticket < posts_by t (h ++ e ∷ [])) × (givings t ticket (h ++ e ∷ []) ≡ Some outcome ∷ [])
    higher ticket outcome was =
        let low = was.0 in
        let more = counted_above (is_post_by t e) (posts_by t h) in
        (omega (arith, counts, more, low), same ticket (Some outcome ∷ []) was.1)

    by_post : (ticket : ℕ) (event : Term) → Stands (state callers h) t (parked ticket event) ⊎ ((ticket ≡ posts_by t h) × (is_post_by t e ≡ true))
        → (ticket < posts_by t (h ++ e ∷ [])) × (givings t ticket (h ++ e ∷ []) ≡ [])
    by_post ticket event (inl stands) =
        let was = once.parked_so ticket event stands in
        let low = was.0 in
        let more = counted_above (is_post_by t e) (posts_by t h) in
        (omega (arith, counts, more, low), same ticket [] was.1)
    by_post ticket event (inr new) =
        let one : posts_by t (h ++ e ∷ []) ≡ suc (posts_by t h) = counts ∙ ap (λ (b : Bool). counted b (posts_by t h)) new.1 in
        let is = new.0 in
        (omega (arith, one, is), same ticket [] (once.fresh ticket (omega (arith, is))))

    by_place : (ticket : ℕ) (outcome : Outcome) (k : ℕ) → (slice_get h k ≡ Some (Take t ticket outcome)) ⊎ (Take t ticket outcome ≡ e)
        → (ticket < posts_by t (h ++ e ∷ [])) × (givings t ticket (h ++ e ∷ []) ≡ Some outcome ∷ [])
    by_place ticket outcome k (inl before) = higher ticket outcome (once.taken_so ticket outcome k before)
    by_place ticket outcome k (inr last) = higher ticket outcome (once.given_so ticket outcome (take ticket outcome last))

-- a caller that stands with a ticket after another's entry stood so before
was_there : (s : State) (by t : ℕ) (new x : Standing) → by ≢ t → Stands (with_standing by new s) t x → Stands s t x
was_there s by t new x other stands = sym (stands_other s by t new other) ∙ stands

is_new : (s : State) (t : ℕ) (old new x : Standing) → Stands s t old → Stands (with_standing t new s) t x → new ≡ x
is_new s t old new x at stands = let both : Some new ≡ Some x = sym (stands_put s t old new at) ∙ stands in cc

-- a caller's own entry after which it stands with no ticket, and another's
leaves : (s : State) (by t : ℕ) (old new x : Standing) → Stands s by old → new ≢ x → Stands (with_standing by new s) t x → Stands s t x
leaves s by t old new x at apart stands = by_caller (same_or_other by t)
  where
    by_caller : (by ≡ t) ⊎ (by ≢ t) → Stands s t x
    by_caller (inr other) = was_there s by t new x other stands
    by_caller (inl same) =
        absurd (apart (is_new s by old new x at (subst (λ (k : ℕ). Stands (with_standing by new s) k x) (sym same) stands)))

once_after : (callers : ℕ) (t : ℕ) (h : List Entry) (e : Entry) → LooselyFollows callers h e → IsOnce callers h t → IsOnce callers (h ++ e ∷ []) t
once_after callers t h (Post by under posted) follows once =
    same_after callers h t (Post by under posted) once (λ ticket. refl) by_caller
    (λ ticket outcome. leaves (state callers h) by t idle (parked under posted) (given ticket outcome) follows.1 (λ is. cc))
    (λ ticket outcome is. absurd cc)
  where
    by_caller : (ticket : ℕ) (event : Term) → Stands (with_standing by (parked under posted) (state callers h)) t (parked ticket event)
        → Stands (state callers h) t (parked ticket event) ⊎ ((ticket ≡ posts_by t h) × (is_post_by t (Post by under posted) ≡ true))
    by_caller ticket event stands = by_thread (same_or_other by t)
      where
        by_thread : (by ≡ t) ⊎ (by ≢ t) → Stands (state callers h) t (parked ticket event) ⊎ ((ticket ≡ posts_by t h) × (is_post_by t (Post by under posted) ≡ true))
        by_thread (inr other) = inl (was_there (state callers h) by t (parked under posted) (parked ticket event) other stands)
        by_thread (inl same) =
            let is : parked under posted ≡ parked ticket event =
            is_new (state callers h) by idle (parked under posted) (parked ticket event) follows.1
            (subst (λ (k : ℕ). Stands (with_standing by (parked under posted) (state callers h)) k (parked ticket event)) (sym same) stands) in
            let ticket_is : under ≡ ticket = cc in
            inr (sym ticket_is ∙ follows.2 ∙ ap (λ (k : ℕ). posts_by k h) same, eq-eqb by t same)
once_after callers t h (Withdraw by under) follows once =
    same_after callers h t (Withdraw by under) once (λ ticket. refl)
    (λ ticket event stands. inl (leaves (state callers h) by t _ idle (parked ticket event) follows.1.1 (λ is. cc) stands))
    (λ ticket outcome. leaves (state callers h) by t _ idle (given ticket outcome) follows.1.1 (λ is. cc))
    (λ ticket outcome is. absurd cc)
once_after callers t h (Take by under due) follows once =
    same_after callers h t (Take by under due) once (λ ticket. refl)
    (λ ticket event stands. inl (leaves (state callers h) by t _ idle (parked ticket event) follows.1 (λ is. cc) stands))
    (λ ticket outcome. leaves (state callers h) by t _ idle (given ticket outcome) follows.1 (λ is. cc))
    (λ ticket outcome is.
    let caller : by ≡ t = cc in
    let one : under ≡ ticket = cc in
    let gets : due ≡ outcome = cc in
    subst (λ (k : ℕ). Stands (state callers h) k (given ticket outcome)) caller
    (subst (λ (n : ℕ). Stands (state callers h) by (given n outcome)) one (subst (λ (o : Outcome). Stands (state callers h) by (given under o)) gets follows.1)))
once_after callers t h (Rest by) follows once =
    same_after callers h t (Rest by) once (λ ticket. refl) (λ ticket event stands. inl stands) (λ ticket outcome stands. stands) (λ ticket outcome is. absurd cc)
once_after callers t h (Stuck by) follows once =
    same_after callers h t (Stuck by) once (λ ticket. refl) (λ ticket event stands. inl stands) (λ ticket outcome stands. stands) (λ ticket outcome is. absurd cc)
once_after callers t h (End by how) follows once =
    let old = stood how follows in
    same_after callers h t (End by how) once (λ ticket. refl)
    (λ ticket event stands. inl (leaves (state callers h) by t old.0 ended (parked ticket event) old.1 (λ is. cc) stands))
    (λ ticket outcome. leaves (state callers h) by t old.0 ended (given ticket outcome) old.1 (λ is. cc))
    (λ ticket outcome is. absurd cc)
  where
    stood : (how : How) → MayEndAs (state callers h) by how → (x : Standing) × Stands (state callers h) by x
    stood (ways.Done values) ends = (idle, ends.1)
    stood (ways.Raised value) ends = (idle, ends.1)
    stood ways.Stuck ends = (_, ends.1.2)
once_after callers t h (Commit by cert outcomes) follows once = by_touch (touch t (state callers h) cert outcomes follows.2)
  where
    by_touch : Touch t cert.members outcomes (state callers h) (with_given cert.members outcomes (state callers h)) → IsOnce callers (h ++ Commit by cert outcomes ∷ []) t
    by_touch (untouched same none) =
        same_after callers h t (Commit by cert outcomes) once none (λ ticket event stands. inl (sym same ∙ stands)) (λ ticket outcome stands. sym same ∙ stands)
        (λ ticket outcome is. absurd cc)
    by_touch (touched under event due was is one none) = record {
      fresh = λ ticket high.
          let low = before.0 in
          let apart : under ≢ ticket = λ same. omega (arith, same, counts, low, high) in
          others ticket apart [] (once.fresh ticket (omega (arith, counts, high)));
      parked_so = λ ticket other stands. absurd (no_park ticket other (subst (λ (s : State). Stands s t (parked ticket other)) (state-after callers h (Commit by cert outcomes)) stands));
      given_so = λ ticket outcome stands. now_given ticket outcome (subst (λ (s : State). Stands s t (given ticket outcome)) (state-after callers h (Commit by cert outcomes)) stands);
      taken_so = λ ticket outcome k at. by_place ticket outcome k (in_longer h k (Take t ticket outcome) (Commit by cert outcomes) at);
    }
      where
        before : (under < posts_by t h) × (givings t under h ≡ [])
        before = once.parked_so under event was

        counts : posts_by t (h ++ Commit by cert outcomes ∷ []) ≡ posts_by t h
        counts = posts_by-after t h (Commit by cert outcomes)

        others : (ticket : ℕ) → under ≢ ticket → (are : List (Option Outcome)) → givings t ticket h ≡ are → givings t ticket (h ++ Commit by cert outcomes ∷ []) ≡ are
        others ticket apart are so =
            givings-after t ticket h (Commit by cert outcomes) ∙ ap (λ (l : List (Option Outcome)). givings t ticket h ++ l) (none ticket apart)
            ∙ append-nil (givings t ticket h) ∙ so

        no_park : (ticket : ℕ) (other : Term) → Stands (with_given cert.members outcomes (state callers h)) t (parked ticket other) → ⊥
        no_park ticket other stands = let both : Some (given under due) ≡ Some (parked ticket other) = sym is ∙ stands in cc

        now_given : (ticket : ℕ) (outcome : Outcome) → Stands (with_given cert.members outcomes (state callers h)) t (given ticket outcome)
            → (ticket < posts_by t (h ++ Commit by cert outcomes ∷ [])) × (givings t ticket (h ++ Commit by cert outcomes ∷ []) ≡ Some outcome ∷ [])
        now_given ticket outcome stands =
            let both : Some (given under due) ≡ Some (given ticket outcome) = sym is ∙ stands in
            let ticket_is : under ≡ ticket = cc in
            let gets : due ≡ outcome = cc in
            let low = before.0 in
            let all : givings t under (h ++ Commit by cert outcomes ∷ []) ≡ Some due ∷ [] =
            givings-after t under h (Commit by cert outcomes) ∙ ap (λ (l : List (Option Outcome)). l ++ givings_of t under (Commit by cert outcomes)) before.1 ∙ one in (
              omega (arith, counts, low, ticket_is),
              subst (λ (n : ℕ). givings t n (h ++ Commit by cert outcomes ∷ []) ≡ Some outcome ∷ []) ticket_is (all ∙ ap (λ (o : Outcome). Some o ∷ []) gets),
            )

        by_place : (ticket : ℕ) (outcome : Outcome) (k : ℕ) → (slice_get h k ≡ Some (Take t ticket outcome)) ⊎ (Take t ticket outcome ≡ Commit by cert outcomes)
            → (ticket < posts_by t (h ++ Commit by cert outcomes ∷ [])) × (givings t ticket (h ++ Commit by cert outcomes ∷ []) ≡ Some outcome ∷ [])
        by_place ticket outcome k (inr last) = absurd cc
        by_place ticket outcome k (inl at) =
            let took = once.taken_so ticket outcome k at in
            let low = took.0 in
            let apart : under ≢ ticket = λ same.
            let empty : givings t ticket h ≡ [] = subst (λ (n : ℕ). givings t n h ≡ []) same before.1 in
            let full = took.1 in
            cc in
            (omega (arith, counts, low), others ticket apart (Some outcome ∷ []) took.1)

-- ---- all histories

pub all_idle : (n t : ℕ) (x : Standing) → slice_get (replicate n idle) t ≡ Some x → x ≡ idle
all_idle zero t x is = absurd cc
all_idle (suc n) zero x is = cc
all_idle (suc n) (suc t) x is = all_idle n t x is

first_once : (callers t : ℕ) → IsOnce callers [] t
first_once callers t = record {
  fresh = λ ticket high. refl;
  parked_so = λ ticket event stands. let is = all_idle callers t (parked ticket event) stands in absurd cc;
  given_so = λ ticket outcome stands. let is = all_idle callers t (given ticket outcome) stands in absurd cc;
  taken_so = λ ticket outcome k is. absurd cc;
}

once : (callers : ℕ) (history : List Entry) (t : ℕ) → IsLoose callers history → IsOnce callers history t
once callers history t loose = grows callers (λ h. IsOnce callers h t) (once_after callers t) [] history loose (first_once callers t)

pub taken_once : (callers : ℕ) (history : List Entry) (t ticket : ℕ) (outcome : Outcome) (k : ℕ) → IsLoose callers history
    → slice_get history k ≡ Some (Take t ticket outcome) → givings t ticket history ≡ Some outcome ∷ []
taken_once callers history t ticket outcome k loose is = ((once callers history t loose).taken_so ticket outcome k is).1

pub given_once : (callers : ℕ) (history : List Entry) (t ticket : ℕ) (outcome : Outcome) → IsLoose callers history
    → Stands (state callers history) t (given ticket outcome) → givings t ticket history ≡ Some outcome ∷ []
given_once callers history t ticket outcome loose stands = ((once callers history t loose).given_so ticket outcome stands).1

pub none_yet : (callers : ℕ) (history : List Entry) (t ticket : ℕ) (event : Term) → IsLoose callers history
    → Stands (state callers history) t (parked ticket event) → givings t ticket history ≡ []
none_yet callers history t ticket event loose stands = ((once callers history t loose).parked_so ticket event stands).1

-- the ticket of a parked caller is one of its posts
pub ticket_below : (callers : ℕ) (history : List Entry) (t ticket : ℕ) (event : Term) → IsLoose callers history
    → Stands (state callers history) t (parked ticket event) → ticket < posts_by t history
ticket_below callers history t ticket event loose stands = ((once callers history t loose).parked_so ticket event stands).0
