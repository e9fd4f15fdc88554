-- Where a caller stands after a commit: a member is given its outcome, and nobody else is touched.
use Rattle.std.proofs.Common.{◌≡◌, ◌≢◌, ◌⊎◌, inl, inr, ℕ, ◌<◌, ◌≤◌, ◌==◌, ◌&&◌, Bool, List, [], ◌∷◌, length, map, Option, Some, refl, ap, sym, ◌∙◌, subst, arith, eq-eqb, ne_eqb}
use Rattle.std.specs.List.{slice_get}
use Rattle.std.proofs.lemmas.Bool.{cases_lt}
use Rattle.te_terms.specs.declared.event.Outcome.{Outcome}
use Rattle.te_terms.specs.Terms.{Term}
use Rattle.te_terms.specs.Steps as steps
use Rattle.te_cert.specs.declared.cert.Member.{Member}
use Rattle.te_cert.specs.Certificates.{Certificate}
use Rattle.te_cert.specs.Checks.{RiseAfter, ThreadsRise}
use Rattle.te_cert.proofs.Places.{get_set_same, get_set_other}
use Rattle.te_history.specs.State.{Standing, parked, given, State, with_standing, with_given}
use Rattle.te_history.specs.Follows.{Stands, AreEvents, Commits}
use Rattle.te_history.specs.Givings.{names, item_if, given_among}
use Rattle.te_history.proofs.PlayLengths.{length-play}
use Rattle.te_history.proofs.RoomNeverRises.{events_after, rise_rest, as_many_events}

pub same_or_other : (a b : ℕ) → (a ≡ b) ⊎ (a ≢ b)
same_or_other a b = by_side (cases_lt a b) (cases_lt b a)
  where
    by_side : (a < b) ⊎ (b ≤ a) → (b < a) ⊎ (a ≤ b) → (a ≡ b) ⊎ (a ≢ b)
    by_side (inl low) _ = inr (λ same. omega arith)
    by_side (inr _) (inl low) = inr (λ same. omega arith)
    by_side (inr high) (inr high') = inl (omega arith)

-- the caller of a standing that is put in place, and any other
pub stands_put : (s : State) (t : ℕ) (old new : Standing) → Stands s t old → Stands (with_standing t new s) t new
stands_put s t old new at = get_set_same s.callers t old new at

pub stands_other : (s : State) (t k : ℕ) (new : Standing) → t ≢ k → slice_get (with_standing t new s).callers k ≡ slice_get s.callers k
stands_other s t k new other = get_set_other s.callers t k new other

not_named : (t ticket : ℕ) (m : Member) (o : Option Outcome) (os : List (Option Outcome)) → m.thread ≢ t → item_if (names t ticket m) o os ≡ os
not_named t ticket m o os other = ap (λ (b : Bool). item_if (b && (m.ticket == ticket)) o os) (ne_eqb m.thread t other)

other_ticket : (t ticket : ℕ) (m : Member) (o : Option Outcome) (os : List (Option Outcome)) → m.thread ≡ t → m.ticket ≢ ticket
    → item_if (names t ticket m) o os ≡ os
other_ticket t ticket m o os same other =
    ap (λ (b : Bool). item_if (b && (m.ticket == ticket)) o os) (eq-eqb m.thread t same) ∙ ap (λ (b : Bool). item_if b o os) (ne_eqb m.ticket ticket other)

is_named : (t : ℕ) (m : Member) (o : Option Outcome) (os : List (Option Outcome)) → m.thread ≡ t → item_if (names t m.ticket m) o os ≡ o ∷ os
is_named t m o os same =
    ap (λ (b : Bool). item_if (b && (m.ticket == m.ticket)) o os) (eq-eqb m.thread t same) ∙ ap (λ (b : Bool). item_if b o os) (eq-eqb m.ticket m.ticket refl)

-- members above a thread touch it not
above : (t low : ℕ) (ms : List Member) (os : List Outcome) (s : State) → t ≤ low → RiseAfter low ms → length os ≡ length ms
    → (slice_get (with_given ms os s).callers t ≡ slice_get s.callers t) × ((ticket : ℕ) → given_among t ticket ms os ≡ [])
above t low [] os s under rise many = (refl, λ ticket. refl)
above t low (m ∷ ms) [] s under rise many = absurd (omega arith)
above t low (m ∷ ms) (o ∷ os) s under rise many =
    let higher = rise.0 in
    let apart : m.thread ≢ t = λ same. omega arith in
    let rest = above t m.thread ms os (with_standing m.thread (given m.ticket o) s) (omega arith) rise.1 (omega arith) in (
      rest.0 ∙ stands_other s m.thread t (given m.ticket o) apart,
      λ ticket. not_named t ticket m (Some o) (given_among t ticket ms os) apart ∙ rest.1 ticket,
    )

-- what a commit does to a caller
pub data Touch (t : ℕ) (ms : List Member) (os : List Outcome) (s after : State) : Type 0 where
  untouched : slice_get after.callers t ≡ slice_get s.callers t → ((ticket : ℕ) → given_among t ticket ms os ≡ []) → Touch t ms os s after
  touched : (ticket : ℕ) (event : Term) (o : Outcome) → Stands s t (parked ticket event) → Stands after t (given ticket o)
      → given_among t ticket ms os ≡ Some o ∷ [] → ((other : ℕ) → ticket ≢ other → given_among t other ms os ≡ []) → Touch t ms os s after

-- members whose threads rise, each with an outcome
touch_among : (t : ℕ) (ms : List Member) (group : List steps.Member) (os : List Outcome) (s : State) → ThreadsRise ms → AreEvents s ms group
    → length os ≡ length ms → Touch t ms os s (with_given ms os s)
touch_among t [] group os s rise events many = untouched refl (λ ticket. refl)
touch_among t (m ∷ ms) [] os s rise events many = absurd events
touch_among t (m ∷ ms) (g ∷ gs) [] s rise events many = absurd (omega arith)
touch_among t (m ∷ ms) (g ∷ gs) (o ∷ os) s rise events many =
    by_thread (same_or_other m.thread t)
    (touch_among t ms gs os (with_standing m.thread (given m.ticket o) s) (rise_rest m.thread ms rise)
    (events_after s m.thread (given m.ticket o) ms gs rise events.2) (omega arith))
  where
    head : m.thread ≡ t → Touch t (m ∷ ms) (o ∷ os) s (with_given ms os (with_standing m.thread (given m.ticket o) s))
    head same =
        let rest = above t m.thread ms os (with_standing m.thread (given m.ticket o) s) (omega arith) rise (omega arith) in
        let was : Stands s t (parked m.ticket g.term) = subst (λ (k : ℕ). Stands s k (parked m.ticket g.term)) same events.1 in
        let is : Stands (with_standing m.thread (given m.ticket o) s) t (given m.ticket o) =
        subst (λ (k : ℕ). Stands (with_standing m.thread (given m.ticket o) s) k (given m.ticket o)) same (stands_put s m.thread (parked m.ticket g.term) (given m.ticket o) events.1) in
        touched m.ticket g.term o was (rest.0 ∙ is)
        (is_named t m (Some o) (given_among t m.ticket ms os) same ∙ ap (λ (xs : List (Option Outcome)). Some o ∷ xs) (rest.1 m.ticket))
        (λ other apart. other_ticket t other m (Some o) (given_among t other ms os) same apart ∙ rest.1 other)

    tail : m.thread ≢ t → Touch t ms os (with_standing m.thread (given m.ticket o) s) (with_given ms os (with_standing m.thread (given m.ticket o) s))
        → Touch t (m ∷ ms) (o ∷ os) s (with_given ms os (with_standing m.thread (given m.ticket o) s))
    tail apart (untouched same none) =
        untouched (same ∙ stands_other s m.thread t (given m.ticket o) apart)
        (λ ticket. not_named t ticket m (Some o) (given_among t ticket ms os) apart ∙ none ticket)
    tail apart (touched ticket event due was is one none) =
        touched ticket event due (sym (stands_other s m.thread t (given m.ticket o) apart) ∙ was) is
        (not_named t ticket m (Some o) (given_among t ticket ms os) apart ∙ one)
        (λ other differs. not_named t other m (Some o) (given_among t other ms os) apart ∙ none other differs)

    by_thread : (m.thread ≡ t) ⊎ (m.thread ≢ t) → Touch t ms os (with_standing m.thread (given m.ticket o) s) (with_given ms os (with_standing m.thread (given m.ticket o) s))
        → Touch t (m ∷ ms) (o ∷ os) s (with_given ms os (with_standing m.thread (given m.ticket o) s))
    by_thread (inl same) rest = head same
    by_thread (inr apart) rest = tail apart rest

pub touch : (t : ℕ) (s : State) (cert : Certificate) (outcomes : List Outcome) → Commits s cert outcomes
    → Touch t cert.members outcomes s (with_given cert.members outcomes s)
touch t s cert outcomes commits =
    touch_among t cert.members commits.group outcomes s commits.rise commits.events
    (length-play commits.group (map (λ m. m.choices) cert.members) cert.meets _ commits.plays ∙ as_many_events s cert.members commits.group commits.events)
