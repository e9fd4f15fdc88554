-- A history with one entry more keeps what belongs to it.
use Rattle.std.proofs.Common.{◌≡◌, ℕ, suc, ◌^◌, ◌<◌, ◌==◌, Bool, List, [], ◌∷◌, ◌++◌, length, take, drop, Some, refl, ap, sym, ◌∙◌, subst, arith, add-one, eq-eqb, ne_eqb}
use Rattle.std.specs.List.{slice_get, AllByRecursion}
use Rattle.std.proofs.Math.ListN.{length-set}
use Rattle.std.proofs.Math.Seq.{take-append_seam}
use Rattle.std.proofs.lemmas.List.{length-append}
use Rattle.std.proofs.lemmas.Option.{slice_get_within}
use Rattle.te_terms.specs.declared.event.Outcome.{Outcome}
use Rattle.te_terms.specs.Steps as steps
use Rattle.te_cert.specs.declared.cert.Member.{Member}
use Rattle.te_cert.specs.Certificates.{Certificate}
use Rattle.te_history.specs.declared.entry.Entry.{Entry}
use Rattle.te_history.specs.declared.entry.Entry.TheVariants.{Post, Commit, Withdraw, Take, Rest, Stuck, End}
use Rattle.te_history.specs.declared.status.How.TheVariants as ways
use Rattle.te_history.specs.declared.status.Status.TheVariants as statuses
use Rattle.te_history.specs.declared.status.Phase.{Phase}
use Rattle.te_history.specs.declared.seat.Seat.{Seat}
use Rattle.te_history.specs.State.{Standing, idle, parked, given, ended, State, with_standing, with_given, changed, state, is_post_by, posts_by}
use Rattle.te_history.specs.Follows.{Stands, AreEvents, LooselyFollows, IsLoose}
use Rattle.te_history.specs.Histories.{phase_of}
use Rattle.te_history.specs.Kept.{StateIsKept, to_status, to_post, with_status, seats_given, seats_after, phase_after, resting_after}
use Rattle.te_history.proofs.AfterEntry.{state-after, counted, posts_by-after, posts_by_at_most, length-state, loose-after}
use Rattle.te_history.proofs.SeatsAfter.{length-changed, length-seats_after, seat_shows-longer, shows_along, posts_of_seat, AllShow, all_changed, all_restand}
use Rattle.te_terms.proofs.Lists.{get-last, get_some}

-- ---- members

all_within : (s : State) (n : ℕ) (ms : List Member) (group : List steps.Member) → length s.callers ≡ n → AreEvents s ms group
    → AllByRecursion (λ m. m.thread < n) ms
all_within s n [] [] same events = tt
all_within s n (m ∷ ms) (g ∷ gs) same events =
    let low = slice_get_within s.callers m.thread _ events.1 in
    (omega (arith, low, same), all_within s n ms gs same events.2)
all_within s n [] (g ∷ gs) same events = absurd events
all_within s n (m ∷ ms) [] same events = absurd events

-- the members of a commit are callers
pub members_within : (callers : ℕ) (history : List Entry) (e : Entry) → LooselyFollows callers history e
    → (by : ℕ) (cert : Certificate) (outcomes : List Outcome) → e ≡ Commit by cert outcomes → AllByRecursion (λ m. m.thread < callers) cert.members
members_within callers history e follows by cert outcomes is =
    let commits : LooselyFollows callers history (Commit by cert outcomes) = subst (λ (x : Entry). LooselyFollows callers history x) is follows in
    all_within (state callers history) callers cert.members commits.2.group (length-state callers history) commits.2.events

members_along : (n k : ℕ) (ms : List Member) → n ≡ k → AllByRecursion (λ m. m.thread < n) ms → AllByRecursion (λ m. m.thread < k) ms
members_along n k ms same within = subst (λ (j : ℕ). AllByRecursion (λ m. m.thread < j) ms) same within

all_given : (history : List Entry) (posts : ℕ → ℕ) (ms : List Member) (os : List Outcome) (seats : List Seat) (s : State)
    → AllShow history posts seats s.callers → AllByRecursion (λ m. m.thread < length seats) ms
    → length s.callers ≡ length seats → AllShow history posts (seats_given ms os seats) (with_given ms os s).callers
all_given history posts [] os seats s all within same = all
all_given history posts (m ∷ ms) [] seats s all within same = all
all_given history posts (m ∷ ms) (o ∷ os) seats s all within same =
    let low : m.thread < length s.callers = let here = within.0 in omega (arith, here, same) in
    let old = get_some s.callers m.thread low in
    let seats' = with_status m.thread (statuses.Given m.ticket o) seats in
    let longer : length seats' ≡ length seats = length-changed m.thread (to_status (statuses.Given m.ticket o)) (slice_get seats m.thread) seats in
    all_given history posts ms os seats' (with_standing m.thread (given m.ticket o) s)
    (all_restand history posts seats s.callers m.thread (statuses.Given m.ticket o) old.0 (given m.ticket o) all old.1 within.0 (λ place. (refl, refl)))
    (members_along (length seats) (length seats') ms (sym longer) within.1)
    (length-set s.callers m.thread (given m.ticket o) ∙ same ∙ sym longer)

-- ---- each entry

within_callers : (callers : ℕ) (history : List Entry) (t : ℕ) (standing : Standing) → Stands (state callers history) t standing → t < callers
within_callers callers history t standing stands =
    omega (arith, slice_get_within (state callers history).callers t standing stands, length-state callers history)

all_after : (history : List Entry) (seats : List Seat) (e : Entry) → AllShow history (λ t. posts_by t history) seats (state (length seats) history).callers
    → LooselyFollows (length seats) history e
    → AllShow (history ++ e ∷ []) (λ t. counted (is_post_by t e) (posts_by t history)) (seats_after (length history) seats e) (changed (state (length seats) history) e).callers
all_after history seats (Post by ticket event) all follows =
    let longer : AllShow (history ++ Post by ticket event ∷ []) (λ t. posts_by t history) seats
    (state (length seats) history).callers = λ t. seat_shows-longer history _ _ _ _ (all t) in
    let at = get_some seats by (within_callers (length seats) history by idle follows.1) in
    all_changed _ (λ t. posts_by t history) (λ t. counted (by == t) (posts_by t history)) seats _ by (to_post ticket (length history)) at.0 idle
    (parked ticket event) longer at.1 follows.1
    (add-one at.0.posts ∙ ap suc (posts_of_seat _ (λ t. posts_by t history) seats _ by at.0 all at.1) ∙ ap (λ (b : Bool). counted b (posts_by by history))
    (sym (eq-eqb by by refl)))
    (refl, (by, ticket, get-last history (Post by ticket event)))
    (λ k other. ap (λ (b : Bool). counted b (posts_by k history)) (sym (ne_eqb by k (λ same. other (sym same)))))
all_after history seats (Commit by cert outcomes) all follows =
    all_given _ (λ t. posts_by t history) cert.members outcomes seats (state (length seats) history) (λ t. seat_shows-longer history _ _ _ _ (all t))
    (members_within (length seats) history (Commit by cert outcomes) follows by cert outcomes refl) (length-state (length seats) history)
all_after history seats (Withdraw by ticket) all follows =
    all_restand _ (λ t. posts_by t history) seats _ by statuses.Idle _ idle (λ t. seat_shows-longer history _ _ _ _ (all t)) follows.1.1
    (within_callers _ history by _ follows.1.1) (λ place. tt)
all_after history seats (Take by ticket outcome) all follows =
    all_restand _ (λ t. posts_by t history) seats _ by statuses.Idle _ idle (λ t. seat_shows-longer history _ _ _ _ (all t)) follows.1
    (within_callers _ history by _ follows.1) (λ place. tt)
all_after history seats (Rest by) all follows = λ t. seat_shows-longer history _ _ _ _ (all t)
all_after history seats (Stuck by) all follows = λ t. seat_shows-longer history _ _ _ _ (all t)
all_after history seats (End by (ways.Done values)) all follows =
    all_restand _ (λ t. posts_by t history) seats _ by statuses.Ended _ ended (λ t. seat_shows-longer history _ _ _ _ (all t)) follows.1
    (within_callers _ history by _ follows.1) (λ place. tt)
all_after history seats (End by (ways.Raised value)) all follows =
    all_restand _ (λ t. posts_by t history) seats _ by statuses.Ended _ ended (λ t. seat_shows-longer history _ _ _ _ (all t)) follows.1
    (within_callers _ history by _ follows.1) (λ place. tt)
all_after history seats (End by ways.Stuck) all follows =
    all_restand _ (λ t. posts_by t history) seats _ by statuses.Ended _ ended (λ t. seat_shows-longer history _ _ _ _ (all t)) follows.1.2
    (within_callers _ history by _ follows.1.2) (λ place. tt)

-- ---- phase and rest

given_phase : (ms : List Member) (os : List Outcome) (s : State) → phase_of (with_given ms os s) ≡ phase_of s
given_phase [] os s = refl
given_phase (m ∷ ms) [] s = refl
given_phase (m ∷ ms) (o ∷ os) s = given_phase ms os (with_standing m.thread (given m.ticket o) s)

phase-changed : (s : State) (e : Entry) → phase_of (changed s e) ≡ phase_after (phase_of s) e
phase-changed s (Post by ticket event) = refl
phase-changed s (Commit by cert outcomes) = given_phase cert.members outcomes s
phase-changed s (Withdraw by ticket) = refl
phase-changed s (Take by ticket outcome) = refl
phase-changed s (Rest by) = refl
phase-changed s (Stuck by) = refl
phase-changed s (End by how) = refl

pub given_resting : (ms : List Member) (os : List Outcome) (s : State) → (with_given ms os s).resting ≡ s.resting
given_resting [] os s = refl
given_resting (m ∷ ms) [] s = refl
given_resting (m ∷ ms) (o ∷ os) s = given_resting ms os (with_standing m.thread (given m.ticket o) s)

resting-changed : (s : State) (e : Entry) → (changed s e).resting ≡ resting_after s.resting e
resting-changed s (Post by ticket event) = refl
resting-changed s (Commit by cert outcomes) = given_resting cert.members outcomes s
resting-changed s (Withdraw by ticket) = refl
resting-changed s (Take by ticket outcome) = refl
resting-changed s (Rest by) = refl
resting-changed s (Stuck by) = refl
resting-changed s (End by how) = refl

-- ---- one entry more

pub kept_after : (history : List Entry) (seats : List Seat) (phase : Phase) (resting : Bool) (e : Entry) → StateIsKept history seats phase resting
    → LooselyFollows (length seats) history e → length history < 2 ^ 31
    → StateIsKept (history ++ e ∷ []) (seats_after (length history) seats e) (phase_after phase e) (resting_after resting e)
kept_after history seats phase resting e kept follows short =
    let same : length (seats_after (length history) seats e) ≡ length seats = length-seats_after (length history) seats e in
    let after : (n : ℕ) → n ≡ length seats → state n (history ++ e ∷ []) ≡ changed (state (length seats) history) e =
    λ n is. ap (λ (k : ℕ). state k (history ++ e ∷ [])) is ∙ state-after (length seats) history e in
    record {
      some_caller = let some = kept.some_caller in omega (arith, same, some);
      few_callers = let few = kept.few_callers in omega (arith, same, few);
      few_entries = omega (arith, length-append history (e ∷ []), short);
      loose = subst (λ (n : ℕ). IsLoose n (history ++ e ∷ [])) (sym same) (loose-after (length seats) history e kept.loose follows);
      shows = λ t. shows_along (history ++ e ∷ []) (sym (posts_by-after t history e)) refl (ap (λ (s : State). slice_get s.callers t) (sym (after _ same)))
          (all_after history seats e kept.shows follows t);
      phase_is = ap (λ (p : Phase). phase_after p e) kept.phase_is ∙ sym (phase-changed (state (length seats) history) e) ∙ ap phase_of (sym (after _ same));
      resting_is = ap (λ (b : Bool). resting_after b e) kept.resting_is ∙ sym (resting-changed (state (length seats) history) e) ∙ ap
          (λ (s : State). s.resting) (sym (after _ same));
    }

-- no caller has posted 2^31 times
pub few_posts : (history : List Entry) (seats : List Seat) (phase : Phase) (resting : Bool) (t : ℕ) (seat : Seat) → StateIsKept history seats phase resting
    → length history < 2 ^ 31 → slice_get seats t ≡ Some seat → seat.posts < 2 ^ 31
few_posts history seats phase resting t seat kept short is =
    let posts : seat.posts ≡ posts_by t history = posts_of_seat history (λ k. posts_by k history) seats _ t seat kept.shows is in
    omega (arith, posts, posts_by_at_most t history, short)

-- the list that was written over a list of the same length
pub written_over : (n : ℕ) (new old : List Seat) → length new ≡ n → take n (new ++ drop (length new) old) ≡ new
written_over n new old same = subst (λ (k : ℕ). take k (new ++ drop (length new) old) ≡ new) same (take-append_seam new (drop (length new) old))

pub kept_along : {history history' : List Entry} {seats seats' : List Seat} {phase phase' : Phase} {resting resting' : Bool} → history ≡ history'
    → seats ≡ seats' → phase ≡ phase' → resting ≡ resting'
    → StateIsKept history seats phase resting → StateIsKept history' seats' phase' resting'
kept_along {history} {history'} {seats} {seats'} {phase} {phase'} {resting} {resting'} h s p r kept =
    subst (λ (x : List Entry). StateIsKept x seats' phase' resting') h (subst (λ (x : List Seat). StateIsKept history x phase' resting') s
    (subst (λ (x : Phase). StateIsKept history seats x resting') p (subst (λ (x : Bool). StateIsKept history seats phase x) r kept)))
