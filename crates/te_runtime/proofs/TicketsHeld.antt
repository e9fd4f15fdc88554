-- A caller that holds a ticket holds it still, whatever others append and it commits itself.
use Rattle.std.proofs.Common.{◌≡◌, ◌≢◌, ◌==◌, ◌⊎◌, inl, inr, ℕ, Bool, true, false, cond, List, [], ◌∷◌, ◌++◌, Some, refl, ap, sym, ◌∙◌, subst, append_assoc, eq-eqb, ne_eqb}
use Rattle.std.specs.List.{AllByRecursion, slice_get}
use Rattle.std.proofs.lemmas.List.{append-nil, append_cancel_left}
use mathlib.Core.List.{IsPrefix}
use Rattle.te_terms.specs.declared.event.Outcome.{Outcome}
use Rattle.te_terms.specs.Terms.{Term}
use Rattle.te_lock.specs.Entries.{entries_by}
use Rattle.te_lock.specs.Lock.{Knowledge}
use Rattle.te_lock.proofs.Beginnings.{entries_by-append}
use Rattle.te_history.specs.declared.entry.Entry.{Entry}
use Rattle.te_history.specs.declared.entry.Entry.TheVariants.{Post, Commit, Withdraw, Take, Rest, Stuck, End}
use Rattle.te_history.specs.declared.status.Status.TheVariants as statuses
use Rattle.te_history.specs.State.{Standing, idle, parked, given, ended, State, with_standing, with_given, changed, state}
use Rattle.te_history.specs.Follows.{Stands, LooselyFollows, LooseFrom, IsLegal, caller_of}
use Rattle.te_history.specs.Histories.{HasStatus, status_of}
use Rattle.te_history.proofs.AfterEntry.{state-after}
use Rattle.te_history.proofs.Commits.{same_or_other, stands_put, stands_other, Touch, untouched, touched, touch}
use Rattle.te_history.proofs.Growing.{legal_is_loose, later_part}
use Rattle.te_history.proofs.Lasting.{stuck_waits}
use Rattle.te_board.specs.Boards.{BoardLog, state_of}
use Rattle.te_terms.proofs.Lists.{same_item}
use Rattle.te_runtime.specs.Calls.{Called, board_of}
use Rattle.te_runtime.specs.Turns.{Entered}
use Rattle.te_runtime.specs.Answers.{IsTightCommit}
use Rattle.te_runtime.specs.Syncs.{ParkedUnder}
use Rattle.te_runtime.specs.Rounds.{HoldsTicket}

-- ---- one entry more

-- an entry that moves its own caller at most as a member of a commit
abbrev pub StaysPut : Entry → Type 0
StaysPut (Commit by cert outcomes) = Unit {0}
StaysPut (Rest by) = Unit {0}
StaysPut (Stuck by) = Unit {0}
StaysPut _ = ⊥

-- an entry of another caller, or such a one
abbrev pub LetsHold : ℕ → Entry → Type 0
LetsHold k e = (caller_of e ≢ k) ⊎ StaysPut e

by_another : (k : ℕ) (e : Entry) → ¬ StaysPut e → LetsHold k e → caller_of e ≢ k
by_another k e moves (inl other) = other
by_another k e moves (inr stays) = absurd (moves stays)

holds_other : (s : State) (by k ticket : ℕ) (x : Standing) → by ≢ k → HoldsTicket s k ticket → HoldsTicket (with_standing by x s) k ticket
holds_other s by k ticket x other (inl (event, at)) = inl (event, stands_other s by k x other ∙ at)
holds_other s by k ticket x other (inr (outcome, at)) = inr (outcome, stands_other s by k x other ∙ at)

holds_changed : (callers : ℕ) (h : List Entry) (k ticket : ℕ) (e : Entry) → LooselyFollows callers h e → LetsHold k e
    → HoldsTicket (state callers h) k ticket → HoldsTicket (changed (state callers h) e) k ticket
holds_changed callers h k ticket (Post by under event) follows lets holds =
    holds_other (state callers h) by k ticket (parked under event) (by_another k (Post by under event) (λ stays. stays) lets) holds
holds_changed callers h k ticket (Withdraw by under) follows lets holds =
    holds_other (state callers h) by k ticket idle (by_another k (Withdraw by under) (λ stays. stays) lets) holds
holds_changed callers h k ticket (Take by under due) follows lets holds =
    holds_other (state callers h) by k ticket idle (by_another k (Take by under due) (λ stays. stays) lets) holds
holds_changed callers h k ticket (Rest by) follows lets holds = holds
holds_changed callers h k ticket (Stuck by) follows lets holds = holds
holds_changed callers h k ticket (End by how) follows lets holds =
    holds_other (state callers h) by k ticket ended (by_another k (End by how) (λ stays. stays) lets) holds
holds_changed callers h k ticket (Commit by cert outcomes) follows lets holds = by_touch (touch k (state callers h) cert outcomes follows.2) holds
  where
    by_touch : Touch k cert.members outcomes (state callers h) (with_given cert.members outcomes (state callers h)) → HoldsTicket (state callers h) k ticket
        → HoldsTicket (with_given cert.members outcomes (state callers h)) k ticket
    by_touch (untouched same none) (inl (event, at)) = inl (event, same ∙ at)
    by_touch (untouched same none) (inr (outcome, at)) = inr (outcome, same ∙ at)
    by_touch (touched under event due was is one none) (inl (other, at)) =
        let both : Some (parked under event) ≡ Some (parked ticket other) = sym was ∙ at in
        let ticket_is : under ≡ ticket = cc in
        inr (due, subst (λ (n : ℕ). Stands (with_given cert.members outcomes (state callers h)) k (given n due)) ticket_is is)
    by_touch (touched under event due was is one none) (inr (outcome, at)) =
        let both : Some (parked under event) ≡ Some (given ticket outcome) = sym was ∙ at in absurd cc

-- ---- more entries

holds_on : (callers k ticket : ℕ) (before more : List Entry) → LooseFrom callers before more → AllByRecursion (LetsHold k) more
    → HoldsTicket (state callers before) k ticket → HoldsTicket (state callers (before ++ more)) k ticket
holds_on callers k ticket before [] loose lets holds =
    subst (λ (l : List Entry). HoldsTicket (state callers l) k ticket) (sym (append-nil before)) holds
holds_on callers k ticket before (e ∷ es) loose lets holds =
    let next = holds_changed callers before k ticket e loose.0 lets.0 holds in
    let now : HoldsTicket (state callers (before ++ e ∷ [])) k ticket =
    subst (λ (s : State). HoldsTicket s k ticket) (sym (state-after callers before e)) next in
    subst (λ (l : List Entry). HoldsTicket (state callers l) k ticket) (append_assoc before (e ∷ []) es)
    (holds_on callers k ticket (before ++ e ∷ []) es loose.1 lets.1 now)

-- where all entries of the caller stay put, each entry lets it hold its ticket
all_let : (k : ℕ) (more mine : List Entry) → entries_by caller_of k more ≡ mine → AllByRecursion StaysPut mine → AllByRecursion (LetsHold k) more
all_let k [] mine is stay = tt
all_let k (e ∷ es) mine is stay = by_test (all_let k es) (same_or_other (caller_of e) k) mine is stay
  where
    split : (b : Bool) → (caller_of e == k) ≡ b → (ms : List Entry) → entries_by caller_of k (e ∷ es) ≡ ms
        → cond b (e ∷ entries_by caller_of k es) (entries_by caller_of k es) ≡ ms
    split b test ms is' = ap (λ (c : Bool). cond c (e ∷ entries_by caller_of k es) (entries_by caller_of k es)) (sym test) ∙ is'

    by_test : ((ms : List Entry) → entries_by caller_of k es ≡ ms → AllByRecursion StaysPut ms → AllByRecursion (LetsHold k) es)
        → (caller_of e ≡ k) ⊎ (caller_of e ≢ k) → (ms : List Entry) → entries_by caller_of k (e ∷ es) ≡ ms → AllByRecursion StaysPut ms
        → AllByRecursion (LetsHold k) (e ∷ es)
    by_test again (inr other) ms is' stay' = (inl other, again ms (split false (ne_eqb (caller_of e) k other) ms is') stay')
    by_test again (inl same) [] is' stay' = let clash = split true (eq-eqb (caller_of e) k same) [] is' in absurd cc
    by_test again (inl same) (m ∷ ms) is' stay' =
        let both = split true (eq-eqb (caller_of e) k same) (m ∷ ms) is' in
        let head : m ≡ e = cc in
        let tail : entries_by caller_of k es ≡ ms = cc in
        (inr (subst StaysPut head stay'.0), again ms tail stay'.1)

-- from what was read to what is read, where this caller appended these entries
holds_longer : (callers k ticket : ℕ) (before after own mine : List Entry) → IsPrefix before after → IsLegal callers after
    → entries_by caller_of k before ≡ own → entries_by caller_of k after ≡ own ++ mine → AllByRecursion StaysPut mine
    → HoldsTicket (state callers before) k ticket → HoldsTicket (state callers after) k ticket
holds_longer callers k ticket before after own mine (more, is) legal was now stay holds =
    let whole : own ++ entries_by caller_of k more ≡ own ++ mine =
    ap (λ (l : List Entry). l ++ entries_by caller_of k more) (sym was) ∙ sym (entries_by-append caller_of k before more) ∙ ap (entries_by caller_of k) is ∙ now in
    let lets = all_let k more mine (append_cancel_left own (entries_by caller_of k more) mine whole) stay in
    let loose = legal_is_loose callers (before ++ more) (subst (IsLegal callers) (sym is) legal) in
    subst (λ (l : List Entry). HoldsTicket (state callers l) k ticket) is (holds_on callers k ticket before more (later_part callers before more loose) lets holds)

-- ---- calls and turns

as_after : (p q : Knowledge Entry) (ticket : ℕ) → q.lock ≡ p.lock → q.caller ≡ p.caller → HoldsTicket (state_of (board_of p)) p.caller ticket
    → HoldsTicket (state q.lock.callers p.read) q.caller ticket
as_after p q ticket lock caller holds =
    subst (λ (k : ℕ). HoldsTicket (state q.lock.callers p.read) k ticket) (sym caller)
    (subst (λ (n : ℕ). HoldsTicket (state n p.read) p.caller ticket) (ap (λ l. l.callers) (sym lock)) holds)

pub holds_called : {p q : Knowledge Entry} (ticket : ℕ) (mine : List Entry) → entries_by caller_of p.caller p.read ≡ p.own → Called p q mine
    → AllByRecursion StaysPut mine → HoldsTicket (state_of (board_of p)) p.caller ticket → HoldsTicket (state_of (board_of q)) q.caller ticket
holds_called {p} {q} ticket mine whole c stay holds =
    holds_longer q.lock.callers q.caller ticket p.read q.read p.own mine c.begins c.law.legal
    (subst (λ (k : ℕ). entries_by caller_of k p.read ≡ p.own) (sym c.same.1) whole) (c.whole ∙ c.own) stay (as_after p q ticket c.same.0 c.same.1 holds)

pub holds_entered : {p q : Knowledge Entry} {b : BoardLog} (ticket : ℕ) → entries_by caller_of p.caller p.read ≡ p.own → Entered p q b
    → HoldsTicket (state_of (board_of p)) p.caller ticket → HoldsTicket (state_of b) q.caller ticket
holds_entered {p} {q} {b} ticket whole e holds =
    let now = holds_longer q.lock.callers q.caller ticket p.read q.read p.own [] e.begins e.law.legal
    (subst (λ (k : ℕ). entries_by caller_of k p.read ≡ p.own) (sym e.same.1) whole) (e.whole ∙ e.own ∙ sym (append-nil p.own)) tt
    (as_after p q ticket e.same.0 e.same.1 holds) in
    subst (λ (s : State). HoldsTicket s q.caller ticket) (λ i. state (sym e.callers i) (sym e.list i)) now

-- who has just posted
pub holds_posted : (callers : ℕ) (h : List Entry) (by ticket : ℕ) (event : Term) → IsLegal callers (h ++ Post by ticket event ∷ [])
    → HoldsTicket (state callers (h ++ Post by ticket event ∷ [])) by ticket
holds_posted callers h by ticket event legal =
    let follows = (later_part callers h (Post by ticket event ∷ []) (legal_is_loose callers (h ++ Post by ticket event ∷ []) legal)).0 in
    inl (
      event,
      subst (λ (s : State). Stands s by (parked ticket event)) (sym (state-after callers h (Post by ticket event)))
          (stands_put (state callers h) by idle (parked ticket event) follows.1),
    )

-- ---- what a ticket tells of a caller

pub ticket_parked : (s : State) (k ticket held : ℕ) → HoldsTicket s k ticket → HasStatus s k (statuses.Parked held) → held ≡ ticket
ticket_parked s k ticket held (inl (event, at)) (x, also, is) =
    let same : x ≡ parked ticket event = same_item x (parked ticket event) (slice_get s.callers k) also at in
    let both : statuses.Parked held ≡ statuses.Parked ticket = is ∙ ap status_of same in cc
ticket_parked s k ticket held (inr (outcome, at)) (x, also, is) =
    let same : x ≡ given ticket outcome = same_item x (given ticket outcome) (slice_get s.callers k) also at in
    let both : statuses.Parked held ≡ statuses.Given ticket outcome = is ∙ ap status_of same in absurd cc

pub ticket_given : (s : State) (k ticket held : ℕ) (due : Outcome) → HoldsTicket s k ticket → HasStatus s k (statuses.Given held due) → held ≡ ticket
ticket_given s k ticket held due (inl (event, at)) (x, also, is) =
    let same : x ≡ parked ticket event = same_item x (parked ticket event) (slice_get s.callers k) also at in
    let both : statuses.Given held due ≡ statuses.Parked ticket = is ∙ ap status_of same in absurd cc
ticket_given s k ticket held due (inr (outcome, at)) (x, also, is) =
    let same : x ≡ given ticket outcome = same_item x (given ticket outcome) (slice_get s.callers k) also at in
    let both : statuses.Given held due ≡ statuses.Given ticket outcome = is ∙ ap status_of same in cc

-- who isn't given an outcome is parked
pub parked_still : (s : State) (k ticket held : ℕ) → HoldsTicket s k ticket → HasStatus s k (statuses.Parked held) → ParkedUnder s k ticket
parked_still s k ticket held (inl under) has = under
parked_still s k ticket held (inr (outcome, at)) (x, also, is) =
    let same : x ≡ given ticket outcome = same_item x (given ticket outcome) (slice_get s.callers k) also at in
    let both : statuses.Parked held ≡ statuses.Given ticket outcome = is ∙ ap status_of same in absurd cc

-- on a stuck board too
pub parked_on_stuck : (callers : ℕ) (h : List Entry) (k ticket : ℕ) → IsLegal callers h → (state callers h).stuck ≡ true
    → HoldsTicket (state callers h) k ticket → ParkedUnder (state callers h) k ticket
parked_on_stuck callers h k ticket legal stuck (inl under) = under
parked_on_stuck callers h k ticket legal stuck (inr (outcome, at)) =
    absurd (stuck_waits callers h (legal_is_loose callers h legal) stuck k (given ticket outcome) at)

-- ---- commits stay put

pub commit_stays : (k : ℕ) (e : Entry) → IsTightCommit k e → StaysPut e
commit_stays k e c = subst StaysPut (sym c.is) tt
