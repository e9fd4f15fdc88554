-- Turns make up a round of a synchronising caller, and rounds make up its call.
use Rattle.std.proofs.Common.{◌≡◌, ◌⊎◌, inl, inr, ℕ, ◌/◌, ◌≤◌, List, [], ◌∷◌, ◌++◌, length, take, Result, Ok, Err, Some, refl, sym, ap, ◌∙◌, subst, append_assoc, arith}
use Rattle.std.specs.List.{AllByRecursion, slice_get}
use Rattle.std.proofs.lemmas.List.{append-nil}
use Rattle.te_terms.specs.declared.event.Outcome.{Outcome}
use Rattle.te_terms.specs.declared.event.Parked.{Parked}
use Rattle.te_terms.specs.Terms.{Term}
use Rattle.te_lock.specs.Entries.{entries_by}
use Rattle.te_lock.specs.Lock.{Knowledge}
use Rattle.te_lock.proofs.Beginnings.{prefix_length}
use Rattle.te_history.specs.declared.entry.Entry.{Entry}
use Rattle.te_history.specs.declared.entry.Entry.TheVariants as entries
use Rattle.te_history.specs.State.{State, state, parked_list}
use Rattle.te_history.specs.Follows.{caller_of}
use Rattle.te_history.proofs.Lasting.{stuck_exactly}
use Rattle.te_board.specs.Boards.{state_of}
use Rattle.te_board.specs.declared.snapshot.Snapshot.{Snapshot}
use Rattle.te_search.specs.Findings.{IsUsedUp}
use Rattle.te_search.specs.declared.finding.SearchFault.{SearchFault}
use Rattle.te_search.specs.declared.finding.SearchFault.TheVariants as search
use Rattle.te_runtime.specs.declared.fault.SyncFault.{SyncFault}
use Rattle.te_runtime.specs.declared.fault.SyncFault.TheVariants as faults
use Rattle.te_runtime.specs.declared.answers.Driven.{Driven}
use Rattle.te_runtime.specs.declared.answers.Driven.TheVariants as driven
use Rattle.te_runtime.specs.declared.syncing.Stage.{Stage}
use Rattle.te_runtime.specs.declared.syncing.Stage.TheVariants as stages
use Rattle.te_runtime.specs.Calls.{Called, board_of}
use Rattle.te_runtime.specs.Refusals.{HasStuck}
use Rattle.te_runtime.specs.Answers.{IsTightCommit, parked_at}
use Rattle.te_runtime.specs.Acts.{IsUnfound, IsSnapshotOf, IsActed}
use Rattle.te_runtime.specs.Syncs.{ParkedUnder, CommitsBetween, IsSynced, IsSpentUnder, WhyWithdrawn, HasWithdrawn, IsLeftStuck, FailsLater}
use Rattle.te_runtime.specs.declared.parting.Outlook.TheVariants as outlooks
use Rattle.te_runtime.specs.Rounds.{HoldsTicket, IsReason, HasPartedIn, HasLookedIn, IsAnsweredSo, IsStageOf, unfound, after_driven}
use Rattle.te_runtime.proofs.Calling.{called_then, prefix_take}
use Rattle.te_runtime.proofs.OwnEntries.{last_read, given_by_one}
use Rattle.te_runtime.proofs.TicketsHeld.{StaysPut, commit_stays, holds_called, parked_on_stuck}
use Rattle.te_terms.proofs.Lists.{all_with, all_both}

-- ---- entries, commits, entries

-- what was appended, told by an equal list
unfoldable pub called_as : {p q : Knowledge Entry} {xs ys : List Entry} → xs ≡ ys → Called p q xs → Called p q ys
called_as {p} {q} is c = record {
  same = c.same;
  idle = c.idle;
  begins = c.begins;
  begins_known = c.begins_known;
  reaches = c.reaches;
  law = c.law;
  looked = c.looked;
  own = c.own ∙ ap (λ (l : List Entry). p.own ++ l) is;
  whole = c.whole;
  front = c.front;
  known = c.known;
}

-- no commit, and these entries
unfoldable pub between_plain : {p q : Knowledge Entry} (last : List Entry) → Called p q last → CommitsBetween p q [] last
between_plain last c = record { commits = []; tight = tt; called = c }

pub seam : (first some more last : List Entry) → ((first ++ some) ++ []) ++ (more ++ last) ≡ (first ++ (some ++ more)) ++ last
seam first some more last =
    ap (λ (l : List Entry). l ++ (more ++ last)) (append-nil (first ++ some)) ∙ sym (append_assoc (first ++ some) more last)
    ∙ ap (λ (l : List Entry). l ++ last) (append_assoc first some more)

unfoldable pub between_after : {p m q : Knowledge Entry} (first last : List Entry) → CommitsBetween p m first [] → CommitsBetween m q [] last
    → CommitsBetween p q first last
between_after {p} {m} {q} first last g h = record {
  commits = g.commits ++ h.commits;
  tight = all_both (IsTightCommit q.caller) g.commits h.commits
      (subst (λ (k : ℕ). AllByRecursion (IsTightCommit k) g.commits) (sym h.called.same.1) g.tight) h.tight;
  called = called_as (seam first g.commits h.commits last) (called_then ((first ++ g.commits) ++ []) (h.commits ++ last) g.called h.called);
}

-- two turns, of which the first appended nothing
unfoldable pub between_later : {p m q : Knowledge Entry} (last : List Entry) → Called p m [] → Called m q last → CommitsBetween p q [] last
between_later last c d = between_plain last (called_then [] last c d)

-- ---- why an event was taken back

-- a later call's reason is the longer call's
why_after : (budget ticket : ℕ) (p m q : Knowledge Entry) (first later : ℕ) (f : SyncFault) → length p.read ≤ length m.read
    → first / 2 ≤ length m.read → WhyWithdrawn budget ticket later m q f → WhyWithdrawn budget ticket first p q f
why_after budget ticket p m q first later faults.Resting long reaches why = why
why_after budget ticket p m q first later faults.Memory long reaches why = tt
why_after budget ticket p m q first later (faults.Spent front paths groups) long reaches why =
    let since = why.since in
    record { since = omega (arith, long, since); fresh = omega (arith, reaches, since); within = why.within; used_up = why.used_up; parks = why.parks }
why_after budget ticket p m q first later (faults.Other status) long reaches why = absurd why
why_after budget ticket p m q first later faults.Stuck long reaches why = absurd why
why_after budget ticket p m q first later faults.Full long reaches why = absurd why
why_after budget ticket p m q first later (faults.Busy word) long reaches why = absurd why

pub withdrawn_after : (budget ticket : ℕ) {p m : Knowledge Entry} (q : Knowledge Entry) (first : List Entry) (f : SyncFault) → CommitsBetween p m first []
    → HasWithdrawn budget ticket m q [] f → HasWithdrawn budget ticket p q first f
unfolding between_after called_as called_then
withdrawn_after budget ticket {p} {m} q first f g (w, why) = (
  between_after first (entries.Withdraw q.caller ticket ∷ []) g w,
  why_after budget ticket p m q g.called.looked.first w.called.looked.first f (prefix_length p.read m.read g.called.begins) g.called.looked.reaches why,
)

pub fails_after : (budget ticket : ℕ) {p m : Knowledge Entry} (q : Knowledge Entry) (first : List Entry) (f : SyncFault) → CommitsBetween p m first []
    → FailsLater budget ticket m q [] f → FailsLater budget ticket p q first f
fails_after budget ticket q first faults.Stuck g left = record {
  stuck = left.stuck;
  parks = left.parks;
  appended = elim left.appended [
    | inl h ↦ inl (between_after first [] g h)
    | inr h ↦ inr (between_after first (entries.Stuck q.caller ∷ []) g h)
  ];
}
fails_after budget ticket q first faults.Resting g w = withdrawn_after budget ticket q first faults.Resting g w
fails_after budget ticket q first faults.Memory g w = withdrawn_after budget ticket q first faults.Memory g w
fails_after budget ticket q first (faults.Spent front paths groups) g w = withdrawn_after budget ticket q first (faults.Spent front paths groups) g w
fails_after budget ticket q first (faults.Other status) g w = absurd w.1
fails_after budget ticket q first faults.Full g w = absurd w.1
fails_after budget ticket q first (faults.Busy word) g w = absurd w.1

-- a reason for which an event is taken back is none of the others
fails_so : (budget ticket : ℕ) (p q : Knowledge Entry) (f : SyncFault) → HasWithdrawn budget ticket p q [] f → FailsLater budget ticket p q [] f
fails_so budget ticket p q faults.Stuck w = absurd w.1
fails_so budget ticket p q faults.Resting w = w
fails_so budget ticket p q faults.Memory w = w
fails_so budget ticket p q (faults.Spent front paths groups) w = w
fails_so budget ticket p q (faults.Other status) w = w
fails_so budget ticket p q faults.Full w = w
fails_so budget ticket p q (faults.Busy word) w = w

-- ---- a caller that parts

-- whoever holds a ticket at the end of what was read, on a board that is stuck there, is parked
pub left_parked : (q : Knowledge Entry) (ticket : ℕ) (more : List Entry) {p : Knowledge Entry} → Called p q more → HasStuck (board_of q)
    → HoldsTicket (state_of (board_of q)) q.caller ticket → ParkedUnder (state_of (board_of q)) q.caller ticket
left_parked q ticket more c stuck holds =
    parked_on_stuck q.lock.callers q.read q.caller ticket c.law.legal ((stuck_exactly q.lock.callers q.read).1 stuck) holds

module _ (budget ticket : ℕ) {p m : Knowledge Entry} (q : Knowledge Entry) (c : Called p m []) where
  -- at a second turn, for a reason that what came before shows
  pub parted_after : (reason : SyncFault) (answer : Result Outcome SyncFault) → HasPartedIn m q ticket reason answer
      → (Called m q [] → HoldsTicket (state_of (board_of q)) q.caller ticket)
      → (Called m q (entries.Withdraw q.caller ticket ∷ []) → WhyWithdrawn budget ticket c.looked.first p q reason) → IsAnsweredSo budget ticket p q [] answer
  unfolding between_later between_plain called_then
  parted_after reason (Ok outcome) d holds why = between_later (entries.Take q.caller ticket outcome ∷ []) c d
  parted_after reason (Err fault) (inl (is, d)) holds why =
      subst (λ (f : SyncFault). FailsLater budget ticket p q [] f) (sym is)
      (fails_so budget ticket p q reason (between_later (entries.Withdraw q.caller ticket ∷ []) c d, why d))
  parted_after reason (Err fault) (inr (is, d, stuck)) holds why =
      subst (λ (f : SyncFault). FailsLater budget ticket p q [] f) (sym is)
      (record { stuck = stuck; parks = left_parked q ticket [] d stuck (holds d); appended = inl (between_later [] c d) })

  -- at a second turn that found the board stuck
  pub stuck_after : Called m q [] → HasStuck (board_of q) → HoldsTicket (state_of (board_of q)) q.caller ticket → FailsLater budget ticket p q [] faults.Stuck
  stuck_after d stuck holds = record { stuck = stuck; parks = left_parked q ticket [] d stuck holds; appended = inl (between_later [] c d) }

  -- what was done with what was found
  pub acted : (d : Driven) → IsActed m q d → ((mine : List Entry) → Called m q mine → AllByRecursion StaysPut mine → HoldsTicket (state_of (board_of q)) q.caller ticket)
      → IsStageOf budget ticket p q (after_driven d)
  acted (driven.Committed front) (front_is, (e, commit, d)) holds =
      between_after [] [] (between_plain [] c) (record { commits = e ∷ []; tight = (commit, tt); called = d })
  acted (driven.Moved from front) moved holds = between_later [] c moved.called
  acted (driven.Blocked front) blocked holds = between_later [] c blocked.called
  acted driven.Stuck d holds =
      let there = last_read [] (entries.Stuck q.caller) d in
      let stuck : HasStuck (board_of q) = (there.0, q.caller, there.1) in
      record {
        stuck = stuck;
        parks = left_parked q ticket (entries.Stuck q.caller ∷ []) d stuck (holds (entries.Stuck q.caller ∷ []) d (tt, tt));
        appended = inr (between_later (entries.Stuck q.caller ∷ []) c d);
      }

-- at the turn that looked
pub parted_at_once : (budget ticket : ℕ) (p q : Knowledge Entry) (reason : SyncFault) (answer : Result Outcome SyncFault) → IsReason (board_of q) reason
    → HasPartedIn p q ticket reason answer → (Called p q [] → HoldsTicket (state_of (board_of q)) q.caller ticket) → IsAnsweredSo budget ticket p q [] answer
parted_at_once budget ticket p q reason (Ok outcome) shows d holds = between_plain (entries.Take q.caller ticket outcome ∷ []) d
parted_at_once budget ticket p q reason (Err fault) shows (inl (is, d)) holds =
    subst (λ (f : SyncFault). FailsLater budget ticket p q [] f) (sym is) (by_reason reason shows)
  where
    by_reason : (f : SyncFault) → IsReason (board_of q) f → FailsLater budget ticket p q [] f
    by_reason faults.Resting shows' = (between_plain (entries.Withdraw q.caller ticket ∷ []) d, shows')
    by_reason faults.Memory shows' = (between_plain (entries.Withdraw q.caller ticket ∷ []) d, tt)
    by_reason (faults.Other status) shows' = absurd shows'
    by_reason faults.Stuck shows' = absurd shows'
    by_reason (faults.Spent front paths groups) shows' = absurd shows'
    by_reason faults.Full shows' = absurd shows'
    by_reason (faults.Busy word) shows' = absurd shows'
parted_at_once budget ticket p q reason (Err fault) shows (inr (is, d, stuck)) holds =
    subst (λ (f : SyncFault). FailsLater budget ticket p q [] f) (sym is)
    (record { stuck = stuck; parks = left_parked q ticket [] d stuck (holds d); appended = inl (between_plain [] d) })

pub answered_at_once : (budget ticket : ℕ) (p q : Knowledge Entry) (answer : Result Outcome SyncFault) → HasLookedIn p q ticket (outlooks.Over answer)
    → (Called p q [] → HoldsTicket (state_of (board_of q)) q.caller ticket) → IsAnsweredSo budget ticket p q [] answer
answered_at_once budget ticket p q answer (reason, shows, parted) holds = parted_at_once budget ticket p q reason answer shows parted holds

-- ---- a search that came to no end

pub why_unfound : (budget ticket : ℕ) {p m q : Knowledge Entry} (seen : Snapshot) (list : List Parked) (more : List Entry) (f : SearchFault) (c : Called p m [])
    → IsSnapshotOf m seen → list ≡ seen.parked → ParkedUnder (state_of (board_of m)) m.caller ticket → IsUnfound list budget f → Called m q more
    → WhyWithdrawn budget ticket c.looked.first p q (unfound seen.front f)
why_unfound budget ticket seen list more search.Memory c of list_is parks unfound' d = tt
why_unfound budget ticket {p} {m} {q} seen list more (search.Spent paths groups) c of list_is parks used d =
    let lock : m.lock.callers ≡ q.lock.callers = ap (λ k. k.callers) (sym d.same.0) in
    let front_is = of.front in
    let reaches = c.looked.reaches in
    let long = prefix_length p.read m.read c.begins in
    let longer = prefix_length m.read q.read d.begins in
    let taken : take seen.front q.read ≡ m.read = ap (λ (n : ℕ). take n q.read) of.front ∙ prefix_take m.read q.read d.begins in
    let at : state m.lock.callers m.read ≡ state q.lock.callers (take seen.front q.read) = (λ i. state (lock i) (sym taken i)) in
    let searched : list ≡ parked_list (state q.lock.callers (take seen.front q.read)) = list_is ∙ of.parked ∙ ap parked_list at in
    record {
      since = omega (arith, long, front_is);
      fresh = omega (arith, reaches, front_is);
      within = omega (arith, longer, front_is);
      used_up = subst (λ (l : List Parked). IsUsedUp l budget paths groups) searched used;
      parks = subst (λ (k : ℕ). ParkedUnder (state q.lock.callers (take seen.front q.read)) k ticket) (sym d.same.1)
          (subst (λ (s : State). ParkedUnder s m.caller ticket) at parks);
    }

-- ---- what is left to do after a turn that looked

module _ (budget ticket : ℕ) {m : Knowledge Entry} (q : Knowledge Entry) (whole : entries_by caller_of m.caller m.read ≡ m.own)
    (holds : HoldsTicket (state_of (board_of m)) m.caller ticket) where
  pub stage_acted : (d : Driven) → IsActed m q d → (p : Knowledge Entry) → Called p m [] → IsStageOf budget ticket p q (after_driven d)
  stage_acted d is p c = acted budget ticket q c d is (λ mine call stay. holds_called ticket mine whole call stay holds)

  pub stage_stuck : Called m q [] → HasStuck (board_of q) → (p : Knowledge Entry) → Called p m [] → IsStageOf budget ticket p q (stages.Over (Err faults.Stuck))
  stage_stuck d stuck p c = stuck_after budget ticket q c d stuck (holds_called ticket [] whole d tt holds)

  -- the search came to no end
  pub stage_unfound : (seen : Snapshot) (list : List Parked) (f : SearchFault) (answer : Result Outcome SyncFault) → IsSnapshotOf m seen → list ≡ seen.parked
      → ParkedUnder (state_of (board_of m)) m.caller ticket → IsUnfound list budget f → HasPartedIn m q ticket (unfound seen.front f) answer
      → (p : Knowledge Entry) → Called p m [] → IsStageOf budget ticket p q (stages.Over answer)
  stage_unfound seen list f answer of is parks used parts p c =
      parted_after budget ticket q c (unfound seen.front f) answer parts (λ d. holds_called ticket [] whole d tt holds)
      (λ d. why_unfound budget ticket seen list (entries.Withdraw q.caller ticket ∷ []) f c of is parks used d)

  -- there was no memory to act
  pub stage_unacted : (k : Knowledge Entry) (answer : Result Outcome SyncFault) → Called m k [] → HasPartedIn k q ticket faults.Memory answer
      → (p : Knowledge Entry) → Called p m [] → IsStageOf budget ticket p q (stages.Over answer)
  stage_unacted k answer d parts p c =
      parted_after budget ticket q (called_then [] [] c d) faults.Memory answer parts
      (λ call. holds_called ticket [] d.whole call tt (holds_called ticket [] whole d tt holds)) (λ call. tt)

-- ---- rounds

-- the post of the same caller
posted_by : {p m : Knowledge Entry} {k : ℕ} (ticket : ℕ) (event : Term) → k ≡ m.caller → CommitsBetween p m (entries.Post m.caller ticket event ∷ []) []
    → CommitsBetween p m (entries.Post k ticket event ∷ []) []
posted_by {p} {m} ticket event is g = subst (λ (j : ℕ). CommitsBetween p m (entries.Post j ticket event ∷ []) []) (sym is) g

all_stay : (k : ℕ) (es : List Entry) → AllByRecursion (IsTightCommit k) es → AllByRecursion StaysPut (es ++ [])
all_stay k es tight = subst (AllByRecursion StaysPut) (sym (append-nil es)) (all_with (IsTightCommit k) StaysPut es (commit_stays k) tight)

-- a round after which the caller goes on
pub round_on : {p m q : Knowledge Entry} (ticket : ℕ) (event : Term) → CommitsBetween p m (entries.Post m.caller ticket event ∷ []) []
    → CommitsBetween m q [] [] → HoldsTicket (state_of (board_of m)) m.caller ticket
    → CommitsBetween p q (entries.Post q.caller ticket event ∷ []) [] × HoldsTicket (state_of (board_of q)) q.caller ticket
round_on {p} {m} {q} ticket event g h holds = (
  between_after (entries.Post q.caller ticket event ∷ []) [] (posted_by ticket event h.called.same.1 g) h,
  holds_called ticket (h.commits ++ []) g.called.whole h.called (all_stay q.caller h.commits h.tight) holds,
)

pub synced : {p m q : Knowledge Entry} (ticket : ℕ) (event : Term) (outcome : Outcome) → CommitsBetween p m (entries.Post m.caller ticket event ∷ []) []
    → CommitsBetween m q [] (entries.Take q.caller ticket outcome ∷ []) → IsSynced p q event outcome
synced {p} {m} {q} ticket event outcome g h =
    let whole = between_after (entries.Post q.caller ticket event ∷ []) (entries.Take q.caller ticket outcome ∷ [])
    (posted_by ticket event h.called.same.1 g) h in
    record { ticket = ticket; appended = whole; given_once = given_by_one ((entries.Post q.caller ticket event ∷ []) ++ whole.commits) ticket outcome whole.called }

same_caller : (budget ticket : ℕ) (m q : Knowledge Entry) (f : SyncFault) → FailsLater budget ticket m q [] f → q.caller ≡ m.caller
same_caller budget ticket m q faults.Stuck left = elim left.appended [ inl h ↦ h.called.same.1 | inr h ↦ h.called.same.1 ]
same_caller budget ticket m q faults.Resting w = w.0.called.same.1
same_caller budget ticket m q faults.Memory w = w.0.called.same.1
same_caller budget ticket m q (faults.Spent front paths groups) w = w.0.called.same.1
same_caller budget ticket m q (faults.Other status) w = absurd w.1
same_caller budget ticket m q faults.Full w = absurd w.1
same_caller budget ticket m q (faults.Busy word) w = absurd w.1

pub failed : (budget ticket : ℕ) (event : Term) {p m : Knowledge Entry} (q : Knowledge Entry) (f : SyncFault)
    → CommitsBetween p m (entries.Post m.caller ticket event ∷ []) [] → FailsLater budget ticket m q [] f
    → FailsLater budget ticket p q (entries.Post q.caller ticket event ∷ []) f
failed budget ticket event {p} {m} q f g x =
    fails_after budget ticket q (entries.Post q.caller ticket event ∷ []) f (posted_by ticket event (same_caller budget ticket m q f x) g) x
