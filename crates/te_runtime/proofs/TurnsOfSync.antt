-- What a turn of a synchronising caller does to the board is what its pass tells of it.
use Rattle.std.proofs.Common.{◌≡◌, ◌⊎◌, inl, inr, ℕ, List, [], ◌∷◌, ◌++◌, length, Result, Ok, Err, Some, refl, sym, ap, ◌∙◌, subst}
use Rattle.std.specs.List.{slice_get}
use Rattle.std.proofs.lemmas.List.{append-nil}
use Rattle.te_terms.specs.declared.event.Outcome.{Outcome}
use Rattle.te_terms.specs.Terms.{Term}
use Rattle.te_lock.specs.Lock.{Knowledge}
use Rattle.te_history.specs.declared.entry.Entry.{Entry}
use Rattle.te_history.specs.declared.entry.Entry.TheVariants as entries
use Rattle.te_history.specs.State.{State, state, parked_list}
use Rattle.te_board.specs.Boards.{BoardLog, Appends, IsLawful, state_of}
use Rattle.te_board.specs.declared.snapshot.Snapshot.{Snapshot}
use Rattle.te_runtime.specs.declared.fault.SyncFault.{SyncFault}
use Rattle.te_runtime.specs.declared.fault.SyncFault.TheVariants as faults
use Rattle.te_runtime.specs.declared.parting.Outlook.{Outlook}
use Rattle.te_runtime.specs.declared.parting.Outlook.TheVariants as outlooks
use Rattle.te_runtime.specs.Calls.{Called, board_of}
use Rattle.te_runtime.specs.Refusals.{HasStuck, HasRest}
use Rattle.te_runtime.specs.Turns.{Entered, Left}
use Rattle.te_runtime.specs.Syncs.{ParkedUnder}
use Rattle.te_runtime.specs.Rounds.{HoldsTicket, HasParted, IsReason, IsSeen, HasLooked, HasPartedIn, HasLookedIn}
use Rattle.te_runtime.proofs.Calling.{called_same, board_is, board_same}
use Rattle.te_runtime.proofs.PollAnswers.{appended}
use Rattle.te_runtime.proofs.TicketsHeld.{holds_posted}
use Rattle.te_terms.proofs.Lists.{get-longer}

pub parted : {p q r : Knowledge Entry} {b : BoardLog} (after : BoardLog) (by ticket : ℕ) (reason : SyncFault) (answer : Result Outcome SyncFault)
    → Entered p q b → HasParted b after by ticket reason answer → Left q r after.entries → by ≡ p.caller → HasPartedIn p r ticket reason answer
parted after by ticket reason (Ok outcome) e a l is = appended by (λ k. entries.Take k ticket outcome) (λ k. refl) e a l is
parted after by ticket reason (Err fault) e (inl (for, a)) l is = inl (for, appended by (λ k. entries.Withdraw k ticket) (λ k. refl) e a l is)
parted after by ticket reason (Err fault) e (inr (at, same, stuck)) l is =
    inr (at, called_same e same l, subst HasStuck (sym (board_same e same l)) stuck)

-- a parting appends one entry at most
parting_keeps : (b after : BoardLog) (by ticket : ℕ) (reason : SyncFault) (answer : Result Outcome SyncFault) → HasParted b after by ticket reason answer
    → (after.callers ≡ b.callers) × ((more : List Entry) × (after.entries ≡ b.entries ++ more))
parting_keeps b after by ticket reason (Ok outcome) a = (a.callers, (entries.Take by ticket outcome ∷ [], a.entries))
parting_keeps b after by ticket reason (Err fault) (inl (for, a)) = (a.callers, (entries.Withdraw by ticket ∷ [], a.entries))
parting_keeps b after by ticket reason (Err fault) (inr (at, same, stuck)) =
    (ap (λ (x : BoardLog). x.callers) same, ([], ap (λ (x : BoardLog). x.entries) same ∙ sym (append-nil b.entries)))

-- a reason that the board shows stays one
reason_stays : (b after : BoardLog) (reason : SyncFault) (more : List Entry) → after.entries ≡ b.entries ++ more → IsReason b reason → IsReason after reason
reason_stays b after faults.Resting more is (k, by, at) =
    (k, by, subst (λ (l : List Entry). slice_get l k ≡ Some (entries.Rest by)) (sym is) (get-longer b.entries more k (entries.Rest by) at))
reason_stays b after faults.Memory more is reason = tt
reason_stays b after (faults.Other status) more is reason = absurd reason
reason_stays b after faults.Stuck more is reason = absurd reason
reason_stays b after (faults.Spent front paths groups) more is reason = absurd reason
reason_stays b after faults.Full more is reason = absurd reason
reason_stays b after (faults.Busy word) more is reason = absurd reason

pub looked : {p q r : Knowledge Entry} {b : BoardLog} (after : BoardLog) (by ticket : ℕ) (outlook : Outlook) → Entered p q b
    → HasLooked b after by ticket outlook → Left q r after.entries → by ≡ p.caller → HasLookedIn p r ticket outlook
looked {p} {q} {r} {b} after by ticket (outlooks.Search seen) e s l is =
    let board : board_of r ≡ b = board_same e s.same l in
    let at : by ≡ r.caller = is ∙ sym e.same.1 ∙ sym l.same.1 in (
      called_same e s.same l,
      record {
        front = s.front_is ∙ ap (λ (x : BoardLog). length x.entries) (sym board);
        parked = s.list_is ∙ ap (λ (x : BoardLog). parked_list (state_of x)) (sym board);
      },
      subst (λ (x : BoardLog). ParkedUnder (state_of x) r.caller ticket) (sym board) (subst (λ (k : ℕ). ParkedUnder (state_of b) k ticket) at s.parks),
    )
looked {p} {q} {r} {b} after by ticket (outlooks.Over answer) e (reason, shows, parts) l is =
    let kept = parting_keeps b after by ticket reason answer parts in
    let now = reason_stays b after reason kept.1.0 kept.1.1 shows in (
      reason,
      subst (λ (x : BoardLog). IsReason x reason) (sym (board_is e kept.0 l)) now,
      parted after by ticket reason answer e parts l is,
    )

pub posted : {p q r : Knowledge Entry} {b after : BoardLog} (by ticket : ℕ) (event : Term) → Entered p q b → Appends b after (entries.Post by ticket event)
    → Left q r after.entries → by ≡ p.caller → HoldsTicket (state_of (board_of r)) r.caller ticket
posted {p} {q} {r} {b} {after} by ticket event e a l is =
    let at : by ≡ r.caller = is ∙ sym e.same.1 ∙ sym l.same.1 in
    let read : r.read ≡ b.entries ++ entries.Post by ticket event ∷ [] = l.read ∙ a.entries in
    let law : IsLawful r.lock.callers (b.entries ++ entries.Post by ticket event ∷ []) = subst (IsLawful r.lock.callers) read l.law in
    let holds = holds_posted r.lock.callers b.entries by ticket event law.legal in
    subst (λ (k : ℕ). HoldsTicket (state r.lock.callers r.read) k ticket) at
    (subst (λ (l : List Entry). HoldsTicket (state r.lock.callers l) by ticket) (sym read) holds)

-- an entry that was read stands in the board of a later turn
pub stuck_entered : {p q : Knowledge Entry} {b : BoardLog} → Entered p q b → HasStuck (board_of p) → HasStuck b
stuck_entered {p} {q} {b} e (k, by, at) =
    let longer = get-longer p.read e.begins.0 k (entries.Stuck by) at in
    (k, by, subst (λ (l : List Entry). slice_get l k ≡ Some (entries.Stuck by)) (e.begins.1 ∙ sym e.list) longer)
