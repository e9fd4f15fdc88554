-- What a turn of a poll tells is what the poll answers.
use Rattle.std.proofs.Common.{◌≡◌, ℕ, zero, suc, List, [], ◌∷◌, slice_set, Result, Ok, Err, Some, length, refl, sym, ap, ◌∙◌, subst}
use Rattle.std.specs.List.{slice_get}
use Rattle.std.specs.Result.{IfOk, IfErr, OnErr}
use Rattle.te_terms.specs.declared.event.Outcome.{Outcome}
use Rattle.te_lock.specs.Lock.{Knowledge}
use Rattle.te_history.specs.declared.entry.Entry.{Entry}
use Rattle.te_history.specs.declared.entry.Entry.TheVariants as entries
use Rattle.te_history.specs.declared.status.Status.TheVariants as statuses
use Rattle.te_history.specs.State.{State, idle, with_standing, state}
use Rattle.te_history.specs.Follows.{caller_of}
use Rattle.te_history.specs.Histories.{HasStatus, status_of}
use Rattle.te_history.proofs.AfterEntry.{state-after}
use Rattle.te_history.proofs.Lasting.{stuck_exactly}
use Rattle.te_board.specs.Boards.{BoardLog, Appends, state_of}
use Rattle.te_runtime.specs.declared.answers.Polled.{Polled}
use Rattle.te_runtime.specs.declared.answers.Polled.TheVariants as polled
use Rattle.te_runtime.specs.declared.fault.SyncFault.{SyncFault}
use Rattle.te_runtime.specs.declared.fault.SyncFault.TheVariants as faults
use Rattle.te_runtime.specs.Refusals.{HasNothing, RefusesPoll}
use Rattle.te_runtime.specs.Calls.{Called, board_of}
use Rattle.te_runtime.specs.Answers.{CallerWaits, IsPolled}
use Rattle.te_runtime.specs.Turns.{Entered, Left}
use Rattle.te_runtime.specs.Acts.{Polls}
use Rattle.te_runtime.proofs.Calling.{called, called_same, board_is, board_same}
use Rattle.te_serial.proofs.GroupsGiven.{runs}
use Rattle.te_history.proofs.RefusalsAreOne.{statuses_are_one}

-- an entry of a caller that is told by its number
pub appended : {p q r : Knowledge Entry} {b after : BoardLog} (by : ℕ) (entry : ℕ → Entry) → ((k : ℕ) → caller_of (entry k) ≡ k) → Entered p q b
    → Appends b after (entry by) → Left q r after.entries
    → by ≡ p.caller → Called p r (entry r.caller ∷ [])
appended {p} {q} {r} {b} {after} by entry of e a l is =
    let at : by ≡ q.caller = is ∙ sym e.same.1 in
    subst (λ (k : ℕ). Called p r (entry k ∷ [])) (at ∙ sym l.same.1) (called e a (of by ∙ at) l)

pub is_polled : {p q r : Knowledge Entry} {b : BoardLog} (after : BoardLog) (by : ℕ) (answer : Polled) → Entered p q b → Polls b after by answer
    → Left q r after.entries → by ≡ p.caller → IsPolled p r answer
is_polled after by (polled.Ready outcome) e polls l is = (polls.0, appended by (λ k. entries.Take k polls.0 outcome) (λ k. refl) e polls.1 l is)
is_polled {p} {q} {r} {b} after by (polled.Waiting front) e polls l is =
    let board : board_of r ≡ b = board_same e polls.0 l in
    let waits : CallerWaits (state_of (board_of r)) r.caller =
    subst (λ (x : BoardLog). CallerWaits (state_of x) r.caller) (sym board) (subst (CallerWaits (state_of b)) (is ∙ sym e.same.1 ∙ sym l.same.1) polls.2) in
    (called_same e polls.0 l, polls.1 ∙ ap (λ (x : BoardLog). length x.entries) (sym board), waits)

-- ---- who waits is told so

-- what was put into a list is there
pub set_there : {X : Type 0} (xs : List X) (i : ℕ) (v x : X) → slice_get (slice_set xs i v) i ≡ Some x → x ≡ v
set_there [] i v x is = absurd cc
set_there (y ∷ ys) zero v x is = cc
set_there (y ∷ ys) (suc i) v x is = set_there ys i v x is

-- who took its outcome isn't parked
took : (b after : BoardLog) (by ticket : ℕ) (outcome : Outcome) → Appends b after (entries.Take by ticket outcome) → CallerWaits (state_of after) by → ⊥
took b after by ticket outcome a waits =
    let state_is : state_of after ≡ with_standing by idle (state_of b) =
    (λ i. state (a.callers i) (a.entries i)) ∙ state-after b.callers b.entries (entries.Take by ticket outcome) in
    let has = subst (λ (s : State). HasStatus s by (statuses.Parked waits.ticket)) state_is waits.parked in
    let idle_is : has.0 ≡ idle = set_there (state_of b).callers by idle has.0 has.1 in
    let both : statuses.Parked waits.ticket ≡ statuses.Idle = has.2 ∙ ap status_of idle_is in
    cc

-- whose poll is refused doesn't wait
not_waiting : (b : BoardLog) (by : ℕ) (f : SyncFault) → RefusesPoll b by f → CallerWaits (state_of b) by → ⊥
not_waiting b by faults.Stuck cause waits = runs (state_of b) waits.running ((stuck_exactly b.callers b.entries).1 cause)
not_waiting b by (faults.Other status) cause waits =
    subst HasNothing (statuses_are_one (state_of b) by status (statuses.Parked waits.ticket) cause.0.1 waits.parked) cause.1
not_waiting b by _ cause waits = cause

pub waits_told : (answer : Result Polled SyncFault) {p q r : Knowledge Entry} {b : BoardLog} (after : BoardLog) (by : ℕ) → Entered p q b
    → after.callers ≡ b.callers → Left q r after.entries → by ≡ p.caller
    → IfOk answer (Polls b after by) → OnErr answer (after ≡ b) → IfErr answer (RefusesPoll b by)
    → CallerWaits (state_of (board_of r)) r.caller → answer ≡ Ok (polled.Waiting (length r.read))
waits_told answer {p} {q} {r} {b} after by e callers l is ok same refused waits = by_answer answer ok same refused
  where
    here : CallerWaits (state_of after) by
    here = subst (λ (x : BoardLog). CallerWaits (state_of x) by) (board_is e callers l)
        (subst (CallerWaits (state_of (board_of r))) (sym (is ∙ sym e.same.1 ∙ sym l.same.1)) waits)

    by_answer : (a : Result Polled SyncFault) → IfOk a (Polls b after by) → OnErr a (after ≡ b) → IfErr a (RefusesPoll b by)
        → a ≡ Ok (polled.Waiting (length r.read))
    by_answer (Ok (polled.Ready outcome)) ok same refused = absurd (took b after by ok.0 outcome ok.1 here)
    by_answer (Ok (polled.Waiting front)) ok same refused =
        let front_is : front ≡ length r.read = ok.1 ∙ ap (λ (x : BoardLog). length x.entries) (sym (board_same e ok.0 l)) in
        ap (λ (n : ℕ). Ok (polled.Waiting n)) front_is
    by_answer (Err f) ok same refused = absurd (not_waiting b by f refused (subst (λ (x : BoardLog). CallerWaits (state_of x) by) same here))
