-- Refusals of a turn are refusals of the call.
use Rattle.std.proofs.Common.{◌≡◌, ◌≢◌, ℕ, inl, inr, [], true, false, Some, Result, Ok, Err, refl, sym, ap, ◌∙◌, subst}
use Rattle.std.specs.Result.{IfErr, OnErr}
use Rattle.te_lock.specs.Lock.{Knowledge}
use Rattle.te_history.specs.declared.entry.Entry.{Entry}
use Rattle.te_history.specs.declared.status.Status.{Status}
use Rattle.te_history.specs.declared.status.Status.TheVariants as statuses
use Rattle.te_history.specs.State.{State}
use Rattle.te_history.specs.Follows.{IsRunning}
use Rattle.te_history.specs.Histories.{HasStatus, status_of}
use Rattle.te_history.specs.Refusals.{IsNotParked}
use Rattle.te_board.specs.Boards.{BoardLog, state_of}
use Rattle.te_board.specs.Denials.{DeniesPost, DeniesWithdraw, DeniesTake}
use Rattle.te_board.specs.declared.fault.BoardFault.{BoardFault}
use Rattle.te_board.specs.declared.fault.BoardFault.TheVariants as board
use Rattle.te_runtime.specs.declared.fault.SyncFault.{SyncFault}
use Rattle.te_runtime.specs.declared.fault.SyncFault.TheVariants as faults
use Rattle.te_runtime.specs.Refusals.{HasNothing, RefusesTurn, RefusesDrive}
use Rattle.te_runtime.specs.Calls.{Called, IsBusy, Refused, RefusedAfterWait, RefusedOnce, board_of}
use Rattle.te_runtime.specs.Turns.{Entered, Left}
use Rattle.te_runtime.proofs.Calling.{called_same, called_then, board_same}
use Rattle.te_history.proofs.RefusalsAreOne.{statuses_are_one}
use Rattle.te_serial.proofs.GroupsGiven.{runs}

-- ---- one status, and a running board

-- ---- what a board can't refuse

pub post_fits : (b : BoardLog) (by : ℕ) (fault : BoardFault) → IsRunning (state_of b) → HasStatus (state_of b) by statuses.Idle → fault ≢ board.Full
    → DeniesPost b by fault → ⊥
post_fits b by board.Closed running idle other denies = runs (state_of b) running denies
post_fits b by (board.NotIdle status) running idle other denies = denies.2 (statuses_are_one (state_of b) by status statuses.Idle denies.1 idle)
post_fits b by board.Full running idle other denies = other refl
post_fits b by _ running idle other denies = denies

pub withdrawal_fits : (b : BoardLog) (by : ℕ) (fault : BoardFault) → IsRunning (state_of b) → ((status : Status) → fault ≢ board.NotParked status)
    → DeniesWithdraw b by fault → ⊥
withdrawal_fits b by board.Closed running other denies = runs (state_of b) running denies
withdrawal_fits b by (board.NotParked status) running other denies = other status refl
withdrawal_fits b by _ running other denies = denies

pub take_fits : (b : BoardLog) (by : ℕ) (fault : BoardFault) → ((status : Status) → fault ≢ board.NotGiven status) → DeniesTake b by fault → ⊥
take_fits b by (board.NotGiven status) other denies = other status refl
take_fits b by _ other denies = denies

-- who is neither given an outcome nor parked has nothing
pub has_nothing : (status : Status) → IsNotParked status → ((ticket : ℕ) (due : _) → status ≢ statuses.Given ticket due) → HasNothing status
has_nothing statuses.Idle parked given = tt
has_nothing (statuses.Parked ticket) parked given = absurd (parked ticket refl)
has_nothing (statuses.Given ticket due) parked given = absurd (given ticket due refl)
has_nothing statuses.Ended parked given = tt

-- ---- refusals of a turn

-- the turn was held
pub busy_refused : (refuses : BoardLog → ℕ → SyncFault → Type 0) (p q : Knowledge Entry) (f : SyncFault) → IsBusy p q f → Refused refuses p q f
busy_refused refuses p q (faults.Busy word) held = held
busy_refused refuses p q _ held = absurd held

-- causes that are none of the turn itself
abbrev pub IsNoTurn : (BoardLog → ℕ → SyncFault → Type 0) → Type 0
IsNoTurn refuses = (b : BoardLog) (by word : ℕ) → refuses b by (faults.Busy word) → ⊥

-- what was refused on the board of the turn is so of what was read
pub refused_wait : (refuses : BoardLog → ℕ → SyncFault → Type 0) → {p q r : Knowledge Entry} {b after : BoardLog} (by : ℕ) (f : SyncFault) → Entered p q b
    → after ≡ b → Left q r after.entries → by ≡ p.caller → refuses b by f → RefusedAfterWait refuses p r f
refused_wait refuses {p} {q} {r} {b} by f e same l is cause =
    let at : by ≡ r.caller = is ∙ sym e.same.1 ∙ sym l.same.1 in (
      called_same e same l,
      subst (λ (x : BoardLog). refuses x r.caller f) (sym (board_same e same l)) (subst (λ (k : ℕ). refuses b k f) at cause),
    )

pub refused_after_wait : {A : Type 0} (refuses : BoardLog → ℕ → SyncFault → Type 0) (answer : Result A SyncFault) → {p q r : Knowledge Entry} {b : BoardLog}
    (after : BoardLog) (by : ℕ) → Entered p q b → Left q r after.entries → by ≡ p.caller → OnErr answer (after ≡ b) → IfErr answer (refuses b by)
    → IfErr answer (RefusedAfterWait refuses p r)
refused_after_wait refuses (Ok x) after by e l is same cause = tt
refused_after_wait refuses (Err f) after by e l is same cause = refused_wait refuses by f e same l is cause

pub refused : (refuses : BoardLog → ℕ → SyncFault → Type 0) → IsNoTurn refuses
    → {p q r : Knowledge Entry} {b after : BoardLog} (by : ℕ) (f : SyncFault) → Entered p q b → after ≡ b
    → Left q r after.entries → by ≡ p.caller → refuses b by f → Refused refuses p r f
refused refuses other {p} {q} {r} {b} {after} by f e same l is cause = let shown = refused_wait refuses by f e same l is cause in either f shown.0 shown.1
  where
    either : (g : SyncFault) → Called p r [] → refuses (board_of r) r.caller g → Refused refuses p r g
    either (faults.Other status) c s = (c, s)
    either faults.Stuck c s = (c, s)
    either faults.Resting c s = (c, s)
    either (faults.Spent front paths groups) c s = (c, s)
    either faults.Full c s = (c, s)
    either (faults.Busy word) c s = absurd (other (board_of r) r.caller word s)
    either faults.Memory c s = (c, s)

pub refused_call : {A : Type 0} (refuses : BoardLog → ℕ → SyncFault → Type 0) → IsNoTurn refuses → (answer : Result A SyncFault)
    → {p q r : Knowledge Entry} {b : BoardLog} (after : BoardLog) (by : ℕ)
    → Entered p q b → Left q r after.entries → by ≡ p.caller → OnErr answer (after ≡ b) → IfErr answer (refuses b by) → IfErr answer (Refused refuses p r)
refused_call refuses other (Ok x) after by e l is same cause = tt
refused_call refuses other (Err f) after by e l is same cause = refused refuses other by f e same l is cause

-- ---- refusals at one of two turns

-- a turn's refusal is the drive's
as_drive : (budget : ℕ) (b : BoardLog) (f : SyncFault) → RefusesTurn b f → RefusesDrive budget b f
as_drive budget b (faults.Spent front paths groups) cause = absurd cause
as_drive budget b _ cause = cause

pub refused_first : (budget : ℕ) (p q : Knowledge Entry) (f : SyncFault) → Refused (λ b by. RefusesTurn b) p q f → RefusedOnce (RefusesDrive budget) p q f
refused_first budget p q (faults.Other status) r = r
refused_first budget p q faults.Stuck r = r
refused_first budget p q faults.Resting r = r
refused_first budget p q (faults.Spent front paths groups) r = absurd r.1
refused_first budget p q faults.Full r = r
refused_first budget p q (faults.Busy word) r = inl r
refused_first budget p q faults.Memory r = r

pub refused_second : (budget : ℕ) (p m q : Knowledge Entry) (f : SyncFault) → Called p m [] → Refused (λ b by. RefusesTurn b) m q f
    → RefusedOnce (RefusesDrive budget) p q f
refused_second budget p m q (faults.Other status) c r = absurd r.1
refused_second budget p m q faults.Stuck c r = (called_then [] [] c r.0, r.1)
refused_second budget p m q faults.Resting c r = absurd r.1
refused_second budget p m q (faults.Spent front paths groups) c r = absurd r.1
refused_second budget p m q faults.Full c r = absurd r.1
refused_second budget p m q (faults.Busy word) c r = inr (m, c, r)
refused_second budget p m q faults.Memory c r = (called_then [] [] c r.0, r.1)
