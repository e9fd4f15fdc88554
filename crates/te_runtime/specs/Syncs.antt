-- What `sync` leaves and answers. This project's own.
use Rattle.std.specs.Prelude.{◌≡◌, ◌⊎◌, ℕ, ◌/◌, ◌≤◌, slice_get, Some, List, [], ◌∷◌, ◌++◌, take, length}
use Rattle.std.specs.List.{AllByRecursion}
use Rattle.te_terms.specs.declared.event.Outcome.{Outcome}
use Rattle.te_terms.specs.Terms.{Term}
use Rattle.te_lock.specs.Lock.{Knowledge}
use Rattle.te_history.specs.declared.entry.Entry.{Entry}
use Rattle.te_history.specs.declared.entry.Entry.TheVariants as entries
use Rattle.te_history.specs.declared.status.How.{How}
use Rattle.te_history.specs.State.{State, parked, state}
use Rattle.te_history.specs.Follows.{Stands}
use Rattle.te_history.specs.Givings.{givings}
use Rattle.te_board.specs.Boards.{state_of}
use Rattle.te_search.specs.Findings.{IsUsedUp}
use Rattle.te_runtime.specs.declared.fault.SyncFault.{SyncFault}
use Rattle.te_runtime.specs.declared.fault.SyncFault.TheVariants as faults
use Rattle.te_runtime.specs.Calls.{Called, RefusedAfterWait, board_of}
use Rattle.te_runtime.specs.Answers.{IsTightCommit, parked_at}
use Rattle.te_runtime.specs.Refusals.{HasStuck, HasRest, RefusesOffer}

-- the caller is parked under this ticket
abbrev pub ParkedUnder : State → ℕ → ℕ → Type 0
ParkedUnder s by ticket = (event : Term) × Stands s by (parked ticket event)

-- in this call the caller appended these entries first, then any number of tight commits, and these entries last
pub record CommitsBetween (before after : Knowledge Entry) (first last : List Entry) : Type 0 where
  pub commits : List Entry
  pub tight : AllByRecursion (IsTightCommit after.caller) commits
  pub called : Called before after ((first ++ commits) ++ last)

-- it posted the event, committed any number of groups, and took the outcome; exactly one commit of the history that was
-- read names the caller and the ticket, and gives it this outcome
pub record IsSynced (before after : Knowledge Entry) (event : Term) (outcome : Outcome) : Type 0 where
  pub ticket : ℕ
  pub appended : CommitsBetween before after (entries.Post after.caller ticket event ∷ []) (entries.Take after.caller ticket outcome ∷ [])
  pub given_once : givings after.caller ticket after.read ≡ Some outcome ∷ []

-- a search has used up its budget, of the list that was parked at a place of what was read; the caller was parked in it
-- under this ticket, and the place was read in this call, whose first look found this word
pub record IsSpentUnder (budget ticket first : ℕ) (before after : Knowledge Entry) (front paths groups : ℕ) : Type 0 where
  pub since : length before.read ≤ front
  pub fresh : first / 2 ≤ front
  pub within : front ≤ length after.read
  pub used_up : IsUsedUp (parked_at front after) budget paths groups
  pub parks : ParkedUnder (state after.lock.callers (take front after.read)) after.caller ticket

-- why a caller takes back the event that it has posted
abbrev pub WhyWithdrawn : ℕ → ℕ → ℕ → Knowledge Entry → Knowledge Entry → SyncFault → Type 0
WhyWithdrawn budget ticket first before after faults.Resting = HasRest (board_of after)
WhyWithdrawn budget ticket first before after faults.Memory = Unit {0}
WhyWithdrawn budget ticket first before after (faults.Spent front paths groups) = IsSpentUnder budget ticket first before after front paths groups
WhyWithdrawn budget ticket first before after _ = ⊥

-- it took the event back, for this reason
abbrev pub HasWithdrawn : ℕ → ℕ → Knowledge Entry → Knowledge Entry → List Entry → SyncFault → Type 0
HasWithdrawn budget ticket before after first fault =
    (appended : CommitsBetween before after first (entries.Withdraw after.caller ticket ∷ []))
    × WhyWithdrawn budget ticket appended.called.looked.first before after fault

-- it found the board stuck, or declared it so, and is parked still
pub record IsLeftStuck (ticket : ℕ) (before after : Knowledge Entry) (first : List Entry) : Type 0 where
  pub stuck : HasStuck (board_of after)
  pub parks : ParkedUnder (state_of (board_of after)) after.caller ticket
  pub appended : CommitsBetween before after first [] ⊎ CommitsBetween before after first (entries.Stuck after.caller ∷ [])

-- how a call fails that has appended these entries first
abbrev pub FailsLater : ℕ → ℕ → Knowledge Entry → Knowledge Entry → List Entry → SyncFault → Type 0
FailsLater budget ticket before after first faults.Stuck = IsLeftStuck ticket before after first
FailsLater budget ticket before after first fault = HasWithdrawn budget ticket before after first fault

-- it was refused at its first turn, where it appended nothing, or it failed once it had posted the event
abbrev pub IsSyncRefused : ℕ → Knowledge Entry → Knowledge Entry → Term → SyncFault → Type 0
IsSyncRefused budget before after event fault =
    RefusedAfterWait RefusesOffer before after fault
    ⊎ ((ticket : ℕ) × FailsLater budget ticket before after (entries.Post after.caller ticket event ∷ []) fault)

-- ---- whose board is stuck

-- the caller is parked at the end of what was read
abbrev pub HasParkedEvent : Knowledge Entry → Type 0
HasParkedEvent p = (ticket : ℕ) × ParkedUnder (state_of (board_of p)) p.caller ticket

-- its own entries have its end
abbrev pub HasEnded : Knowledge Entry → Type 0
HasEnded p = (k : ℕ) × (how : How) × (slice_get p.own k ≡ Some (entries.End p.caller how))
