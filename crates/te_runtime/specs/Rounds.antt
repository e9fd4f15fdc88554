-- The rounds of a caller that has posted its event. No public clause cites this module.
use Rattle.std.specs.Prelude.{◌≡◌, ◌⊎◌, ℕ, Result, Ok, Err, List, [], ◌∷◌, length}
use Rattle.te_terms.specs.declared.event.Outcome.{Outcome}
use Rattle.te_terms.specs.declared.event.Parked.{Parked}
use Rattle.te_lock.specs.Lock.{Knowledge}
use Rattle.te_history.specs.declared.entry.Entry.{Entry}
use Rattle.te_history.specs.declared.entry.Entry.TheVariants as entries
use Rattle.te_history.specs.State.{State, given, parked_list}
use Rattle.te_history.specs.Follows.{Stands}
use Rattle.te_board.specs.Boards.{BoardLog, Appends, state_of}
use Rattle.te_search.specs.declared.finding.SearchFault.{SearchFault}
use Rattle.te_search.specs.declared.finding.SearchFault.TheVariants as search
use Rattle.te_runtime.specs.declared.fault.SyncFault.{SyncFault}
use Rattle.te_runtime.specs.declared.fault.SyncFault.TheVariants as faults
use Rattle.te_runtime.specs.declared.answers.Driven.{Driven}
use Rattle.te_runtime.specs.declared.answers.Driven.TheVariants as driven
use Rattle.te_runtime.specs.declared.parting.Outlook.{Outlook}
use Rattle.te_runtime.specs.declared.parting.Outlook.TheVariants as outlooks
use Rattle.te_runtime.specs.declared.syncing.Stage.{Stage}
use Rattle.te_runtime.specs.declared.syncing.Stage.TheVariants as stages
use Rattle.te_runtime.specs.Calls.{Called, board_of}
use Rattle.te_runtime.specs.Refusals.{HasStuck, HasRest}
use Rattle.te_runtime.specs.Acts.{IsSnapshotOf}
use Rattle.te_runtime.specs.Syncs.{ParkedUnder, CommitsBetween, FailsLater}

-- the caller is parked under this ticket, or was given an outcome under it
abbrev pub HoldsTicket : State → ℕ → ℕ → Type 0
HoldsTicket s by ticket = ParkedUnder s by ticket ⊎ ((outcome : Outcome) × Stands s by (given ticket outcome))

-- ---- one turn, as the board is changed by it

-- the caller took its outcome, or took its event back for this reason, or found the board stuck
abbrev pub HasParted : BoardLog → BoardLog → ℕ → ℕ → SyncFault → Result Outcome SyncFault → Type 0
HasParted before after by ticket reason (Ok outcome) = Appends before after (entries.Take by ticket outcome)
HasParted before after by ticket reason (Err fault) =
    ((fault ≡ reason) × Appends before after (entries.Withdraw by ticket)) ⊎ ((fault ≡ faults.Stuck) × (after ≡ before) × HasStuck before)

-- why a caller parts that only looks
abbrev pub IsReason : BoardLog → SyncFault → Type 0
IsReason b faults.Resting = HasRest b
IsReason b faults.Memory = Unit {0}
IsReason b _ = ⊥

-- the parked events were copied, of which the caller's own is one
pub record IsSeen (before after : BoardLog) (by ticket front : ℕ) (list : List Parked) : Type 0 where
  pub same : after ≡ before
  pub front_is : front ≡ length before.entries
  pub list_is : list ≡ parked_list (state_of before)
  pub parks : ParkedUnder (state_of before) by ticket

abbrev pub HasLooked : BoardLog → BoardLog → ℕ → ℕ → Outlook → Type 0
HasLooked before after by ticket (outlooks.Search seen) = IsSeen before after by ticket seen.front seen.parked
HasLooked before after by ticket (outlooks.Over answer) = (reason : SyncFault) × IsReason before reason × HasParted before after by ticket reason answer

-- ---- one turn, as the pass tells of it

abbrev pub HasPartedIn : Knowledge Entry → Knowledge Entry → ℕ → SyncFault → Result Outcome SyncFault → Type 0
HasPartedIn before after ticket reason (Ok outcome) = Called before after (entries.Take after.caller ticket outcome ∷ [])
HasPartedIn before after ticket reason (Err fault) =
    ((fault ≡ reason) × Called before after (entries.Withdraw after.caller ticket ∷ []))
    ⊎ ((fault ≡ faults.Stuck) × Called before after [] × HasStuck (board_of after))

abbrev pub HasLookedIn : Knowledge Entry → Knowledge Entry → ℕ → Outlook → Type 0
HasLookedIn before after ticket (outlooks.Search seen) =
    Called before after [] × IsSnapshotOf after seen × ParkedUnder (state_of (board_of after)) after.caller ticket
HasLookedIn before after ticket (outlooks.Over answer) =
    (reason : SyncFault) × IsReason (board_of after) reason × HasPartedIn before after ticket reason answer

-- ---- one round

-- what is answered by a caller that has appended these entries first
abbrev pub IsAnsweredSo : ℕ → ℕ → Knowledge Entry → Knowledge Entry → List Entry → Result Outcome SyncFault → Type 0
IsAnsweredSo budget ticket before after first (Ok outcome) = CommitsBetween before after first (entries.Take after.caller ticket outcome ∷ [])
IsAnsweredSo budget ticket before after first (Err fault) = FailsLater budget ticket before after first fault

abbrev pub IsStageOf : ℕ → ℕ → Knowledge Entry → Knowledge Entry → Stage → Type 0
IsStageOf budget ticket before after (stages.Over answer) = IsAnsweredSo budget ticket before after [] answer
IsStageOf budget ticket before after _ = CommitsBetween before after [] []

-- ---- what a search and an act are told as

abbrev pub unfound : ℕ → SearchFault → SyncFault
unfound front (search.Spent paths groups) = faults.Spent front paths groups
unfound front search.Memory = faults.Memory

abbrev pub after_driven : Driven → Stage
after_driven (driven.Committed front) = stages.Again
after_driven (driven.Moved from front) = stages.Again
after_driven (driven.Blocked front) = stages.Sleep
after_driven driven.Stuck = stages.Over (Err faults.Stuck)
