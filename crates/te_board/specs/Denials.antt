-- Why a board refuses a call: the first need that fails. This project's own.
use Rattle.std.specs.Prelude.{◌≡◌, ◌≢◌, ℕ, ◌+◌, ◌<◌, true, List, length}
use Rattle.std.specs.List.{AllByRecursion}
use Rattle.te_terms.specs.declared.event.Outcome.{Outcome}
use Rattle.te_terms.specs.declared.event.Parked.{Parked}
use Rattle.te_cert.specs.declared.cert.Cert.{Cert}
use Rattle.te_history.specs.declared.entry.StepFault.{StepFault}
use Rattle.te_history.specs.declared.entry.StepFault.TheVariants as steps
use Rattle.te_history.specs.declared.status.Status.TheVariants as statuses
use Rattle.te_history.specs.State.{parked_list}
use Rattle.te_history.specs.Follows.{IsRunning, IsParkedOrEnded}
use Rattle.te_history.specs.Histories.{HasStatus}
use Rattle.te_history.specs.Refusals.{IsNotParked, IsFirstLive, RefusesMembers, RefusesPlay}
use Rattle.te_board.specs.declared.fault.BoardFault.{BoardFault}
use Rattle.te_board.specs.declared.fault.BoardFault.TheVariants as faults
use Rattle.te_board.specs.Boards.{BoardLog, state_of, room_of_board, most_entries}

-- the board is stuck
abbrev pub IsClosed : BoardLog → Type 0
IsClosed b = (state_of b).stuck ≡ true

-- no room for one entry and three more of a new ticket
abbrev pub IsFull : BoardLog → Type 0
IsFull b = most_entries < length b.entries + room_of_board b + 3

abbrev pub DeniesPost : BoardLog → ℕ → BoardFault → Type 0
DeniesPost b by faults.Closed = IsClosed b
DeniesPost b by (faults.NotIdle status) = IsRunning (state_of b) × HasStatus (state_of b) by status × (status ≢ statuses.Idle)
DeniesPost b by faults.Full = IsRunning (state_of b) × HasStatus (state_of b) by statuses.Idle × IsFull b
DeniesPost b by _ = ⊥

abbrev pub DeniesWithdraw : BoardLog → ℕ → BoardFault → Type 0
DeniesWithdraw b by faults.Closed = IsClosed b
DeniesWithdraw b by (faults.NotParked status) = IsRunning (state_of b) × HasStatus (state_of b) by status × IsNotParked status
DeniesWithdraw b by _ = ⊥

-- on a stuck board nobody is given an outcome
abbrev pub DeniesTake : BoardLog → ℕ → BoardFault → Type 0
DeniesTake b by (faults.NotGiven status) = HasStatus (state_of b) by status × ((ticket : ℕ) (due : Outcome) → status ≢ statuses.Given ticket due)
DeniesTake b by _ = ⊥

abbrev pub DeniesRest : BoardLog → BoardFault → Type 0
DeniesRest b faults.Closed = IsClosed b
DeniesRest b faults.Resting = IsRunning (state_of b) × ((state_of b).resting ≡ true)
DeniesRest b _ = ⊥

-- every caller is parked or has ended
abbrev pub AllWait : BoardLog → Type 0
AllWait b = AllByRecursion IsParkedOrEnded (state_of b).callers

abbrev pub DeniesStuck : BoardLog → ℕ → List Parked → BoardFault → Type 0
DeniesStuck b by parked faults.Closed = IsClosed b
DeniesStuck b by parked (faults.Live t status) = IsRunning (state_of b) × IsFirstLive (state_of b) t status
DeniesStuck b by parked (faults.NotParked status) = IsRunning (state_of b) × AllWait b × HasStatus (state_of b) by status × IsNotParked status
DeniesStuck b by parked (faults.Moved now) =
    IsRunning (state_of b) × AllWait b × ((ticket : ℕ) × HasStatus (state_of b) by (statuses.Parked ticket)) × (now ≡ length b.entries)
    × (parked_list (state_of b) ≢ parked)
DeniesStuck b by parked _ = ⊥

abbrev pub DeniesEnd : BoardLog → ℕ → BoardFault → Type 0
DeniesEnd b by (faults.NotIdle status) = IsRunning (state_of b) × HasStatus (state_of b) by status × (status ≢ statuses.Idle)
DeniesEnd b by (faults.NotParked status) = IsClosed b × HasStatus (state_of b) by status × IsNotParked status
DeniesEnd b by _ = ⊥

-- the first need of a commit that fails, as the history tells it; want of memory comes once the members can play
abbrev pub DeniesCommit : BoardLog → Cert → BoardFault → Type 0
DeniesCommit b cert faults.Closed = IsClosed b
DeniesCommit b cert (faults.Stranger i) = IsRunning (state_of b) × RefusesPlay b.callers (state_of b) cert (steps.Stranger i)
DeniesCommit b cert (faults.Stale i status) = IsRunning (state_of b) × RefusesPlay b.callers (state_of b) cert (steps.Stale i status)
DeniesCommit b cert (faults.Unsound fault) = IsRunning (state_of b) × RefusesPlay b.callers (state_of b) cert (steps.Unsound fault)
DeniesCommit b cert faults.Memory = IsRunning (state_of b) × RefusesPlay b.callers (state_of b) cert steps.Memory
DeniesCommit b cert _ = ⊥

-- the same where the play is known: only what comes before it
abbrev pub DeniesPlayed : BoardLog → Cert → BoardFault → Type 0
DeniesPlayed b cert faults.Closed = IsClosed b
DeniesPlayed b cert (faults.Stranger i) = IsRunning (state_of b) × RefusesMembers b.callers (state_of b) cert (steps.Stranger i)
DeniesPlayed b cert (faults.Stale i status) = IsRunning (state_of b) × RefusesMembers b.callers (state_of b) cert (steps.Stale i status)
DeniesPlayed b cert (faults.Unsound fault) = IsRunning (state_of b) × RefusesMembers b.callers (state_of b) cert (steps.Unsound fault)
DeniesPlayed b cert _ = ⊥

-- the refusals of a commit's members and its play
abbrev pub IsOfPlay : StepFault → Type 0
IsOfPlay (steps.Stranger i) = Unit {0}
IsOfPlay (steps.Stale i status) = Unit {0}
IsOfPlay (steps.Unsound found) = Unit {0}
IsOfPlay steps.Memory = Unit {0}
IsOfPlay _ = ⊥

-- as the board tells them
abbrev pub IsToldAs : StepFault → BoardFault → Type 0
IsToldAs (steps.Stranger i) fault = fault ≡ faults.Stranger i
IsToldAs (steps.Stale i status) fault = fault ≡ faults.Stale i status
IsToldAs (steps.Unsound found) fault = fault ≡ faults.Unsound found
IsToldAs steps.Memory fault = fault ≡ faults.Memory
IsToldAs _ fault = ⊥
