-- Why a runtime refuses a call, as the history that was read shows it: the first cause that holds. This project's own.
use Rattle.std.specs.Prelude.{◌≡◌, ◌≢◌, ℕ, false, Some, slice_get, length}
use Rattle.te_history.specs.declared.entry.Entry.TheVariants as entries
use Rattle.te_history.specs.declared.status.How.{How}
use Rattle.te_history.specs.declared.status.How.TheVariants as ways
use Rattle.te_history.specs.declared.status.Status.{Status}
use Rattle.te_history.specs.declared.status.Status.TheVariants as statuses
use Rattle.te_history.specs.State.{parked_list}
use Rattle.te_history.specs.Follows.{IsRunning}
use Rattle.te_history.specs.Histories.{HasStatus}
use Rattle.te_history.specs.Refusals.{IsNotParked}
use Rattle.te_board.specs.Boards.{BoardLog, state_of}
use Rattle.te_board.specs.Denials.{IsFull}
use Rattle.te_search.specs.Findings.{IsUsedUp}
use Rattle.te_runtime.specs.declared.fault.SyncFault.{SyncFault}
use Rattle.te_runtime.specs.declared.fault.SyncFault.TheVariants as faults

-- an entry that declares the board stuck stands in the history
abbrev pub HasStuck : BoardLog → Type 0
HasStuck b = (k by : ℕ) × (slice_get b.entries k ≡ Some (entries.Stuck by))

-- an entry that tells the callers to come back stands in it
abbrev pub HasRest : BoardLog → Type 0
HasRest b = (k by : ℕ) × (slice_get b.entries k ≡ Some (entries.Rest by))

-- the caller stands so, on a running board
abbrev pub CallerStandsAs : BoardLog → ℕ → Status → Type 0
CallerStandsAs b by status = IsRunning (state_of b) × HasStatus (state_of b) by status

abbrev pub RefusesOffer : BoardLog → ℕ → SyncFault → Type 0
RefusesOffer b by faults.Stuck = HasStuck b
RefusesOffer b by (faults.Other status) = CallerStandsAs b by status × (status ≢ statuses.Idle)
RefusesOffer b by faults.Resting = CallerStandsAs b by statuses.Idle × HasRest b
RefusesOffer b by faults.Full = CallerStandsAs b by statuses.Idle × ((state_of b).resting ≡ false) × IsFull b
RefusesOffer b by faults.Memory = CallerStandsAs b by statuses.Idle × ((state_of b).resting ≡ false)
RefusesOffer b by _ = ⊥

abbrev pub RefusesRecall : BoardLog → ℕ → SyncFault → Type 0
RefusesRecall b by faults.Stuck = HasStuck b
RefusesRecall b by (faults.Other status) = CallerStandsAs b by status × IsNotParked status
RefusesRecall b by _ = ⊥

-- neither parked nor given an outcome
abbrev pub HasNothing : Status → Type 0
HasNothing statuses.Idle = Unit {0}
HasNothing statuses.Ended = Unit {0}
HasNothing _ = ⊥

abbrev pub RefusesPoll : BoardLog → ℕ → SyncFault → Type 0
RefusesPoll b by faults.Stuck = HasStuck b
RefusesPoll b by (faults.Other status) = CallerStandsAs b by status × HasNothing status
RefusesPoll b by _ = ⊥

-- a turn of a drive needs a board that isn't stuck, and memory
abbrev pub RefusesTurn : BoardLog → SyncFault → Type 0
RefusesTurn b faults.Stuck = HasStuck b
RefusesTurn b faults.Memory = Unit {0}
RefusesTurn b _ = ⊥

-- so does the drive, whose search of the list that is parked at the end of the history may use up its budget
abbrev pub RefusesDrive : ℕ → BoardLog → SyncFault → Type 0
RefusesDrive budget b (faults.Spent front paths groups) = (front ≡ length b.entries) × IsUsedUp (parked_list (state_of b)) budget paths groups
RefusesDrive budget b fault = RefusesTurn b fault

-- an end as stuck needs a parked caller, on a stuck board; every other end an idle one, on a running board
abbrev pub RefusesEnding : How → BoardLog → ℕ → SyncFault → Type 0
RefusesEnding ways.Stuck b by (faults.Other status) = HasStuck b × HasStatus (state_of b) by status × IsNotParked status
RefusesEnding ways.Stuck b by _ = ⊥
RefusesEnding how b by faults.Stuck = HasStuck b
RefusesEnding how b by (faults.Other status) = CallerStandsAs b by status × (status ≢ statuses.Idle)
RefusesEnding how b by _ = ⊥

abbrev pub RefusesResting : BoardLog → SyncFault → Type 0
RefusesResting b faults.Stuck = HasStuck b
RefusesResting b faults.Resting = IsRunning (state_of b) × HasRest b
RefusesResting b _ = ⊥

-- copies of entries need memory alone
abbrev pub RefusesNews : SyncFault → Type 0
RefusesNews faults.Memory = Unit {0}
RefusesNews _ = ⊥
