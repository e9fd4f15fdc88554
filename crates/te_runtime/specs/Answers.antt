-- What the calls of a runtime answer. This project's own.
use Rattle.std.specs.Prelude.{◌≡◌, ◌≢◌, ◌⊎◌, ℕ, ◌/◌, ◌≤◌, List, [], ◌∷◌, take, length}
use Rattle.te_terms.specs.declared.event.Outcome.{Outcome}
use Rattle.te_terms.specs.declared.event.Parked.{Parked}
use Rattle.te_terms.specs.Joint.{CanCommit}
use Rattle.te_cert.specs.declared.cert.Cert.{Cert}
use Rattle.te_cert.specs.Certs.{IsTight}
use Rattle.te_lock.specs.Lock.{Knowledge}
use Rattle.te_history.specs.declared.entry.Entry.{Entry}
use Rattle.te_history.specs.declared.entry.Entry.TheVariants as entries
use Rattle.te_history.specs.declared.status.Status.{Status}
use Rattle.te_history.specs.declared.status.Status.TheVariants as statuses
use Rattle.te_history.specs.State.{State, state, parked_list}
use Rattle.te_history.specs.Follows.{IsRunning}
use Rattle.te_history.specs.Histories.{HasStatus}
use Rattle.te_history.specs.Refusals.{IsNotParked}
use Rattle.te_board.specs.Boards.{state_of}
use Rattle.te_runtime.specs.declared.answers.Polled.{Polled}
use Rattle.te_runtime.specs.declared.answers.Polled.TheVariants as polled
use Rattle.te_runtime.specs.declared.answers.Driven.{Driven}
use Rattle.te_runtime.specs.declared.answers.Driven.TheVariants as driven
use Rattle.te_runtime.specs.Calls.{Called, board_of}

-- the caller is parked, on a running board
pub record CallerWaits (s : State) (by : ℕ) : Type 0 where
  pub running : IsRunning s
  pub ticket : ℕ
  pub parked : HasStatus s by (statuses.Parked ticket)

-- it took the outcome, or it waits at the end of what was read
abbrev pub IsPolled : Knowledge Entry → Knowledge Entry → Polled → Type 0
IsPolled before after (polled.Ready outcome) = (ticket : ℕ) × Called before after (entries.Take after.caller ticket outcome ∷ [])
IsPolled before after (polled.Waiting front) = Called before after [] × (front ≡ length after.read) × CallerWaits (state_of (board_of after)) after.caller

-- the entry is a commit by this caller, of members that can't be split into two parts with no meeting between them
pub record IsTightCommit (by : ℕ) (e : Entry) : Type 0 where
  pub cert : Cert
  pub outcomes : List Outcome
  pub is : e ≡ entries.Commit by cert outcomes
  pub tight : IsTight cert

-- some caller is neither parked nor ended, or this caller isn't parked: it may not declare the board stuck
abbrev pub MayNotDeclare : State → ℕ → Type 0
MayNotDeclare s by =
    ((t : ℕ) × (status : Status) × HasStatus s t status × IsNotParked status × (status ≢ statuses.Ended))
    ⊎ ((status : Status) × HasStatus s by status × IsNotParked status)

-- the list parked after so many of the entries that the pass has read
abbrev pub parked_at : ℕ → Knowledge Entry → List Parked
parked_at front p = parked_list (state p.lock.callers (take front p.read))

-- the lists parked at two places differ; both places were read in this call, and the second is the end of what was read
pub record HasMoved (before after : Knowledge Entry) (from front : ℕ) : Type 0 where
  pub called : Called before after []
  pub fresh : called.looked.first / 2 ≤ from
  pub within : from ≤ front
  pub front_is : front ≡ length after.read
  pub differ : parked_at from after ≢ parked_at front after

-- the list parked at the end of what was read can't commit, and the caller may not declare the board stuck there
pub record IsBlocked (before after : Knowledge Entry) (front : ℕ) : Type 0 where
  pub called : Called before after []
  pub front_is : front ≡ length after.read
  pub cannot : ¬ CanCommit (parked_list (state_of (board_of after)))
  pub may_not : MayNotDeclare (state_of (board_of after)) after.caller

abbrev pub IsDriven : Knowledge Entry → Knowledge Entry → Driven → Type 0
IsDriven before after (driven.Committed front) = (front ≡ length after.read) × ((e : Entry) × IsTightCommit after.caller e × Called before after (e ∷ []))
IsDriven before after (driven.Moved from front) = HasMoved before after from front
IsDriven before after (driven.Blocked front) = IsBlocked before after front
IsDriven before after driven.Stuck = Called before after (entries.Stuck after.caller ∷ [])
