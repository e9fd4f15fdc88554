-- What a history is seen as: the number of its callers, its entries, and the room for more. This project's own.
use Rattle.std.specs.Prelude.{◌≡◌, ℕ, ◌-◌, Bool, true, false, List, [], ◌∷◌, ◌++◌}
use Rattle.te_history.specs.declared.entry.Entry.{Entry}
use Rattle.te_history.specs.declared.status.Status.{Status}
use Rattle.te_history.specs.declared.status.Status.TheVariants as statuses
use Rattle.te_history.specs.declared.status.Phase.{Phase}
use Rattle.te_history.specs.declared.status.Phase.TheVariants as phases
use Rattle.te_history.specs.State.{Standing, idle, parked, given, ended, State, state}
use Rattle.te_history.specs.Follows.{Stands}

pub record History : Type 0 where
  pub callers : ℕ
  pub entries : List Entry
  pub spare : ℕ

-- the state after its entries
abbrev pub now : History → State
now h = state h.callers h.entries

-- the history with one entry more, which takes one of the spare places
abbrev pub pushed : History → Entry → History
pushed h e = record { callers = h.callers; entries = h.entries ++ e ∷ []; spare = h.spare - 1 }

-- ---- how calls tell of the state

abbrev pub status_of : Standing → Status
status_of idle = statuses.Idle
status_of (parked ticket event) = statuses.Parked ticket
status_of (given ticket outcome) = statuses.Given ticket outcome
status_of ended = statuses.Ended

-- a caller stands so, but for its event
abbrev pub HasStatus : State → ℕ → Status → Type 0
HasStatus s t status = (standing : Standing) × Stands s t standing × (status ≡ status_of standing)

abbrev pub phase_by : Bool → Phase
phase_by true = phases.Stuck
phase_by false = phases.Running

abbrev pub phase_of : State → Phase
phase_of s = phase_by s.stuck
