-- What a history keeps beside its entries. No public clause cites this module.
use Rattle.std.specs.Prelude.{◌≡◌, ℕ, ◌+◌, ◌^◌, ◌≤◌, Bool, true, List, [], ◌∷◌, length, Option, Some, None, slice_get, slice_set}
use Rattle.te_terms.specs.declared.event.Outcome.{Outcome}
use Rattle.te_terms.specs.Limits.{most_threads}
use Rattle.te_terms.specs.Terms.{Term}
use Rattle.te_cert.specs.declared.cert.Member.{Member}
use Rattle.te_history.specs.declared.entry.Entry.{Entry}
use Rattle.te_history.specs.declared.entry.Entry.TheVariants as entries
use Rattle.te_history.specs.declared.status.Status.{Status}
use Rattle.te_history.specs.declared.status.Status.TheVariants as statuses
use Rattle.te_history.specs.declared.status.Phase.{Phase}
use Rattle.te_history.specs.declared.status.Phase.TheVariants as phases
use Rattle.te_history.specs.declared.seat.Seat.{Seat}
use Rattle.te_history.specs.State.{Standing, idle, parked, given, ended, state, posts_by}
use Rattle.te_history.specs.Follows.{IsLoose}
use Rattle.te_history.specs.Histories.{phase_of}

-- ---- what seats show

-- the entry at the place posts the event
abbrev pub IsPosted : List Entry → ℕ → Term → Type 0
IsPosted history place event = (by ticket : ℕ) × (slice_get history place ≡ Some (entries.Post by ticket event))

-- a status shows where a caller stands: the same ticket, and the place of its event or the outcome itself
abbrev pub Shows : List Entry → ℕ → Status → Standing → Type 0
Shows history place statuses.Idle idle = Unit {0}
Shows history place (statuses.Parked ticket) (parked under event) = (ticket ≡ under) × IsPosted history place event
Shows history place (statuses.Given ticket outcome) (given under gets) = (ticket ≡ under) × (outcome ≡ gets)
Shows history place statuses.Ended ended = Unit {0}
Shows _ _ _ _ = ⊥

-- a seat shows where its caller stands, and how often it has posted
abbrev pub SeatShows : List Entry → ℕ → Option Seat → Option Standing → Type 0
SeatShows history posts (Some seat) (Some standing) = (seat.posts ≡ posts) × Shows history seat.place seat.status standing
SeatShows history posts None None = Unit {0}
SeatShows history posts _ _ = ⊥

-- the entries are loose, and seats, phase and rest are those of the state after them
pub record StateIsKept (history : List Entry) (seats : List Seat) (phase : Phase) (resting : Bool) : Type 0 where
  pub some_caller : 1 ≤ length seats
  pub few_callers : length seats ≤ most_threads
  pub few_entries : length history ≤ 2 ^ 31
  pub loose : IsLoose (length seats) history
  pub shows : (t : ℕ) → SeatShows history (posts_by t history) (slice_get seats t) (slice_get (state (length seats) history).callers t)
  pub phase_is : phase ≡ phase_of (state (length seats) history)
  pub resting_is : resting ≡ (state (length seats) history).resting

-- ---- what an entry changes

abbrev pub seat_changed : ℕ → (Seat → Seat) → Option Seat → List Seat → List Seat
seat_changed t f (Some seat) seats = slice_set seats t (f seat)
seat_changed t f None seats = seats

abbrev pub to_status : Status → Seat → Seat
to_status status seat = record seat { status = status }

abbrev pub to_post : ℕ → ℕ → Seat → Seat
to_post ticket place seat = record { posts = seat.posts + 1; place = place; status = statuses.Parked ticket }

-- a caller takes another status
abbrev pub with_status : ℕ → Status → List Seat → List Seat
with_status t status seats = seat_changed t (to_status status) (slice_get seats t) seats

-- a caller has posted, by the entry at the place
abbrev pub with_post : ℕ → ℕ → ℕ → List Seat → List Seat
with_post t ticket place seats = seat_changed t (to_post ticket place) (slice_get seats t) seats

-- each member is given its outcome
abbrev pub seats_given : List Member → List Outcome → List Seat → List Seat
seats_given [] os seats = seats
seats_given (m ∷ ms) [] seats = seats
seats_given (m ∷ ms) (o ∷ os) seats = seats_given ms os (with_status m.thread (statuses.Given m.ticket o) seats)

-- the seats after an entry at the place
abbrev pub seats_after : ℕ → List Seat → Entry → List Seat
seats_after place seats (entries.Post by ticket event) = with_post by ticket place seats
seats_after place seats (entries.Commit by cert outcomes) = seats_given cert.members outcomes seats
seats_after place seats (entries.Withdraw by ticket) = with_status by statuses.Idle seats
seats_after place seats (entries.Take by ticket outcome) = with_status by statuses.Idle seats
seats_after place seats (entries.Rest by) = seats
seats_after place seats (entries.Stuck by) = seats
seats_after place seats (entries.End by how) = with_status by statuses.Ended seats

abbrev pub phase_after : Phase → Entry → Phase
phase_after phase (entries.Stuck by) = phases.Stuck
phase_after phase _ = phase

abbrev pub resting_after : Bool → Entry → Bool
resting_after resting (entries.Rest by) = true
resting_after resting _ = resting
