-- What a history keeps goes on after each entry.
use Rattle.std.proofs.Common.{◌≡◌, ◌≢◌, ℕ, zero, suc, ◌<◌, List, [], ◌∷◌, ◌++◌, length, Option, Some, None, slice_set, refl, sym, ◌∙◌, subst, arith, inl, inr}
use Rattle.std.specs.List.{slice_get}
use Rattle.std.proofs.Math.ListN.{length-set}
use Rattle.std.proofs.lemmas.Bool.Decides.{eqb_tells}
use Rattle.te_terms.specs.declared.event.Outcome.{Outcome}
use Rattle.te_cert.specs.declared.cert.Member.{Member}
use Rattle.te_cert.proofs.Places.{get_set_same, get_set_other}
use Rattle.te_history.specs.declared.entry.Entry.{Entry}
use Rattle.te_history.specs.declared.entry.Entry.TheVariants.{Post, Commit, Withdraw, Take, Rest, Stuck, End}
use Rattle.te_history.specs.declared.status.Status.{Status}
use Rattle.te_history.specs.declared.status.Status.TheVariants as statuses
use Rattle.te_history.specs.declared.seat.Seat.{Seat}
use Rattle.te_history.specs.State.{Standing, idle, parked, given, ended}
use Rattle.te_history.specs.Kept.{Shows, SeatShows, seat_changed, to_status, to_post, with_status, seats_given, seats_after}
use Rattle.te_terms.proofs.Lists.{get_some, get-longer, get-last}

-- ---- seats

pub length-changed : (t : ℕ) (f : Seat → Seat) (o : Option Seat) (seats : List Seat) → length (seat_changed t f o seats) ≡ length seats
length-changed t f None seats = refl
length-changed t f (Some seat) seats = length-set seats t (f seat)

length-given : (ms : List Member) (os : List Outcome) (seats : List Seat) → length (seats_given ms os seats) ≡ length seats
length-given [] os seats = refl
length-given (m ∷ ms) [] seats = refl
length-given (m ∷ ms) (o ∷ os) seats =
    length-given ms os (with_status m.thread (statuses.Given m.ticket o) seats) ∙ length-changed m.thread (to_status (statuses.Given m.ticket o))
    (slice_get seats m.thread) seats

pub length-seats_after : (place : ℕ) (seats : List Seat) (e : Entry) → length (seats_after place seats e) ≡ length seats
length-seats_after place seats (Post by ticket event) = length-changed by (to_post ticket place) (slice_get seats by) seats
length-seats_after place seats (Commit by cert outcomes) = length-given cert.members outcomes seats
length-seats_after place seats (Withdraw by ticket) = length-changed by (to_status statuses.Idle) (slice_get seats by) seats
length-seats_after place seats (Take by ticket outcome) = length-changed by (to_status statuses.Idle) (slice_get seats by) seats
length-seats_after place seats (Rest by) = refl
length-seats_after place seats (Stuck by) = refl
length-seats_after place seats (End by how) = length-changed by (to_status statuses.Ended) (slice_get seats by) seats

-- ---- what seats show goes on in a longer history

shows-longer : (history rest : List Entry) (place : ℕ) (status : Status) (standing : Standing) → Shows history place status standing
    → Shows (history ++ rest) place status standing
shows-longer history rest place statuses.Idle idle shows = tt
shows-longer history rest place (statuses.Parked ticket) (parked under event) shows =
    (shows.0, (shows.1.0, shows.1.1, get-longer history rest place _ shows.1.2))
shows-longer history rest place (statuses.Given ticket outcome) (given under gets) shows = shows
shows-longer history rest place statuses.Ended ended shows = tt
shows-longer history rest place statuses.Idle (parked _ _) shows = absurd shows
shows-longer history rest place statuses.Idle (given _ _) shows = absurd shows
shows-longer history rest place statuses.Idle ended shows = absurd shows
shows-longer history rest place (statuses.Parked _) idle shows = absurd shows
shows-longer history rest place (statuses.Parked _) (given _ _) shows = absurd shows
shows-longer history rest place (statuses.Parked _) ended shows = absurd shows
shows-longer history rest place (statuses.Given _ _) idle shows = absurd shows
shows-longer history rest place (statuses.Given _ _) (parked _ _) shows = absurd shows
shows-longer history rest place (statuses.Given _ _) ended shows = absurd shows
shows-longer history rest place statuses.Ended idle shows = absurd shows
shows-longer history rest place statuses.Ended (parked _ _) shows = absurd shows
shows-longer history rest place statuses.Ended (given _ _) shows = absurd shows

pub seat_shows-longer : (history rest : List Entry) (posts : ℕ) (o : Option Seat) (standing : Option Standing) → SeatShows history posts o standing
    → SeatShows (history ++ rest) posts o standing
seat_shows-longer history rest posts (Some seat) (Some standing) shows = (shows.0, shows-longer history rest seat.place seat.status standing shows.1)
seat_shows-longer history rest posts None None shows = tt
seat_shows-longer history rest posts (Some seat) None shows = absurd shows
seat_shows-longer history rest posts None (Some standing) shows = absurd shows

-- ---- one seat and one standing changed

pub shows_along : (history : List Entry) {p q : ℕ} {a b : Option Seat} {c d : Option Standing} → p ≡ q → a ≡ b → c ≡ d → SeatShows history p a c
    → SeatShows history q b d
shows_along history {p} {q} {a} {b} {c} {d} posts seat standing shows =
    subst (λ (n : ℕ). SeatShows history n b d) posts
    (subst (λ (o : Option Seat). SeatShows history p o d) seat (subst (λ (o : Option Standing). SeatShows history p a o) standing shows))

posts_shown : (history : List Entry) (posts : ℕ) (seat : Seat) (o : Option Standing) → SeatShows history posts (Some seat) o → seat.posts ≡ posts
posts_shown history posts seat (Some standing) shows = shows.0
posts_shown history posts seat None shows = absurd shows

-- all seats show the standings, after so many posts each
abbrev pub AllShow : List Entry → (ℕ → ℕ) → List Seat → List Standing → Type 0
AllShow history posts seats standings = (t : ℕ) → SeatShows history (posts t) (slice_get seats t) (slice_get standings t)

pub posts_of_seat : (history : List Entry) (posts : ℕ → ℕ) (seats : List Seat) (standings : List Standing) (t : ℕ) (seat : Seat)
    → AllShow history posts seats standings → slice_get seats t ≡ Some seat → seat.posts ≡ posts t
posts_of_seat history posts seats standings t seat all is =
    posts_shown history (posts t) seat (slice_get standings t) (subst (λ (o : Option Seat). SeatShows history (posts t) o (slice_get standings t)) is (all t))

pub all_changed : (history : List Entry) (posts posts' : ℕ → ℕ) (seats : List Seat) (standings : List Standing) (by : ℕ) (f : Seat → Seat) (seat : Seat) (old new : Standing)
    → AllShow history posts seats standings → slice_get seats by ≡ Some seat → slice_get standings by ≡ Some old
    → (f seat).posts ≡ posts' by → Shows history (f seat).place (f seat).status new → ((t : ℕ) → t ≢ by → posts t ≡ posts' t)
    → AllShow history posts' (seat_changed by f (slice_get seats by) seats) (slice_set standings by new)
all_changed history posts posts' seats standings by f seat old new all is stands posts_are here others t =
    subst (λ (o : Option Seat). SeatShows history (posts' t) (slice_get (seat_changed by f o seats) t) (slice_get (slice_set standings by new) t)) (sym is)
    (elim (eqb_tells t by) [
      | inl same ↦
          subst (λ (k : ℕ). SeatShows history (posts' k) (slice_get (slice_set seats by (f seat)) k) (slice_get (slice_set standings by new) k)) (sym same.1)
          (shows_along history {a = Some (f seat)} {c = Some new} refl (sym (get_set_same seats by seat (f seat) is))
          (sym (get_set_same standings by old new stands)) (posts_are, here))
      | inr other ↦
          shows_along history (others t other.1)
          (sym (get_set_other seats by t (f seat) (λ e. other.1 (sym e)))) (sym (get_set_other standings by t new (λ e. other.1 (sym e)))) (all t)
    ])

-- a caller takes another status, and stands so
pub all_restand : (history : List Entry) (posts : ℕ → ℕ) (seats : List Seat) (standings : List Standing) (by : ℕ) (status : Status) (old new : Standing)
    → AllShow history posts seats standings → slice_get standings by ≡ Some old → by < length seats → ((place : ℕ) → Shows history place status new)
    → AllShow history posts (with_status by status seats) (slice_set standings by new)
all_restand history posts seats standings by status old new all stands within here =
    let at = get_some seats by within in
    all_changed history posts posts seats standings by (to_status status) at.0 old new all at.1 stands
    (posts_of_seat history posts seats standings by at.0 all at.1) (here at.0.place) (λ k other. refl)
