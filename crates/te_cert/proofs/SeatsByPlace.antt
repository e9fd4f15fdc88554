-- Seats by place: who sits there, another seat put there, and cells put behind the others.
use Rattle.std.proofs.Common.{◌≡◌, ℕ, zero, suc, ◌<◌, true, false, List, [], ◌∷◌, ◌++◌, length, take, drop, get_or, Some, refl, sym, ap, ◌∙◌, arith}
use Rattle.std.specs.Prelude.{slice_get, slice_set}
use Rattle.std.proofs.Math.Seq.{take-append_seam}
use Rattle.std.proofs.lemmas.Option.{slice_get-get_or}
use Rattle.te_terms.specs.declared.value.Atom.{Atom}
use Rattle.te_path.specs.declared.cells.Cells.{Cells}
use Rattle.te_path.specs.declared.spot.Stop.{Stop}
use Rattle.te_path.specs.Growth.{Grows}
use Rattle.te_path.specs.Paths.{StandsAt}
use Rattle.te_path.proofs.Growing.{spelled_grown, spot_grown}
use Rattle.te_cert.specs.declared.cert.Member.{Member}
use Rattle.te_cert.specs.declared.lent.Lent.{Lent}
use Rattle.te_cert.specs.declared.seat.Seat.{Seat}
use Rattle.te_cert.specs.Play.{Player}
use Rattle.te_cert.specs.Players.{Entering, entering, all_entering, IsSeat, AreSeated, seats_of, seat_of, Comes, player_handed, PlayerGoesOn, Lacks}
use Rattle.te_cert.proofs.Advancing.{advanced_is}
use Rattle.te_terms.proofs.Lists.{get_some, found_here}

-- ---- who enters

pub as_many_enter : (ms : List Member) (ls : List Lent) → length ms ≡ length ls → length (all_entering ms ls) ≡ length ms
as_many_enter [] ls many = refl
as_many_enter (m ∷ ms) [] many = absurd (omega (arith, many))
as_many_enter (m ∷ ms) (l ∷ ls) many = ap suc (as_many_enter ms ls (omega (arith, many)))

pub enters_there : (ms : List Member) (ls : List Lent) (i : ℕ) (m : Member) (l : Lent) → slice_get ms i ≡ Some m → slice_get ls i ≡ Some l → slice_get (all_entering ms ls) i ≡ Some (entering m l)
enters_there [] ls i m l p q = absurd cc
enters_there (n ∷ ms) [] i m l p q = absurd cc
enters_there (n ∷ ms) (k ∷ ls) zero m l p q =
    let a : n ≡ m = cc in
    let b : k ≡ l = cc in
    rw (a, b) refl
enters_there (n ∷ ms) (k ∷ ls) (suc i) m l p q = enters_there ms ls i m l p q

-- ---- by place

pub as_many_seats : (cells : Cells) (es : List Entering) (ks : List Seat) → AreSeated cells es ks → length es ≡ length ks
as_many_seats cells [] [] seated = refl
as_many_seats cells (e ∷ es) (k ∷ ks) seated = ap suc (as_many_seats cells es ks seated.1)
as_many_seats cells [] (k ∷ ks) seated = absurd seated
as_many_seats cells (e ∷ es) [] seated = absurd seated

pub is_seat : (cells : Cells) (es : List Entering) (ks : List Seat) (i : ℕ) (e : Entering) (k : Seat) → AreSeated cells es ks → slice_get es i ≡ Some e → slice_get ks i ≡ Some k → IsSeat cells e k
is_seat cells [] ks i e k seated p q = absurd cc
is_seat cells (d ∷ es) [] i e k seated p q = absurd seated
is_seat cells (d ∷ es) (l ∷ ks) zero e k seated p q =
    let a : d ≡ e = cc in
    let b : l ≡ k = cc in
    rw (← a, ← b) seated.0
is_seat cells (d ∷ es) (l ∷ ks) (suc i) e k seated p q = is_seat cells es ks i e k seated.1 p q

pub seat_there : (cells : Cells) (es : List Entering) (ks : List Seat) (i : ℕ) (e : Entering) (k : Seat) → slice_get es i ≡ Some e
    → slice_get ks i ≡ Some k → slice_get (seats_of cells es ks) i ≡ Some (seat_of cells e k)
seat_there cells [] ks i e k p q = absurd cc
seat_there cells (d ∷ es) [] i e k p q = absurd cc
seat_there cells (d ∷ es) (l ∷ ks) zero e k p q =
    let a : d ≡ e = cc in
    let b : l ≡ k = cc in
    rw (a, b) refl
seat_there cells (d ∷ es) (l ∷ ks) (suc i) e k p q = seat_there cells es ks i e k p q

pub still_seated : (cells : Cells) (es : List Entering) (ks : List Seat) (i : ℕ) (e : Entering) (k : Seat) → AreSeated cells es ks
    → slice_get es i ≡ Some e → IsSeat cells e k → AreSeated cells es (slice_set ks i k)
still_seated cells [] ks i e k seated p seat = absurd cc
still_seated cells (d ∷ es) [] i e k seated p seat = absurd seated
still_seated cells (d ∷ es) (l ∷ ks) zero e k seated p seat = let a : d ≡ e = cc in (rw a seat, seated.1)
still_seated cells (d ∷ es) (l ∷ ks) (suc i) e k seated p seat = (seated.0, still_seated cells es ks i e k seated.1 p seat)

pub seat_set : (cells : Cells) (es : List Entering) (ks : List Seat) (i : ℕ) (e : Entering) (k : Seat) → slice_get es i ≡ Some e
    → seats_of cells es (slice_set ks i k) ≡ slice_set (seats_of cells es ks) i (seat_of cells e k)
seat_set cells [] ks i e k p = absurd cc
seat_set cells (d ∷ es) [] i e k p = refl
seat_set cells (d ∷ es) (l ∷ ks) zero e k p = let a : d ≡ e = cc in rw a refl
seat_set cells (d ∷ es) (l ∷ ks) (suc i) e k p = ap (λ xs. seat_of cells d l ∷ xs) (seat_set cells es ks i e k p)

-- what was written through a slice of all seats is what is then read of them
pub read_again : (old new read : List Seat) (len : ℕ) → length old ≡ len → length old ≡ length new → read ≡ take len (new ++ drop (length new) old) → read ≡ new
read_again old new read len many same is = is ∙ ap (λ n. take n (new ++ drop (length new) old)) (sym many ∙ same) ∙ take-append_seam new (drop (length new) old)

-- a member of the certificate has a seat
pub has_seat : (cells : Cells) (ms : List Member) (ls : List Lent) (ks : List Seat) (i : ℕ) → length ms ≡ length ls → AreSeated cells (all_entering ms ls) ks → i < length ms → i < length ks
has_seat cells ms ls ks i many seated within = omega (arith, within, as_many_enter ms ls many, as_many_seats cells (all_entering ms ls) ks seated)

pub seat_read : (cells : Cells) (ms : List Member) (ls : List Lent) (ks : List Seat) (i : ℕ) (k : Seat) → length ms ≡ length ls
    → AreSeated cells (all_entering ms ls) ks → i < length ms → k ≡ get_or ks i k → slice_get ks i ≡ Some k
seat_read cells ms ls ks i k many seated within is = found_here ks i k (has_seat cells ms ls ks i many seated within) is

-- ---- cells put behind the others

pub seat_stays : (old new : Cells) (e : Entering) (k : Seat) → Grows old new → IsSeat old e k → IsSeat new e k
seat_stays old new e k grows seat = record { spot = spot_grown e.origin old new k.spot grows seat.spot; within = seat.within }

pub seated_stay : (old new : Cells) (es : List Entering) (ks : List Seat) → Grows old new → AreSeated old es ks → AreSeated new es ks
seated_stay old new [] [] grows seated = tt
seated_stay old new (e ∷ es) (k ∷ ks) grows seated = (seat_stays old new e k grows seated.0, seated_stay old new es ks grows seated.1)
seated_stay old new [] (k ∷ ks) grows seated = absurd seated
seated_stay old new (e ∷ es) [] grows seated = absurd seated

seats_stay_by : (old new : Cells) (e : Entering) (k : Seat) → Grows old new → IsSeat old e k → seat_of new e k ≡ seat_of old e k
seats_stay_by old new e k grows seat = ap (λ m. record { member = m; letters = drop k.used e.letters }) (spelled_grown e.origin old new k.spot grows seat.spot)

pub seats_stay : (old new : Cells) (es : List Entering) (ks : List Seat) → Grows old new → AreSeated old es ks → seats_of new es ks ≡ seats_of old es ks
seats_stay old new [] [] grows seated = refl
seats_stay old new (e ∷ es) (k ∷ ks) grows seated = rw (seats_stay_by old new e k grows seated.0, seats_stay old new es ks grows seated.1) refl
seats_stay old new [] (k ∷ ks) grows seated = absurd seated
seats_stay old new (e ∷ es) [] grows seated = absurd seated

-- the player at a place, who stands so
pub record Standing (ps : List Player) (i : ℕ) (stop : Stop) : Type 0 where
  pub player : Player
  pub is_there : slice_get ps i ≡ Some player
  pub stands : StandsAt player.member.term stop

pub standing : (cells : Cells) (ms : List Member) (ls : List Lent) (ks : List Seat) (i : ℕ) (k : Seat) → length ms ≡ length ls
    → AreSeated cells (all_entering ms ls) ks → i < length ms → k ≡ get_or ks i k →
    Standing (seats_of cells (all_entering ms ls) ks) i k.spot.stop
standing cells ms ls ks i k many seated within is =
    let here = seat_read cells ms ls ks i k many seated within is in
    let enters = get_some (all_entering ms ls) i (omega (arith, within, as_many_enter ms ls many)) in
    record {
      player = seat_of cells enters.0 k;
      is_there = seat_there cells (all_entering ms ls) ks i enters.0 k enters.1 here;
      stands = (is_seat cells (all_entering ms ls) ks i enters.0 k seated enters.1 here).spot.stands;
    }

-- ---- one member goes on from an end of a meeting

module _ (old new : Cells) (es : List Entering) (ks : List Seat) (i : ℕ) (e : Entering) (k : Seat) (v : List Atom) (seated : AreSeated old es ks)
    (e_is : slice_get es i ≡ Some e) (k_is : slice_get ks i ≡ Some k) where
  pub went_on : (end : Seat) → Grows old new → Comes (player_handed v (seat_of old e k)) true (seat_of new e end) → PlayerGoesOn i v (seats_of old es ks) (seats_of new es (slice_set ks i end))
  went_on end grows comes =
      let there = comes i in
      record {
        player = seat_of old e k;
        is_there = seat_there old es ks i e k e_is k_is;
        end = seat_of new e end;
        word = there.0;
        advances = advanced_is i (player_handed v (seat_of old e k)) ∙ there.1;
        then_so = seat_set new es ks i e end e_is ∙ ap (λ ps. slice_set ps i (seat_of new e end)) (seats_stay old new es ks grows seated);
      }

  pub lacked : (q : Player) → Comes (player_handed v (seat_of old e k)) false q → Lacks i v (seats_of old es ks)
  lacked q comes = record {
    player = seat_of old e k;
    is_there = seat_there old es ks i e k e_is k_is;
    lacks = advanced_is i (player_handed v (seat_of old e k)) ∙ comes i;
  }
