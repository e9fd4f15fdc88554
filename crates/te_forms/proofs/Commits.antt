-- The promises of a commit whose ring is private.
use Rattle.std.proofs.Common.{◌≡◌, ℕ, Bool, List, length, map, take, Some, ◌∙◌}
use Rattle.std.specs.Prelude.{slice_get, filter_map}
use Rattle.te_terms.specs.declared.event.Outcome.{Outcome}
use Rattle.te_cert.specs.declared.cert.Member.{Member}
use Rattle.te_cert.specs.declared.cert.Meeting.{Meeting}
use Rattle.te_cert.specs.declared.cert.Cert.{Cert}
use Rattle.te_history.specs.declared.entry.Entry.{Entry}
use Rattle.te_history.specs.declared.entry.Entry.TheVariants.{Commit}
use Rattle.te_history.specs.State.{State, state}
use Rattle.te_history.specs.Follows.{Commits, IsLoose}
use Rattle.te_forms.specs.declared.pair.Handed.{Handed}
use Rattle.te_forms.specs.Rings.{IsRing}
use Rattle.te_forms.specs.Privacy.{IsPrivate}
use Rattle.te_forms.specs.Handing.{FormMember, AreHanded, EachOnce, NobodyElse, GoRound, AreGiven, AreEven}
use Rattle.te_forms.specs.Reading.{marks_of, pair_in}
use Rattle.te_forms.proofs.Places.{parts_of}
use Rattle.te_forms.proofs.Posts.{commits_so}
use Rattle.te_forms.proofs.Stages.{begun}
use Rattle.te_forms.proofs.Seats.{Seat, acting, AllFit, first_seats, all_seated, AllDone, all_done}
use Rattle.te_forms.proofs.Moves.{Moves, meetings_lead}
use Rattle.te_forms.proofs.Turns.{kinds}
use Rattle.te_forms.proofs.Counting.{Fates, all_fates, sends_once, receives_once}
use Rattle.te_forms.proofs.Casting.{all_fit, some_seat, by_member, by_seat, member_seat, mark_at}
use Rattle.te_forms.proofs.Pairs.{Cast, handed_so, gives_count, takes_count, nobody_else, go_round, are_given}
use Rattle.te_forms.proofs.Numbers.{evens}

-- what a commit's play does to the seats of its members
record Acted (ring : List ℕ) (s : State) (cert : Cert) (outcomes : List Outcome) (marks : List Bool) : Type 0 where
  pub seats : List Seat
  pub last : List Seat
  pub moves : Moves (length ring) cert.meets seats last
  pub done_all : AllDone last outcomes
  pub cast : Cast ring s cert.members marks seats
  pub own_seat : (p : FormMember ring s cert.members) → slice_get seats p.place ≡ Some (acting p.form begun)
  pub even : AreEven ring s cert.members

-- what is promised of the pairs of a commit
pub record Promised (ring : List ℕ) (s : State) (members : List Member) (meets : List Meeting) (outcomes : List Outcome) (hs : List Handed) : Type 0 where
  pub meetings : AreHanded ring s members meets hs
  pub once : EachOnce ring s members hs
  pub nobody_else : NobodyElse ring s members hs
  pub round : GoRound ring s members hs
  pub given : AreGiven ring s members outcomes hs
  pub even : AreEven ring s members

module _ (ring : List ℕ) (is_ring : IsRing ring) (callers : ℕ) (history : List Entry) (n by : ℕ) (cert : Cert) (outcomes : List Outcome) (loose : IsLoose callers history)
    (private_so : IsPrivate ring history) (at : slice_get history n ≡ Some (Commit by cert outcomes)) where
  abbrev s : State
  s = state callers (take n history)

  abbrev marks : List Bool
  marks = marks_of ring (take n history) cert.members

  acted : Acted ring s cert outcomes marks
  acted =
      let commits : Commits s cert outcomes = commits_so callers history n by cert outcomes loose at in
      let fit : AllFit ring commits.group = all_fit ring callers history n private_so cert.members commits.group commits.events in
      let letters : List (List Bool) = map (λ (x : Member). x.choices) cert.members in
      let parts = parts_of commits.group letters cert.meets (record { outcomes = outcomes; word = commits.word }) commits.plays in
      let seats : List Seat = first_seats ring commits.group fit in
      let seated = all_seated ring is_ring 0 commits.group letters parts.start fit parts.starts in
      let led = meetings_lead ring is_ring 0 cert.meets seats parts.start parts.last seated parts.meet in
      let done_all = all_done ring 0 led.last parts.last.players outcomes led.all parts.end in
      let member_at = λ (i : ℕ) (m : Member) (there : slice_get cert.members i ≡ Some m). by_member ring s cert.members commits.group fit i m commits.events there in
      let seat_at = λ (i : ℕ) (k : Seat) (there : slice_get seats i ≡ Some k). by_seat ring s cert.members commits.group fit i k commits.events there in
      let own = λ (p : FormMember ring s cert.members). member_seat ring is_ring s cert.members seats p (member_at p.place p.member p.is_there) in
      record {
        seats = seats;
        last = led.last;
        moves = led.moves;
        done_all = done_all;
        cast = record {
          is_ring = is_ring;
          rise = commits.rise;
          by_member = member_at;
          by_seat = seat_at;
          mark_at = λ i o there. let seat = some_seat seats i o there in mark_at ring is_ring callers (take n history) cert.members seats i (seat_at i seat.0 seat.1) o there;
        };
        own_seat = own;
        even = evens ring is_ring commits.group fit cert.meets led.last outcomes led.moves done_all s cert.members commits.events own;
      }

  pub promised : Promised ring s cert.members cert.meets outcomes (filter_map (pair_in cert.members marks) cert.meets)
  promised =
      let a = acted in
      let fates : Fates (length ring) (kinds a.seats) outcomes cert.meets = all_fates (length ring) cert.meets a.seats a.last outcomes a.moves a.done_all in
      record {
        meetings = handed_so ring s cert.members marks a.seats a.cast outcomes cert.meets fates;
        once = λ p. (
          gives_count ring s cert.members marks a.seats a.cast outcomes cert.meets p fates
              ∙ sends_once (length ring) p.place p.form cert.meets a.seats a.last outcomes begun a.moves a.done_all (a.own_seat p),
          takes_count ring s cert.members marks a.seats a.cast outcomes cert.meets p fates
              ∙ receives_once (length ring) p.place p.form cert.meets a.seats a.last outcomes begun a.moves a.done_all (a.own_seat p),
        );
        nobody_else = nobody_else ring s cert.members marks a.seats a.cast outcomes cert.meets fates;
        round = go_round ring s cert.members marks a.seats a.cast outcomes cert.meets fates;
        given = are_given ring s cert.members marks a.seats a.cast outcomes cert.meets fates;
        even = a.even;
      }
