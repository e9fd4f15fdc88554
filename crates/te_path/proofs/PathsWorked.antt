-- Worked paths: a message that is sent on, a raise that is caught after a meeting, a choice, and fresh channels, by computing.
use Rattle.std.proofs.Common.{◌≡◌, true, false, [], ◌∷◌, refl}
use Rattle.std.specs.Prelude.{pos, negsuc}
use Rattle.te_terms.specs.declared.value.Atom.TheVariants.{Int, Chan}
use Rattle.te_terms.specs.declared.expr.Arith.TheVariants.{Add}
use Rattle.te_terms.specs.Expressions.{Variable, Expression, name, known, int, chan, part, one, both, whole, tuple}
use Rattle.te_terms.specs.Terms.{Term, always, never, fresh, throw, send, recv, and_then, choose, catch}
use Rattle.te_terms.specs.Steps.{Member, come_to}
use Rattle.te_terms.specs.Joint.{after_choice}
use Rattle.te_terms.specs.Settling.{settled}
use Rattle.te_path.specs.declared.spot.Stop.TheVariants as stops
use Rattle.te_path.specs.Paths.{StandsAt, StepsTo, after_sending, after_receiving}

-- a member of thread 0 under ticket 0 that has made no channel
abbrev at_first : Term → Member
at_first t = come_to 0 0 0 t

abbrev one_more : Variable → Expression
one_more x = tuple (both Add (part x 0) (int (pos 1)) ∷ [])

-- ---- do { _0 <- recv 0; _1 <- send 1 (_0.0 + 1); always _0 }

abbrev forwards : Term
forwards = and_then (recv (chan 0)) 0 (and_then (send (chan 1) (one_more (name 0))) 1 (always (whole (name 0))))

-- after 1 was received
abbrev sends_on : Term
sends_on = and_then (send (chan 1) (one_more (known (Int (pos 1) ∷ [])))) 1 (always (whole (known (Int (pos 1) ∷ []))))

waits : StandsAt forwards (stops.Recv 0)
waits = refl

receives : StepsTo (at_first forwards) (after_receiving (Int (pos 1) ∷ []) forwards) (at_first sends_on)
unfolding settled
receives = record { next = _; steps = refl; settles = refl }

then_sends : StandsAt sends_on (stops.Send 1 (Int (pos 2) ∷ []))
then_sends = refl

ends : StepsTo (at_first sends_on) (after_sending sends_on) (at_first (always (whole (known (Int (pos 1) ∷ [])))))
unfolding settled
ends = record { next = _; steps = refl; settles = refl }

-- ---- try { do { _0 <- recv 0; throw (_0.0 + 1) } } catch _0 { always _0 }: what was received stays received

abbrev catches : Term
catches = catch (and_then (recv (chan 0)) 0 (throw (one_more (name 0)))) 0 (always (whole (name 0)))

is_caught : StepsTo (at_first catches) (after_receiving (Int (pos 4) ∷ []) catches) (at_first (always (whole (known (Int (pos 5) ∷ [])))))
unfolding settled
is_caught = record { next = _; steps = refl; settles = refl }

caught_is_done : StandsAt (always (whole (known (Int (pos 5) ∷ [])))) (stops.Done (Int (pos 5) ∷ []))
caught_is_done = refl

-- ---- choose { never | send 1 () }

abbrev forks : Term
forks = choose never (send (chan 1) (tuple []))

goes_left : StepsTo (at_first forks) (after_choice true forks) (at_first never)
unfolding settled
goes_left = record { next = never; steps = refl; settles = refl }

goes_right : StepsTo (at_first forks) (after_choice false forks) (at_first (send (chan 1) (tuple [])))
unfolding settled
goes_right = record { next = _; steps = refl; settles = refl }

left_is_dead : StandsAt never stops.Dead
left_is_dead = refl

-- ---- a trap at the head is thrown, and a choice has no quiet step

trap_is_thrown : settled (at_first (recv (int (pos 5)))) ≡ at_first (throw (whole (known (Int (negsuc 1) ∷ []))))
unfolding settled
trap_is_thrown = refl

choice_stays : settled (at_first forks) ≡ at_first forks
unfolding settled
choice_stays = refl

-- ---- do { _0 <- fresh; _1 <- fresh; always (_0.0, _1.0) }: two channels, and others under another ticket

abbrev makes_two : Term
makes_two = and_then fresh 0 (and_then fresh 1 (always (tuple (one (part (name 0) 0) ∷ one (part (name 1) 0) ∷ []))))

two_differ : settled (come_to 3 0 0 makes_two)
    ≡ come_to 3 0 2 (always (tuple (one (part (known (Chan 1086324736 ∷ [])) 0) ∷ one (part (known (Chan 1086324737 ∷ [])) 0) ∷ [])))
unfolding settled
two_differ = refl

other_ticket : settled (come_to 3 1 0 fresh) ≡ come_to 3 1 1 (always (whole (known (Chan 1086324752 ∷ []))))
unfolding settled
other_ticket = refl

-- ---- choose { do { _0 <- fresh; never } | do { _0 <- fresh; always _0 } }: the part that wasn't taken makes none

abbrev one_of_two : Term
one_of_two = choose (and_then fresh 0 never) (and_then fresh 0 (always (whole (name 0))))

right_makes_first : StepsTo (come_to 3 0 0 one_of_two) (after_choice false one_of_two) (come_to 3 0 1 (always (whole (known (Chan 1086324736 ∷ [])))))
unfolding settled
right_makes_first = record { next = _; steps = refl; settles = refl }
