-- What worked plays give, and two plays that fail.
use Rattle.std.proofs.Common.{◌≡◌, refl}
use Rattle.std.specs.Prelude.{List, [], ◌∷◌, Bool, true, false, Ok, Err}
use Rattle.te_terms.specs.declared.event.Outcome.TheVariants.{Gives}
use Rattle.te_terms.specs.Steps.{come_to}
use Rattle.te_terms.specs.Expressions.{chan}
use Rattle.te_terms.specs.Values.{fresh_channel}
use Rattle.te_terms.specs.declared.value.Atom.TheVariants.{Chan}
use Rattle.te_terms.specs.Terms.{Term, always, never, fresh, send, recv, and_then, choose}
use Rattle.te_terms.specs.Joint.{choice, meeting}
use Rattle.te_cert.specs.Play.{play, no_letter, no_meeting, letters_left}
use Rattle.te_cert.proofs.RowsTerms.{single, single_value, the_name, first_of}
use Rattle.te_cert.proofs.RowsRing as ring
use Rattle.te_cert.proofs.RowsRaises as raises
use Rattle.te_cert.proofs.RowsTrap as trap

-- no letters for two and for three members
abbrev two_silent : List (List Bool)
two_silent = [] ∷ [] ∷ []

abbrev three_silent : List (List Bool)
three_silent = [] ∷ [] ∷ [] ∷ []

pub ring_plays : play ring.group three_silent ring.meetings ≡ Ok (record { outcomes = ring.outcomes; word = ring.word })
ring_plays = refl

-- the raise ends its member, and the meeting stands
pub raise_plays : play raises.raising_group two_silent (record { sender = 0; receiver = 1 } ∷ []) ≡ Ok (record { outcomes = raises.raising_outcomes; word = meeting 0 1 ∷ [] })
raise_plays = refl

-- the catch takes the raised value, and the meeting before it stands
pub catch_plays : play raises.catching_group two_silent (record { sender = 1; receiver = 0 } ∷ []) ≡ Ok (record { outcomes = raises.catching_outcomes; word = meeting 1 0 ∷ [] })
catch_plays = refl

-- a trap is caught
pub trap_plays : play (come_to 0 0 0 trap.overflows ∷ []) ([] ∷ []) [] ≡ Ok (record { outcomes = Gives trap.caught ∷ []; word = [] })
trap_plays = refl

-- a letter that no choice takes
pub letter_over : play (come_to 0 0 0 (always (single 1)) ∷ []) ((true ∷ []) ∷ []) [] ≡ Err (letters_left 0)
letter_over = refl

-- no thread meets itself
pub meets_itself : play (come_to 0 0 0 (and_then (send (chan 0) (single 1)) 0 (recv (chan 0))) ∷ []) ([] ∷ []) (record { sender = 0; receiver = 0 } ∷ []) ≡ Err (no_meeting 0)
meets_itself = refl

-- ---- the order of a play

-- a letter that lacks after a meeting
pub letter_after_meeting : play (come_to 0 0 0 (and_then (send (chan 0) (single 1)) 0 (choose (always (single 2)) (always (single 3)))) ∷ come_to 1 0
    0 (recv (chan 0)) ∷ []) two_silent (record { sender = 0; receiver = 1 } ∷ [])
    ≡ Err (no_letter 0)
letter_after_meeting = refl

-- both lack one, and the sender advances before the receiver
pub sender_advances_first : play (come_to 0 0 0 (and_then (recv (chan 0)) 0 (choose never never)) ∷ come_to 1 0 0 (and_then (send (chan 0) (single 1))
    0 (choose never never)) ∷ []) two_silent (record { sender = 1; receiver = 0 } ∷ [])
    ≡ Err (no_letter 1)
sender_advances_first = refl

-- one send serves no second receiver
pub one_send_one_receiver : play (come_to 0 0 0 (send (chan 0) (single 1)) ∷ come_to 1 0 0 (recv (chan 0)) ∷ come_to 2 0 0 (recv (chan 0)) ∷ []) three_silent
    (record { sender = 0; receiver = 1 } ∷ record { sender = 0; receiver = 2 } ∷ []) ≡ Err (no_meeting 1)
one_send_one_receiver = refl

-- ---- fresh channels

abbrev makes_and_sends : Term
makes_and_sends = and_then fresh 0 (and_then (send (chan 0) (the_name 0)) 1 (recv (first_of 0)))

abbrev answers_on_it : Term
answers_on_it = and_then (recv (chan 0)) 0 (and_then (send (first_of 0) (single 5)) 1 (always (the_name 0)))

-- one makes a channel and sends it, the other answers on it
pub private_play : play (come_to 0 0 0 makes_and_sends ∷ come_to 1 0 0 answers_on_it ∷ []) two_silent (record { sender = 0; receiver = 1 } ∷ record { sender = 1; receiver = 0 } ∷ [])
    ≡ Ok (record { outcomes = Gives (single_value 5) ∷ Gives (Chan (fresh_channel 0 0 0) ∷ []) ∷ []; word = meeting 0 1 ∷ meeting 1 0 ∷ [] })
private_play = refl

-- the branch that isn't taken makes none
pub right_makes_the_first : play (come_to 0 0 0 (choose (and_then fresh 0 never) (and_then fresh 0 (always (the_name 0)))) ∷ []) ((false ∷ []) ∷ []) []
    ≡ Ok (record { outcomes = Gives (Chan (fresh_channel 0 0 0) ∷ []) ∷ []; word = choice 0 false ∷ [] })
right_makes_the_first = refl
