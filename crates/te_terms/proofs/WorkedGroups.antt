-- Worked cases of groups: what reduces by which labels, and what can't commit.
use Rattle.std.proofs.Common.{ℕ, true, false, List, [], ◌∷◌, refl}
use Rattle.std.specs.Prelude.{ℤ, pos, ◌==◌}
use Rattle.std.specs.Option.{unwrap_or}
use Rattle.te_terms.specs.declared.value.Atom.TheVariants.{Int, Chan}
use Rattle.te_terms.specs.declared.expr.Arith.TheVariants.{Add}
use Rattle.te_terms.specs.declared.event.Outcome.TheVariants.{Gives, Raises}
use Rattle.te_terms.specs.declared.event.Parked.{Parked}
use Rattle.te_terms.specs.Values.{fresh_channel}
use Rattle.te_terms.specs.Expressions.{Expression, name, int, chan, part, one, both, whole, tuple}
use Rattle.te_terms.specs.Terms.{Term, always, never, fresh, throw, send, recv, and_then, choose}
use Rattle.te_terms.specs.Steps.{Member, come_to}
use Rattle.te_terms.specs.Joint.{choice, meeting, Action, quiet, labelled, after, as_group, Reduces, CanCommit}

abbrev number : ℤ → Expression
number z = tuple (one (int z) ∷ [])

abbrev one_more : ℕ → Expression
one_more n = tuple (both Add (part (name n) 0) (int (pos 1)) ∷ [])

abbrev parked : ℕ → Term → Parked
parked t e = record { thread = t; ticket = 0; event = e }

-- the group where these actions lead
abbrev end_of : List Action → List Member → List Member
end_of actions group = unwrap_or (after actions group) []

-- ---- three threads in a ring, on channels 0, 1 and 2

abbrev forwards : ℕ → ℕ → Term
forwards from to = and_then (recv (chan from)) 0 (and_then (send (chan to) (one_more 0)) 1 (always (whole (name 0))))

abbrev ring : List Parked
ring = parked 0 (and_then (send (chan 0) (number (pos 1))) 0 (recv (chan 2))) ∷ parked 1 (forwards 0 1) ∷ parked 2 (forwards 1 2) ∷ []

abbrev ring_actions : List Action
ring_actions =
    labelled (meeting 0 1) ∷ quiet 0 ∷ quiet 1 ∷ labelled (meeting 1 2) ∷ quiet 1 ∷ quiet 2 ∷ labelled (meeting 2 0) ∷ quiet 2 ∷ []

ring_reduces : Reduces (as_group ring) (meeting 0 1 ∷ meeting 1 2 ∷ meeting 2 0 ∷ []) (Gives (Int (pos 3) ∷ []) ∷ Gives (Int (pos 1) ∷ []) ∷ Gives (Int (pos 2) ∷ []) ∷ [])
ring_reduces = record { actions = ring_actions; end = end_of ring_actions (as_group ring); labels_are = refl; reaches = refl; ends_so = refl }

ring_can_commit : CanCommit ring
ring_can_commit = record {
  side = λ t. true;
  word = meeting 0 1 ∷ meeting 1 2 ∷ meeting 2 0 ∷ [];
  results = Gives (Int (pos 3) ∷ []) ∷ Gives (Int (pos 1) ∷ []) ∷ Gives (Int (pos 2) ∷ []) ∷ [];
  is_some = λ e. cc;
  reduces = ring_reduces;
}

-- ---- a member that raises commits with its group

abbrev pair : List Parked
pair = parked 0 (and_then (send (chan 0) (number (pos 1))) 0 (throw (number (pos 9)))) ∷ parked 1 (recv (chan 0)) ∷ []

pair_reduces : Reduces (as_group pair) (meeting 0 1 ∷ []) (Raises (Int (pos 9) ∷ []) ∷ Gives (Int (pos 1) ∷ []) ∷ [])
pair_reduces = record {
  actions = labelled (meeting 0 1) ∷ quiet 0 ∷ [];
  end = end_of (labelled (meeting 0 1) ∷ quiet 0 ∷ []) (as_group pair);
  labels_are = refl;
  reaches = refl;
  ends_so = refl;
}

pair_can_commit : CanCommit pair
pair_can_commit = record { side = λ t. true; word = meeting 0 1 ∷ []; results = Raises (Int (pos 9) ∷ []) ∷ Gives (Int (pos 1) ∷ []) ∷ []; is_some = λ e. cc; reduces = pair_reduces }

-- ---- a part commits without the others

one_of_two : CanCommit (parked 0 never ∷ parked 1 (always (number (pos 1))) ∷ [])
one_of_two = record {
  side = λ t. t == 1;
  word = [];
  results = Gives (Int (pos 1) ∷ []) ∷ [];
  is_some = λ e. cc;
  reduces = record { actions = []; end = come_to 1 0 0 (always (number (pos 1))) ∷ []; labels_are = refl; reaches = refl; ends_so = refl };
}

-- a choice is a label
right_of_two : Reduces (come_to 4 0 0 (choose never (always (number (pos 1)))) ∷ []) (choice 4 false ∷ []) (Gives (Int (pos 1) ∷ []) ∷ [])
right_of_two = record {
  actions = labelled (choice 4 false) ∷ [];
  end = come_to 4 0 0 (always (number (pos 1))) ∷ [];
  labels_are = refl;
  reaches = refl;
  ends_so = refl;
}

-- ---- a channel that is made and sent

abbrev makes_and_sends : Term
makes_and_sends = and_then fresh 0 (and_then (send (chan 0) (whole (name 0))) 1 (recv (part (name 0) 0)))

abbrev answers_on_it : Term
answers_on_it = and_then (recv (chan 0)) 0 (and_then (send (part (name 0) 0) (number (pos 5))) 1 (always (whole (name 0))))

abbrev private_actions : List Action
private_actions = quiet 0 ∷ quiet 0 ∷ labelled (meeting 0 1) ∷ quiet 0 ∷ quiet 1 ∷ labelled (meeting 1 0) ∷ quiet 1 ∷ []

abbrev private_pair : List Member
private_pair = as_group (parked 0 makes_and_sends ∷ parked 1 answers_on_it ∷ [])

private_reduces : Reduces private_pair (meeting 0 1 ∷ meeting 1 0 ∷ []) (Gives (Int (pos 5) ∷ []) ∷ Gives (Chan (fresh_channel 0 0 0) ∷ []) ∷ [])
private_reduces = record { actions = private_actions; end = end_of private_actions private_pair; labels_are = refl; reaches = refl; ends_so = refl }

-- a branch that isn't taken makes no channel
abbrev made_on_the_right : Term
made_on_the_right = choose (and_then fresh 0 never) (and_then fresh 0 (always (whole (name 0))))

right_makes_the_first : Reduces (come_to 0 0 0 made_on_the_right ∷ []) (choice 0 false ∷ []) (Gives (Chan (fresh_channel 0 0 0) ∷ []) ∷ [])
right_makes_the_first = record {
  actions = labelled (choice 0 false) ∷ quiet 0 ∷ quiet 0 ∷ [];
  end = end_of (labelled (choice 0 false) ∷ quiet 0 ∷ quiet 0 ∷ []) (come_to 0 0 0 made_on_the_right ∷ []);
  labels_are = refl;
  reaches = refl;
  ends_so = refl;
}
