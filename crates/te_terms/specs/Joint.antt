-- Joint steps of a group, and what reduces.
-- Choice and communication after Donnelly and Fluet, Transactional Events, JFP 18(5-6), 2008.
use Rattle.std.specs.Prelude.{◌≡◌, ◌≢◌, ℕ, ◌<◌, Bool, true, false, cond, ◌==◌, List, [], ◌∷◌, map, Option, Some, None, Result, Ok, Err, if◌then◌else◌}
use Rattle.std.specs.Option.{option_map, option_and_then}
use Rattle.te_terms.specs.declared.value.Atom.{Atom}
use Rattle.te_terms.specs.declared.value.Trap.{Trap}
use Rattle.te_terms.specs.declared.event.Outcome.{Outcome}
use Rattle.te_terms.specs.declared.event.Parked.{Parked}
use Rattle.te_terms.specs.Expressions.{value_of, channel_value}
use Rattle.te_terms.specs.Terms.{Term, send, recv, choose}
use Rattle.te_terms.specs.Steps.{Member, come_to, at_term, giving, quiet_step, outcome_of, head, with_head}

-- a choice of a thread, true for the left; or a meeting of a sending and a receiving thread
pub data Label : Type 0 where
  choice : ℕ → Bool → Label
  meeting : ℕ → ℕ → Label

-- a quiet step of a thread has no label
pub data Action : Type 0 where
  quiet : ℕ → Action
  labelled : Label → Action

-- ---- what a term can do at its head

abbrev pub chosen_from : Bool → Term → Option Term
chosen_from true (choose e f) = Some e
chosen_from false (choose e f) = Some f
chosen_from left _ = None

-- the term after the choice
abbrev pub after_choice : Bool → Term → Option Term
after_choice left t = option_map (λ u. with_head u t) (chosen_from left (head t))

pub record Message : Type 0 where
  pub channel : ℕ
  pub value : List Atom

abbrev pub message : Result ℕ Trap → Result (List Atom) Trap → Option Message
message (Ok c) (Ok v) = Some (record { channel = c; value = v })
message _ _ = None

abbrev pub sent_from : Term → Option Message
sent_from (send p e) = message (channel_value p) (value_of e)
sent_from _ = None

abbrev pub channel_at : Result ℕ Trap → Option ℕ
channel_at (Ok c) = Some c
channel_at (Err t) = None

abbrev pub received_on : Term → Option ℕ
received_on (recv p) = channel_at (channel_value p)
received_on _ = None

-- what stands to be sent, and the channel on which is waited
abbrev pub sending : Term → Option Message
sending t = sent_from (head t)

abbrev pub receiving : Term → Option ℕ
receiving t = received_on (head t)

-- ---- groups

-- threads rise strictly
abbrev pub RiseFrom : ℕ → List Member → Type 0
RiseFrom low [] = Unit {0}
RiseFrom low (m ∷ ms) = (low < m.thread) × RiseFrom m.thread ms

abbrev pub IsGroup : List Member → Type 0
IsGroup [] = Unit {0}
IsGroup (m ∷ ms) = RiseFrom m.thread ms

-- the member of a thread
abbrev pub member_of : ℕ → List Member → Option Member
member_of t [] = None
member_of t (m ∷ ms) = if m.thread == t then Some m else member_of t ms

-- the group with another member in its thread's place
abbrev pub with_member : Member → List Member → List Member
with_member new [] = []
with_member new (m ∷ ms) = if m.thread == new.thread then new ∷ ms else m ∷ with_member new ms

abbrev pub with_term : List Member → Member → Term → List Member
with_term g m t = with_member (at_term m t) g

-- ---- joint steps

abbrev pub quiet_joint : ℕ → List Member → Option (List Member)
quiet_joint t g = option_map (λ m. with_member m g) (option_and_then quiet_step (member_of t g))

abbrev pub choice_joint : ℕ → Bool → List Member → Option (List Member)
choice_joint t left g = option_and_then (λ m. option_map (with_term g m) (after_choice left m.term)) (member_of t g)

-- the sender goes on with (), the receiver with the value
abbrev pub handed : List Member → Member → Member → Message → ℕ → Option (List Member)
handed g i j sent c = if sent.channel == c then Some (with_term (with_term g i (with_head (giving []) i.term)) j (with_head (giving sent.value) j.term)) else None

abbrev pub meeting_of : List Member → Member → Member → Option (List Member)
meeting_of g i j = option_and_then (λ sent. option_and_then (handed g i j sent) (receiving j.term)) (sending i.term)

-- a sender and a receiver on one channel, of two different threads
abbrev pub meeting_joint : ℕ → ℕ → List Member → Option (List Member)
meeting_joint s r g = if s == r then None else option_and_then (λ i. option_and_then (meeting_of g i) (member_of r g)) (member_of s g)

abbrev pub joint_step : Action → List Member → Option (List Member)
joint_step (quiet t) g = quiet_joint t g
joint_step (labelled (choice t left)) g = choice_joint t left g
joint_step (labelled (meeting s r)) g = meeting_joint s r g

-- ---- chains

abbrev pub after : List Action → List Member → Option (List Member)
after [] g = Some g
after (a ∷ as') g = option_and_then (after as') (joint_step a g)

abbrev pub labels : List Action → List Label
labels [] = []
labels (quiet t ∷ as') = labels as'
labels (labelled l ∷ as') = l ∷ labels as'

abbrev pub and_outcome : Option Outcome → Option (List Outcome) → Option (List Outcome)
and_outcome (Some o) (Some os) = Some (o ∷ os)
and_outcome _ _ = None

-- the outcomes of a group whose members are all final
abbrev pub outcomes_of : List Member → Option (List Outcome)
outcomes_of [] = Some []
outcomes_of (m ∷ ms) = and_outcome (outcome_of m.term) (outcomes_of ms)

-- a chain of joint steps with these labels leaves every member at its outcome
pub record Reduces (group : List Member) (word : List Label) (results : List Outcome) : Type 0 where
  pub actions : List Action
  pub end : List Member
  pub labels_are : labels actions ≡ word
  pub reaches : after actions group ≡ Some end
  pub ends_so : outcomes_of end ≡ Some results

-- ---- committing

-- the members whose thread is on the side
abbrev pub part : (ℕ → Bool) → List Member → List Member
part side [] = []
part side (m ∷ ms) = cond (side m.thread) (m ∷ part side ms) (part side ms)

-- a parked event has made no channel yet
abbrev pub as_member : Parked → Member
as_member p = come_to p.thread p.ticket 0 p.event

abbrev pub as_group : List Parked → List Member
as_group parked = map as_member parked

-- a non-empty part of the parked events reduces
pub record CanCommit (parked : List Parked) : Type 0 where
  pub side : ℕ → Bool
  pub word : List Label
  pub results : List Outcome
  pub is_some : part side (as_group parked) ≢ []
  pub reduces : Reduces (part side (as_group parked)) word results
