-- The play of a certificate: its choices and meetings, by the places of its members, on their terms.
-- Certificates are this project's own; the steps are those of Donnelly and Fluet, Transactional Events, JFP 18(5-6), 2008.
use Rattle.std.specs.Prelude.{ℕ, zero, suc, ◌*◌, Bool, true, false, ◌==◌, List, [], ◌∷◌, ◌++◌, Option, Some, None, Result, Ok, Err, slice_get, slice_set, if◌then◌else◌}
use Rattle.te_terms.specs.declared.event.Outcome.{Outcome}
use Rattle.te_terms.specs.Terms.{Term}
use Rattle.te_terms.specs.Steps.{Member, at_term, giving, quiet_step, outcome_of, with_head}
use Rattle.te_terms.specs.Joint.{Label, choice, meeting, Message, after_choice, sending, receiving}
use Rattle.te_terms.specs.Measures.{node_count}
use Rattle.te_cert.specs.declared.cert.Meeting.{Meeting}

-- why a play fails: a member lacks a letter; the ends of a meeting don't fit; a member isn't final; letters are left over
pub data PlayFault : Type 0 where
  no_letter : ℕ → PlayFault
  no_meeting : ℕ → PlayFault
  unfinished : ℕ → PlayFault
  letters_left : ℕ → PlayFault

-- a member in play, with the letters that it hasn't used
pub record Player : Type 0 where
  pub member : Member
  pub letters : List Bool

-- members in play, and the labels of the steps so far
pub record Table : Type 0 where
  pub players : List Player
  pub word : List Label

infixl 10 ◌>>=◌
abbrev pub ◌>>=◌ : {A B : Type 0} → Result A PlayFault → (A → Result B PlayFault) → Result B PlayFault
(Ok x) >>= f = f x
(Err e) >>= f = Err e

-- ---- a member advances

-- what a member does next of itself: a quiet step, a choice by its next letter, or nothing
pub data Turn : Type 0 where
  quietly : Member → Turn
  by_choice : Member → Member → Turn
  stands : Turn

-- the members after a left and after a right choice
abbrev pub choice_of : Member → Option Term → Option Term → Turn
choice_of m (Some e) (Some f) = by_choice (at_term m e) (at_term m f)
choice_of m _ _ = stands

abbrev pub own_turn : Member → Option Member → Turn
own_turn m (Some n) = quietly n
own_turn m None = choice_of m (after_choice true m.term) (after_choice false m.term)

abbrev pub turn_of : Member → Turn
turn_of m = own_turn m (quiet_step m)

pub record Advance : Type 0 where
  pub player : Player
  pub word : List Label

abbrev pub with_label : Label → Result Advance PlayFault → Result Advance PlayFault
with_label l (Ok a) = Ok (record { player = a.player; word = l ∷ a.word })
with_label l (Err e) = Err e

abbrev pub takes_turn : (Player → Result Advance PlayFault) → ℕ → Player → Turn → List Bool → Result Advance PlayFault
takes_turn go i p (quietly m) letters = go (record { member = m; letters = letters })
takes_turn go i p (by_choice l r) [] = Err (no_letter i)
takes_turn go i p (by_choice l r) (true ∷ letters) = with_label (choice l.thread true) (go (record { member = l; letters = letters }))
takes_turn go i p (by_choice l r) (false ∷ letters) = with_label (choice r.thread false) (go (record { member = r; letters = letters }))
takes_turn go i p stands letters = Ok (record { player = p; word = [] })

-- each turn leaves fewer nodes, or as many and one more that is final
abbrev pub advance_within : ℕ → ℕ → Player → Result Advance PlayFault
advance_within zero i p = Ok (record { player = p; word = [] })
advance_within (suc turns) i p = takes_turn (advance_within turns i) i p (turn_of p.member) p.letters

-- the member at place i advances until it stands at a send, a receive or never, or is final
abbrev pub advanced : ℕ → Player → Result Advance PlayFault
advanced i p = advance_within (2 * node_count p.member.term) i p

-- ---- all members advance, in order

abbrev pub all_advanced : ℕ → List Player → Result Table PlayFault
all_advanced i [] = Ok (record { players = []; word = [] })
all_advanced i (p ∷ ps) = do
  a ← advanced i p
  rest ← all_advanced (suc i) ps
  Ok (record { players = a.player ∷ rest.players; word = a.word ++ rest.word })

-- ---- meetings

abbrev pub player_with_term : Player → Term → Player
player_with_term p t = record p { member = at_term p.member t }

-- both ends of a meeting move
pub record Ends : Type 0 where
  pub sender : Player
  pub receiver : Player

abbrev pub met_by : Player → Player → Option Message → Option ℕ → Option Ends
met_by s r (Some m) (Some c) =
    if m.channel == c then Some (record {
      sender = player_with_term s (with_head (giving []) s.member.term);
      receiver = player_with_term r (with_head (giving m.value) r.member.term);
    }) else None
met_by s r _ _ = None

abbrev pub met : Option Player → Option Player → Option Ends
met (Some s) (Some r) = met_by s r (sending s.member.term) (receiving r.member.term)
met _ _ = None

-- the sender advances, then the receiver
abbrev pub ends_advance : ℕ → Meeting → Table → Option Ends → Result Table PlayFault
ends_advance j m t None = Err (no_meeting j)
ends_advance j m t (Some e) = do
  s ← advanced m.sender e.sender
  r ← advanced m.receiver e.receiver
  Ok (record {
    players = slice_set (slice_set t.players m.sender s.player) m.receiver r.player;
    word = t.word ++ (meeting e.sender.member.thread e.receiver.member.thread ∷ s.word) ++ r.word;
  })

abbrev pub meets : ℕ → Meeting → Table → Result Table PlayFault
meets j m t = ends_advance j m t (met (slice_get t.players m.sender) (slice_get t.players m.receiver))

abbrev pub all_meet : ℕ → List Meeting → Table → Result Table PlayFault
all_meet j [] t = Ok t
all_meet j (m ∷ ms) t = meets j m t >>= all_meet (suc j) ms

-- ---- the end

abbrev pub ending : ℕ → Option Outcome → List Bool → Result Outcome PlayFault
ending i (Some o) [] = Ok o
ending i (Some o) (l ∷ ls) = Err (letters_left i)
ending i None letters = Err (unfinished i)

-- each member is final with no letter left over
abbrev pub endings : ℕ → List Player → Result (List Outcome) PlayFault
endings i [] = Ok []
endings i (p ∷ ps) = do
  o ← ending i (outcome_of p.member.term) p.letters
  os ← endings (suc i) ps
  Ok (o ∷ os)

-- what a play gives: the outcomes of the members, and the labels of its steps
pub record Played : Type 0 where
  pub outcomes : List Outcome
  pub word : List Label

abbrev pub seated : List Member → List (List Bool) → List Player
seated [] letters = []
seated (m ∷ ms) [] = record { member = m; letters = [] } ∷ seated ms []
seated (m ∷ ms) (l ∷ ls) = record { member = m; letters = l } ∷ seated ms ls

-- the play of choices and meetings on a group, or its first failure
abbrev pub play : List Member → List (List Bool) → List Meeting → Result Played PlayFault
play group letters meetings = do
  start ← all_advanced 0 (seated group letters)
  last ← all_meet 0 meetings (record { players = start.players; word = start.word })
  os ← endings 0 last.players
  Ok (record { outcomes = os; word = last.word })
