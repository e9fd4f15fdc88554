-- Players as the code keeps them: spots over cells, and how many letters each has used. No public clause cites this module.
use Rattle.std.specs.Prelude.{◌≡◌, ◌⊎◌, ℕ, ◌<◌, ◌≤◌, Bool, true, false, ◌==◌, List, [], ◌∷◌, ◌++◌, length, drop, map, Option, Some, None, Result, Ok, Err, IsSome, slice_get, slice_set, if◌then◌else◌}
use Rattle.te_terms.specs.declared.value.Atom.{Atom}
use Rattle.te_terms.specs.declared.event.Outcome.{Outcome}
use Rattle.te_terms.specs.Terms.{Term, closed}
use Rattle.te_terms.specs.Codes.{term_under}
use Rattle.te_terms.specs.Steps.{giving, with_head}
use Rattle.te_terms.specs.Joint.{Label, sending, receiving}
use Rattle.te_terms.specs.Settling.{settled}
use Rattle.te_path.specs.declared.cells.Cells.{Cells}
use Rattle.te_path.specs.declared.spot.Stop.{Stop}
use Rattle.te_path.specs.declared.spot.Stop.TheVariants as stops
use Rattle.te_path.specs.Origins.{Origin, origin_of, member_at}
use Rattle.te_path.specs.Spots.{spelled, IsSpot}
use Rattle.te_cert.specs.declared.cert.Member.{Member}
use Rattle.te_cert.specs.declared.cert.Meeting.{Meeting}
use Rattle.te_cert.specs.declared.cert.CertFault.{CertFault}
use Rattle.te_cert.specs.declared.cert.CertFault.TheVariants as faults
use Rattle.te_cert.specs.declared.lent.Lent.{Lent}
use Rattle.te_cert.specs.declared.group.Entrant.{Entrant}
use Rattle.te_cert.specs.declared.group.Group.{Group}
use Rattle.te_cert.specs.declared.seat.Seat.{Seat}
use Rattle.te_cert.specs.declared.seat.End.{End}
use Rattle.te_cert.specs.declared.seat.End.TheVariants as ends
use Rattle.te_cert.specs.Play.{PlayFault, no_letter, no_meeting, unfinished, letters_left, Player, Advance, Table}
use Rattle.te_cert.specs.Play.{Played, ◌>>=◌, with_label, player_with_term, advanced, all_advanced, all_meet, endings}
use Rattle.te_cert.specs.Advances.{by_letters}

-- ---- who enters

-- what the moves of a member read, the node of its event, and its letters
pub record Entering : Type 0 where
  pub origin : Origin
  pub root : ℕ
  pub letters : List Bool

abbrev pub entering : Member → Lent → Entering
entering m l = record {
  origin = record { code = l.code.now; regs = l.regs.now; thread = m.thread; ticket = m.ticket };
  root = l.root;
  letters = m.choices;
}

abbrev pub all_entering : List Member → List Lent → List Entering
all_entering [] ls = []
all_entering (m ∷ ms) [] = []
all_entering (m ∷ ms) (l ∷ ls) = entering m l ∷ all_entering ms ls

abbrev pub of_group : Group → List Entering
of_group g = all_entering g.members.now g.lents.now

abbrev pub entered : Entrant → Entering
entered e = record { origin = origin_of e.posted; root = e.root; letters = e.choices.now }

abbrev pub start_of : Entering → Player
start_of e = record { member = member_at e.origin 0 (closed e.origin.regs (term_under e.origin.code e.root)); letters = e.letters }

abbrev pub starts_of : List Entering → List Player
starts_of es = map start_of es

abbrev pub IsEntering : Entering → Type 0
IsEntering e = e.root < length e.origin.code

-- ---- seats

abbrev pub seat_of : Cells → Entering → Seat → Player
seat_of cells e k = record { member = spelled e.origin cells k.spot; letters = drop k.used e.letters }

abbrev pub seats_of : Cells → List Entering → List Seat → List Player
seats_of cells [] ks = []
seats_of cells (e ∷ es) [] = []
seats_of cells (e ∷ es) (k ∷ ks) = seat_of cells e k ∷ seats_of cells es ks

pub record IsSeat (cells : Cells) (e : Entering) (k : Seat) : Type 0 where
  pub spot : IsSpot e.origin cells k.spot
  pub within : k.used ≤ length e.letters

-- a seat for each who entered
abbrev pub AreSeated : Cells → List Entering → List Seat → Type 0
AreSeated cells [] [] = Unit {0}
AreSeated cells (e ∷ es) (k ∷ ks) = IsSeat cells e k × AreSeated cells es ks
AreSeated cells _ _ = ⊥

-- ---- one member goes on

-- with further labels in front
abbrev pub with_labels : List Label → Result Advance PlayFault → Result Advance PlayFault
with_labels [] r = r
with_labels (l ∷ ls) r = with_label l (with_labels ls r)

abbrev pub letters_from : ℕ → Player → Result Advance PlayFault
letters_from i p = by_letters i p.member p.letters

-- the one advances as the other, but for labels in front
abbrev pub AdvancesAs : Player → Player → Type 0
AdvancesAs p q = (i : ℕ) → (word : List Label) × (letters_from i p ≡ with_labels word (letters_from i q))

-- an advance comes to a stand, or lacks a letter
abbrev pub Comes : Player → Bool → Player → Type 0
Comes p true q = (i : ℕ) → (word : List Label) × (letters_from i p ≡ Ok (record { player = q; word = word }))
Comes p false q = (i : ℕ) → letters_from i p ≡ Err (no_letter i)

-- a seat at which its member has advanced from its event
pub record IsSeatedAt (i : ℕ) (e : Entering) (cells : Cells) (k : Seat) : Type 0 where
  pub word : List Label
  pub advances : advanced i (start_of e) ≡ Ok (record { player = seat_of cells e k; word = word })
  pub seat : IsSeat cells e k

-- another seat stands behind the others
pub record TakesSeat (i : ℕ) (e : Entering) (cells : Cells) (before after : List Seat) : Type 0 where
  pub seat : Seat
  pub seated : IsSeatedAt i e cells seat
  pub put : after ≡ before ++ seat ∷ []

-- ---- meetings

-- it goes on from its head with this value
abbrev pub player_handed : List Atom → Player → Player
player_handed v p = player_with_term p (with_head (giving v) p.member.term)

abbrev pub value_at : End → List Atom
value_at ends.Sender = []
value_at (ends.Receiver v) = v

abbrev pub StandsAtEnd : End → Term → Type 0
StandsAtEnd ends.Sender t = IsSome (sending t)
StandsAtEnd (ends.Receiver v) t = IsSome (receiving t)

-- with its quiet steps done it is the other, its letters as before
pub record PassesOn (v : List Atom) (p q : Player) : Type 0 where
  pub settles : settled (player_handed v p).member ≡ q.member
  pub letters : p.letters ≡ q.letters

-- what the one passes to the other where they stand so
abbrev pub passing : Stop → Stop → Option (List Atom)
passing (stops.Send c v) (stops.Recv d) = if c == d then Some v else None
passing _ _ = None

-- the member at place i goes on with the value and advances
pub record PlayerGoesOn (i : ℕ) (v : List Atom) (before after : List Player) : Type 0 where
  pub player : Player
  pub is_there : slice_get before i ≡ Some player
  pub end : Player
  pub word : List Label
  pub advances : advanced i (player_handed v player) ≡ Ok (record { player = end; word = word })
  pub then_so : after ≡ slice_set before i end

-- it lacks a letter then
pub record Lacks (i : ℕ) (v : List Atom) (before : List Player) : Type 0 where
  pub player : Player
  pub is_there : slice_get before i ≡ Some player
  pub lacks : advanced i (player_handed v player) ≡ Err (no_letter i)

-- ---- tables

abbrev pub table_of : Cells → List Entering → List Seat → List Label → Table
table_of cells es ks word = record { players = seats_of cells es ks; word = word }

-- a part of the play gives these players, whatever its labels
abbrev pub BecomesTable : Result Table PlayFault → List Player → Type 0
BecomesTable r ps = (word : List Label) × (r ≡ Ok (record { players = ps; word = word }))

-- the play of those who enter
abbrev pub played_by : List Entering → List Meeting → Result Played PlayFault
played_by es mts = do
  start ← all_advanced 0 (starts_of es)
  last ← all_meet 0 mts (record { players = start.players; word = start.word })
  os ← endings 0 last.players
  Ok (record { outcomes = os; word = last.word })

-- ---- what has been done before the rest

abbrev pub players_before : List Player → List Label → Result Table PlayFault → Result Table PlayFault
players_before ps word (Ok t) = Ok (record { players = ps ++ t.players; word = word ++ t.word })
players_before ps word (Err f) = Err f

abbrev pub outcomes_before : List Outcome → Result (List Outcome) PlayFault → Result (List Outcome) PlayFault
outcomes_before os (Ok more) = Ok (os ++ more)
outcomes_before os (Err f) = Err f

-- ---- faults

-- how a fault of the play is told
abbrev pub told : PlayFault → CertFault
told (no_letter i) = faults.Choices i
told (no_meeting j) = faults.Meet j
told (unfinished i) = faults.Unfinished i
told (letters_left i) = faults.Choices i

-- it is that of a part of the play, or want of memory
abbrev pub TellsFault : {A : Type 0} → Result A PlayFault → CertFault → Type 0
TellsFault r e = (e ≡ faults.Memory) ⊎ ((f : PlayFault) × (r ≡ Err f) × (e ≡ told f))

-- the answer is that of a part of the play
abbrev pub TellsPart : {A : Type 0} → Result A PlayFault → Result A CertFault → Type 0
TellsPart (Ok x) answer = answer ≡ Ok x
TellsPart (Err f) answer = answer ≡ Err (told f)

-- the answer has the outcomes of the play, or tells its fault
abbrev pub PlaysTo : Result Played PlayFault → Result (List Outcome) CertFault → Type 0
PlaysTo r (Ok os) = (word : List Label) × (r ≡ Ok (record { outcomes = os; word = word }))
PlaysTo r (Err e) = TellsFault r e
