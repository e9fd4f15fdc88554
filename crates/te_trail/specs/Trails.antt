-- What a store of paths is for its callers.
use Rattle.std.specs.Prelude.{◌≡◌, ◌≢◌, ◌≤◌, ◌<◌, ◌↔◌, ℕ, List, [], ◌∷◌, ◌++◌, length, take, map, Option, Some, None, slice_get, slice_index, Bool, IsTrue}
use Rattle.te_terms.specs.Steps.{Member, IsSettled}
use Rattle.te_terms.specs.Joint.{Label, choice, meeting, Message, sending, receiving, member_of}
use Rattle.te_path.specs.declared.spot.Stop.{Stop}
use Rattle.te_path.specs.Paths.{IsChoice, StandsAt}
use Rattle.te_trail.specs.declared.moves.Move.{Move}
use Rattle.te_trail.specs.declared.moves.Move.TheVariants as moves
use Rattle.te_trail.specs.Paths.{Path, planted, branched, sent, got, thread_of}
use Rattle.te_trail.specs.Clocks.{clock_of, Agree}
use Rattle.te_trail.specs.States.{path_state}
use Rattle.te_trail.specs.Stores.{Holds, trail_of}
use Rattle.te_trail.specs.Views.{Chain, ChainOfBoth}

-- how many events and paths there were
pub record Mark : Type 0 where
  pub events : ℕ
  pub paths : ℕ

-- the events, as members that have made no channel yet, in the order of putting; the paths, the oldest first; and the marks
pub record Trail : Type 0 where
  pub events : List Member
  pub paths : List Path
  pub marks : List Mark

-- a store of these events with no path
abbrev pub unplanted : List Member → Trail
unplanted events = record { events = events; paths = []; marks = [] }

-- ---- reading

-- the answer tells whether the relation holds of paths p and q
abbrev pub TellsWhether : List Path → ℕ → ℕ → (Path → Path → Type 0) → Bool → Type 0
TellsWhether paths p q R answer = (x y : Path) → slice_get paths p ≡ Some x → slice_get paths q ≡ Some y → (IsTrue answer ↔ R x y)

-- the threads differ, and one chain of joint steps has both pasts and leaves both threads at the two paths
abbrev pub HaveOneChain : List Member → Path → Path → Type 0
HaveOneChain g x y = (thread_of x ≢ thread_of y) × ChainOfBoth g x y

abbrev pub IsPathThread : List Path → ℕ → ℕ → Type 0
IsPathThread paths p t = (x : Path) → slice_get paths p ≡ Some x → thread_of x ≡ t

-- the number of the path that the clock of x names for the thread
abbrev pub ClockAt : List Path → Path → ℕ → Option ℕ → Type 0
ClockAt paths x t None = clock_of x t ≡ None
ClockAt paths x t (Some n) = (c : Path) × (slice_get paths n ≡ Some c) × (clock_of x t ≡ Some c)

abbrev pub IsClock : List Path → ℕ → ℕ → Option ℕ → Type 0
IsClock paths p t number = (x : Path) → slice_get paths p ≡ Some x → ClockAt paths x t number

-- the path's state: what its trail, played as joint steps from the events, leaves of its thread
pub record IsLeft (g : List Member) (paths : List Path) (x : Path) (m : Member) : Type 0 where
  pub chain : Chain g (trail_of paths x)
  pub left : member_of (thread_of x) chain.end ≡ Some m
  pub settled : IsSettled m
  pub state : path_state g x ≡ Some m

-- where the state of path p stands
abbrev pub IsStop : Trail → ℕ → Stop → Type 0
IsStop store p stop = (x : Path) → slice_get store.paths p ≡ Some x → (m : Member) × IsLeft store.events store.paths x m × StandsAt m.term stop

abbrev pub label_of : Move → Label
label_of (moves.Branch t left) = choice t left
label_of (moves.Meet s r) = meeting s r

abbrev pub IsTrail : List Path → ℕ → List Move → Type 0
IsTrail paths p moves = (x : Path) → slice_get paths p ≡ Some x → map label_of moves ≡ trail_of paths x

-- ---- making

abbrev pub with_paths : Trail → List Path → Trail
with_paths store more = record store { paths = store.paths ++ more }

abbrev pub with_event : Trail → Member → Trail
with_event store m = record store { events = store.events ++ m ∷ [] }

abbrev pub IsUnplanted : Trail → ℕ → Type 0
IsUnplanted store i = (m : Member) → slice_get store.events i ≡ Some m → ¬ Holds store.paths (planted m.thread)

abbrev pub IsPlanted : Trail → ℕ → Trail → Type 0
IsPlanted old i new = (m : Member) → slice_get old.events i ≡ Some m → new ≡ with_paths old (planted m.thread ∷ [])

abbrev pub IsAtChoice : Trail → ℕ → Type 0
IsAtChoice store p = (x : Path) (m : Member) → slice_get store.paths p ≡ Some x → path_state store.events x ≡ Some m → IsChoice m.term

abbrev pub IsUnmade : Trail → ℕ → Bool → Type 0
IsUnmade store p left = (x : Path) → slice_get store.paths p ≡ Some x → ¬ Holds store.paths (branched x left)

abbrev pub IsBranched : Trail → ℕ → Bool → Trail → Type 0
IsBranched old p left new = (x : Path) → slice_get old.paths p ≡ Some x → new ≡ with_paths old (branched x left ∷ [])

-- a send and a receive on one channel
pub record FaceEachOther (a b : Member) : Type 0 where
  pub message : Message
  pub sends : sending a.term ≡ Some message
  pub receives : receiving b.term ≡ Some message.channel

abbrev pub AreMeetingEnds : Trail → ℕ → ℕ → Type 0
AreMeetingEnds store p q = (x y : Path) (a b : Member) → slice_get store.paths p ≡ Some x
    → slice_get store.paths q ≡ Some y → path_state store.events x ≡ Some a → path_state store.events y ≡ Some b
    → FaceEachOther a b

abbrev pub AreAgreeing : Trail → ℕ → ℕ → Type 0
AreAgreeing store p q = (x y : Path) → slice_get store.paths p ≡ Some x → slice_get store.paths q ≡ Some y → Agree x y

abbrev pub AreUnmet : Trail → ℕ → ℕ → Type 0
AreUnmet store p q = (x y : Path) → slice_get store.paths p ≡ Some x → slice_get store.paths q ≡ Some y → ¬ Holds store.paths (sent x y)

abbrev pub HaveMet : Trail → ℕ → ℕ → Trail → Type 0
HaveMet old p q new = (x y : Path) → slice_get old.paths p ≡ Some x → slice_get old.paths q ≡ Some y → new ≡ with_paths old (sent x y ∷ (got x y ∷ []))

-- ---- marks

abbrev pub with_mark : Trail → Trail
with_mark store = record store { marks = store.marks ++ record { events = length store.events; paths = length store.paths } ∷ [] }

-- as the store was at mark i
abbrev pub back_at : Trail → ℕ → Mark → Trail
back_at store i m = record { events = take m.events store.events; paths = take m.paths store.paths; marks = take i store.marks }

abbrev pub IsCut : Trail → ℕ → Trail → Type 0
IsCut old i new = (m : Mark) → slice_get old.marks i ≡ Some m → new ≡ back_at old i m
