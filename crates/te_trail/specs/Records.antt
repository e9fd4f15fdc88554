-- How a store keeps its paths. No public clause cites this module.
use Rattle.std.specs.Prelude.{◌≡◌, ◌≤◌, ◌<◌, ◌+◌, ℕ, suc, List, [], ◌∷◌, ◌++◌, map, take, length, Option, Some, None, slice_get, get_or, Bool, true, false}
use Rattle.te_terms.specs.Terms.{closed}
use Rattle.te_terms.specs.Codes.{term_under}
use Rattle.te_terms.specs.Steps.{Member}
use Rattle.te_terms.specs.Settling.{settled}
use Rattle.te_path.specs.declared.cells.Cells.{Cells}
use Rattle.te_path.specs.declared.spot.Spot.{Spot}
use Rattle.te_path.specs.Growth.{AreLinked, Grows, IsMarkOf, cut_to}
use Rattle.te_path.specs.Origins.{Origin, member_at}
use Rattle.te_path.specs.Spots.{spelled, IsSpot}
use Rattle.te_trail.specs.declared.ticks.Tick.{Tick}
use Rattle.te_trail.specs.declared.ticks.Stretch.{Stretch}
use Rattle.te_trail.specs.declared.planned.Planned.{Planned}
use Rattle.te_trail.specs.declared.store.PathRecord.{PathRecord}
use Rattle.te_trail.specs.declared.store.StoreMark.{StoreMark}
use Rattle.te_trail.specs.declared.store.Last.{Last}
use Rattle.te_trail.specs.declared.store.Last.TheVariants.{Root, Left, Right, Sender, Receiver}
use Rattle.te_trail.specs.Ticks.{named, ticks_of, StretchIsWithin, AreRising}
use Rattle.te_trail.specs.Paths.{Path, planted, branched, sent, got, thread_of, parent_of}
use Rattle.te_trail.specs.Clocks.{IsSound}
use Rattle.te_trail.specs.States.{MovedEnds, members_met, path_state}
use Rattle.te_trail.specs.Stores.{AreMade}
use Rattle.te_trail.specs.Trails.{Mark, ClockAt, FaceEachOther}

-- ---- events

abbrev pub origin_at : Planned → Origin
origin_at e = record { code = e.code.value; regs = e.regs; thread = e.thread; ticket = e.ticket }

abbrev pub member_of_event : Planned → Member
member_of_event e = member_at (origin_at e) 0 (closed e.regs (term_under e.code.value e.root))

abbrev pub members_of : List Planned → List Member
members_of events = map member_of_event events

pub record ArePlannedEvents (events : List Planned) : Type 0 where
  pub rooted : (i : ℕ) (e : Planned) → slice_get events i ≡ Some e → e.root < length e.code.value
  pub once : (i j : ℕ) (e f : Planned) → slice_get events i ≡ Some e → slice_get events j ≡ Some f → e.thread ≡ f.thread → i ≡ j

-- ---- paths

abbrev pub path_at : List Path → ℕ → Path
path_at acc k = get_or acc k (planted 0)

abbrev pub last_of : List Path → Path
last_of [] = planted 0
last_of (x ∷ []) = x
last_of (x ∷ y ∷ ys) = last_of (y ∷ ys)

-- the receiver's end of the meeting that made a path
abbrev pub other_end : Path → Path
other_end (planted t) = planted t
other_end (branched p left) = branched p left
other_end (sent s r) = got s r
other_end (got s r) = got s r

-- the path that a record stands for, over the earlier paths and the parent of the next record
abbrev pub path_by : List Path → ℕ → ℕ → ℕ → Last → Path
path_by acc t p mate Root = planted t
path_by acc t p mate Left = branched (path_at acc p) true
path_by acc t p mate Right = branched (path_at acc p) false
path_by acc t p mate Sender = sent (path_at acc p) (path_at acc mate)
path_by acc t p mate Receiver = other_end (last_of acc)

abbrev pub mate_of : List PathRecord → ℕ
mate_of [] = 0
mate_of (m ∷ ms) = m.parent

abbrev pub paths_from : List Path → List PathRecord → List Path
paths_from acc [] = acc
paths_from acc (n ∷ ns) = paths_from (acc ++ (path_by acc n.thread n.parent (mate_of ns) n.last ∷ [])) ns

abbrev pub paths_of : List PathRecord → List Path
paths_of records = paths_from [] records

-- no sender's end stands last
abbrev pub is_sender : Last → Bool
is_sender Root = false
is_sender Left = false
is_sender Right = false
is_sender Sender = true
is_sender Receiver = false

abbrev pub EndsAfter : PathRecord → List PathRecord → Type 0
EndsAfter n [] = is_sender n.last ≡ false
EndsAfter n (m ∷ ms) = EndsAfter m ms

abbrev pub EndsWhole : List PathRecord → Type 0
EndsWhole [] = Unit {0}
EndsWhole (n ∷ ns) = EndsAfter n ns

-- ---- what is kept of each

abbrev pub parent_number : Last → ℕ → Option ℕ
parent_number Root p = None
parent_number Left p = Some p
parent_number Right p = Some p
parent_number Sender p = Some p
parent_number Receiver p = Some p

abbrev pub HasParent : List Path → ℕ → Path → Option ℕ → Type 0
HasParent paths k x None = parent_of x ≡ None
HasParent paths k x (Some r) = (r < k) × (y : Path) × (slice_get paths r ≡ Some y) × (parent_of x ≡ Some y)

abbrev pub IsMadeBy : Last → Path → Type 0
IsMadeBy Root x = (t : ℕ) × (x ≡ planted t)
IsMadeBy Left x = (p : Path) × (x ≡ branched p true)
IsMadeBy Right x = (p : Path) × (x ≡ branched p false)
IsMadeBy Sender x = (s : Path) × (r : Path) × (x ≡ sent s r)
IsMadeBy Receiver x = (s : Path) × (r : Path) × (x ≡ got s r)

-- a record and its path
pub record Fits (paths : List Path) (ticks : List Tick) (k : ℕ) (n : PathRecord) (x : Path) : Type 0 where
  pub kind : IsMadeBy n.last x
  pub up : HasParent paths k x (parent_number n.last n.parent)
  pub thread : thread_of x ≡ n.thread
  pub sound : IsSound x
  pub within : StretchIsWithin ticks n.clock
  pub rising : AreRising (ticks_of ticks n.clock)
  pub clock : (t : ℕ) → ClockAt paths x t (named t (ticks_of ticks n.clock))

-- a spot of the event at a place spells this member
pub record SpotSpells (events : List Planned) (cells : Cells) (place : ℕ) (spot : Spot) (m : Member) : Type 0 where
  pub event : Planned
  pub is_event : slice_get events place ≡ Some event
  pub is_spot : IsSpot (origin_at event) cells spot
  pub spells : spelled (origin_at event) cells spot ≡ m

-- the record's spot spells the path's state
pub record RecordStands (events : List Planned) (cells : Cells) (n : PathRecord) (x : Path) : Type 0 where
  pub member : Member
  pub state : path_state (members_of events) x ≡ Some member
  pub spot : SpotSpells events cells n.event n.spot member

pub record FitsAll (records : List PathRecord) (ticks : List Tick) : Type 0 where
  pub shut : EndsWhole records
  pub fits : (k : ℕ) (n : PathRecord) (x : Path) → slice_get records k ≡ Some n → slice_get (paths_of records) k ≡ Some x → Fits (paths_of records) ticks k n x
  pub once : (i j : ℕ) (x : Path) → slice_get (paths_of records) i ≡ Some x → slice_get (paths_of records) j ≡ Some x → i ≡ j

pub record RecordsAreKept (events : List Planned) (cells : Cells) (records : List PathRecord) (ticks : List Tick) : Type 0 where
  pub fit : FitsAll records ticks
  pub made : AreMade [] (paths_of records)
  pub pairs : (i : ℕ) (s r : Path) → slice_get (paths_of records) i ≡ Some (sent s r) → slice_get (paths_of records) (suc i) ≡ Some (got s r)
  pub stands : (k : ℕ) (n : PathRecord) (x : Path) → slice_get records k ≡ Some n → slice_get (paths_of records) k ≡ Some x → RecordStands events cells n x
  pub events_are : ArePlannedEvents events
  pub linked : AreLinked cells

-- ---- moves of spots

-- the spots stand at a send and a receive on one channel
abbrev pub SpotsFace : List Planned → Cells → ℕ → Spot → ℕ → Spot → Type 0
SpotsFace events cells i s j r = (a b : Member) → SpotSpells events cells i s a → SpotSpells events cells j r b → FaceEachOther a b

-- what the meeting leaves of both
pub record BothMet (events : List Planned) (cells : Cells) (i : ℕ) (s : Spot) (j : ℕ) (r : Spot) (a b : Member) : Type 0 where
  pub ends : MovedEnds
  pub meeting : members_met a b ≡ Some ends
  pub sender : SpotSpells events cells i s (settled ends.sender)
  pub receiver : SpotSpells events cells j r (settled ends.receiver)

abbrev pub SpotsMeet : List Planned → Cells → Cells → ℕ → Spot → Spot → ℕ → Spot → Spot → Type 0
SpotsMeet events old new i s s2 j r r2 = (a b : Member) → SpotSpells events old i s a → SpotSpells events old j r b → BothMet events new i s2 j r2 a b

-- ---- marks

abbrev pub mark_seen : StoreMark → Mark
mark_seen m = record { events = m.events; paths = m.paths }

-- what stood at a mark is kept
pub record IsMarked (events : List Planned) (cells : Cells) (records : List PathRecord) (ticks : List Tick) (m : StoreMark) : Type 0 where
  pub events_low : m.events ≤ length events
  pub paths_low : m.paths ≤ length records
  pub ticks_low : m.ticks ≤ length ticks
  pub of_cells : IsMarkOf (cut_to m.cells cells) m.cells
  pub grown : Grows (cut_to m.cells cells) cells
  pub kept : RecordsAreKept (take m.events events) (cut_to m.cells cells) (take m.paths records) (take m.ticks ticks)
  pub seen : paths_of (take m.paths records) ≡ take m.paths (paths_of records)

-- the first mark is no later than the second
pub record IsEarlier (cells : Cells) (m l : StoreMark) : Type 0 where
  pub events : m.events ≤ l.events
  pub paths : m.paths ≤ l.paths
  pub ticks : m.ticks ≤ l.ticks
  pub of_cells : Grows (cut_to m.cells cells) (cut_to l.cells cells)

pub record StoreIsWhole (events : List Planned) (cells : Cells) (records : List PathRecord) (ticks : List Tick) (marks : List StoreMark) : Type 0 where
  pub kept : RecordsAreKept events cells records ticks
  pub few : length records < 4294967296
  pub marked : (i : ℕ) (m : StoreMark) → slice_get marks i ≡ Some m → IsMarked events cells records ticks m
  pub rising : (i j : ℕ) (m l : StoreMark) → slice_get marks i ≡ Some m → slice_get marks j ≡ Some l → i ≤ j → IsEarlier cells m l
