-- How a kept search keeps its levels. No public clause cites this module.
use Rattle.std.specs.Prelude.{◌≡◌, ◌≢◌, ◌≤◌, ◌<◌, ◌+◌, ℕ, suc, List, [], ◌∷◌, map, take, length, Bool, true, false, cond, Option, Some, None, slice_get, MatchOption}
use Rattle.te_terms.specs.declared.event.Parked.{Parked}
use Rattle.te_terms.specs.Steps.{Member}
use Rattle.te_terms.specs.Joint.{IsGroup, as_group, member_of}
use Rattle.te_trail.specs.declared.moves.Move.{Move}
use Rattle.te_trail.specs.Trails.{Mark}
use Rattle.te_trail.specs.Paths.{Path, planted}
use Rattle.te_trail.specs.Stores.{Holds, labels_of_move}
use Rattle.te_pair.specs.declared.end.End.{End}
use Rattle.te_pair.specs.Ends.{paths_kept}
use Rattle.te_search.specs.declared.work.Work.{Work}
use Rattle.te_search.specs.declared.finals.Final.{Final}
use Rattle.te_search.specs.Finals.{numbers_of, TellThreads}
use Rattle.te_search.specs.declared.stack.Level.{Level}
use Rattle.te_search.specs.declared.stack.Stack.{Stack}
use Rattle.te_search.specs.Searching.{paths_by, IsSearch}
use Rattle.te_search.specs.Plantings.{has_number}
use Rattle.te_search.specs.Works.{AreLow, EndsStand, label_told, IsCounted, IsWork, threads_of}

-- ---- the lists of a search

pub record Lists : Type 0 where
  pub events : List Member
  pub paths : List Path
  pub moves : List (Option Move)
  pub waiting : List End
  pub finals : List Final

abbrev pub lists_of : Work → Lists
lists_of w = record { events = w.store.events; paths = w.store.paths; moves = w.moves.items; waiting = w.waiting; finals = w.finals }

-- a search with nothing left to do, every event planted
pub record SearchIsWhole (l : Lists) (groups : ℕ) : Type 0 where
  pub search : IsSearch l.events l.paths [] (paths_by l.paths (paths_kept l.waiting)) (paths_by l.paths (numbers_of l.finals))
  pub waits_low : AreLow l.paths (paths_kept l.waiting)
  pub finals_low : AreLow l.paths (numbers_of l.finals)
  pub finals_told : TellThreads l.paths l.finals
  pub ends : EndsStand l.events l.paths l.waiting
  pub told_are : map label_told l.moves ≡ map labels_of_move l.paths
  pub counted : IsCounted l.events l.paths (paths_by l.paths (numbers_of l.finals)) groups
  pub planted_all : (t : ℕ) (e : Member) → member_of t l.events ≡ Some e → Holds l.paths (planted t)

-- ---- going back

-- how long the lists are
pub record Extent : Type 0 where
  pub events : ℕ
  pub paths : ℕ
  pub moves : ℕ
  pub waiting : ℕ
  pub finals : ℕ

abbrev pub extent_of : Lists → Extent
extent_of l = record { events = length l.events; paths = length l.paths; moves = length l.moves; waiting = length l.waiting; finals = length l.finals }

abbrev pub back_to : Extent → Lists → Lists
back_to x l = record { events = take x.events l.events; paths = take x.paths l.paths; moves = take x.moves l.moves; waiting = take x.waiting l.waiting; finals = take x.finals l.finals }

-- no list is longer
pub record IsBefore (x y : Extent) : Type 0 where
  pub events : x.events ≤ y.events
  pub paths : x.paths ≤ y.paths
  pub moves : x.moves ≤ y.moves
  pub waiting : x.waiting ≤ y.waiting
  pub finals : x.finals ≤ y.finals

-- how long the lists were when the level began
abbrev pub extent_at : Level → Mark → Extent
extent_at l m = record { events = m.events; paths = m.paths; moves = l.moves; waiting = l.waiting; finals = l.finals }

-- ---- levels

-- when level i began, its i events made a whole search
pub record IsLevel (now : Lists) (i : ℕ) (l : Level) (m : Mark) : Type 0 where
  pub events_are : m.events ≡ i
  pub before : IsBefore (extent_at l m) (extent_of now)
  pub fewer : i ≤ m.paths
  pub whole : SearchIsWhole (back_to (extent_at l m) now) l.groups

-- each level is a whole search, and none is longer than a later one
pub record AreLevels (now : Lists) (levels : List Level) (marks : List Mark) : Type 0 where
  pub as_long : length levels ≡ length marks
  pub each : (i : ℕ) (l : Level) (m : Mark) → slice_get levels i ≡ Some l → slice_get marks i ≡ Some m → IsLevel now i l m
  pub rising : (i j : ℕ) (l k : Level) (m n : Mark) → i ≤ j → slice_get levels i ≡ Some l → slice_get levels j ≡ Some k → slice_get marks i ≡ Some m → slice_get marks j ≡ Some n
      → IsBefore (extent_at l m) (extent_at k n)

-- the events of the one group are among those of the other
abbrev pub EventsAreAmong : List Member → List Member → Type 0
EventsAreAmong g h = (t : ℕ) (e : Member) → member_of t g ≡ Some e → member_of t h ≡ Some e

-- threads below 64
abbrev pub AreFew : List Parked → Type 0
AreFew parked = (i : ℕ) (p : Parked) → slice_get parked i ≡ Some p → p.thread < 64

-- parked events of which some are planted, over levels
pub record HasLevels (s : Stack) : Type 0 where
  pub rise : IsGroup (as_group s.parked)
  pub threads_are : s.threads ≡ threads_of s.work.store.events
  pub among : EventsAreAmong s.work.store.events (as_group s.parked)
  pub levels : AreLevels (lists_of s.work) s.levels.items s.work.store.marks

-- and nothing is left to do on those that are planted
pub record IsStack (s : Stack) : Type 0 where
  pub levels : HasLevels s
  pub as_many : length s.levels.items ≡ length s.threads
  pub fewer : length s.threads ≤ length s.work.store.paths
  pub whole : SearchIsWhole (lists_of s.work) s.work.groups
  pub idle : s.work.pending.items ≡ []

-- ---- what is planted

-- how many events aren't planted yet
abbrev pub count_left : List ℕ → List Parked → ℕ
count_left threads [] = 0
count_left threads (p ∷ ps) = cond (has_number threads p.thread) (count_left threads ps) (suc (count_left threads ps))

-- a place whose event isn't planted
abbrev pub AwaitsPlanting : List ℕ → List Parked → Option ℕ → Type 0
AwaitsPlanting threads parked None = (i : ℕ) (p : Parked) → slice_get parked i ≡ Some p → has_number threads p.thread ≡ true
AwaitsPlanting threads parked (Some i) = (p : Parked) × (slice_get parked i ≡ Some p) × (has_number threads p.thread ≡ false)

-- the answer tells whether the event at a place is to be planted before the best so far: it isn't planted, and where it isn't better there is a best one or it is planted
abbrev pub TellsBetter : List ℕ → List Parked → ℕ → Option ℕ → Bool → Type 0
TellsBetter threads parked i best true = (p : Parked) × (slice_get parked i ≡ Some p) × (has_number threads p.thread ≡ false)
TellsBetter threads parked i None false = (p : Parked) → slice_get parked i ≡ Some p → has_number threads p.thread ≡ true
TellsBetter threads parked i (Some b) false = Unit {0}

abbrev pub PlaceIsLow : List Parked → Option ℕ → Type 0
PlaceIsLow parked best = MatchOption best (Unit {0}) (λ b. b < length parked)

-- a level has begun, and its event isn't put yet
pub record IsReady (s : Stack) : Type 0 where
  pub levels : HasLevels s
  pub one_more : length s.levels.items ≡ length s.threads + 1
  pub fewer : length s.threads ≤ length s.work.store.paths
  pub whole : SearchIsWhole (lists_of s.work) s.work.groups
  pub idle : s.work.pending.items ≡ []

-- a level more, and nothing else is new
pub record IsBegun (old new : Stack) : Type 0 where
  pub ready : IsReady new
  pub threads : new.threads ≡ old.threads
  pub paths : new.work.store.paths ≡ old.work.store.paths
  pub groups : new.work.groups ≡ old.work.groups

-- the event of the top level is planted, and all work that is left is on its paths
pub record IsExploring (s : Stack) : Type 0 where
  pub levels : HasLevels s
  pub as_many : length s.levels.items ≡ length s.threads
  pub some_level : 0 < length s.levels.items
  pub fewer : length s.threads ≤ length s.work.store.paths
  pub work : IsWork s.work
  pub planted_all : (t : ℕ) (e : Member) → member_of t s.work.store.events ≡ Some e → Holds s.work.store.paths (planted t)

-- the event at a place is planted
pub record IsOpened (old new : Stack) : Type 0 where
  pub exploring : IsExploring new
  pub paths : length new.work.store.paths ≡ length old.work.store.paths + 1
  pub groups : new.work.groups ≡ old.work.groups
  pub left : count_left new.threads new.parked < count_left old.threads old.parked

-- ---- the list

-- the place before which a thread comes: all before it have lower threads
pub record IsPlaceFor (parked : List Parked) (t i : ℕ) : Type 0 where
  pub low : i ≤ length parked
  pub before : (j : ℕ) (p : Parked) → j < i → slice_get parked j ≡ Some p → ¬ (t < p.thread)
  pub after : (p : Parked) → slice_get parked i ≡ Some p → t < p.thread

-- the first place of the thread
pub record IsPlaceWith (parked : List Parked) (t i : ℕ) : Type 0 where
  pub event : Parked
  pub is : slice_get parked i ≡ Some event
  pub of : event.thread ≡ t
  pub before : (j : ℕ) (p : Parked) → j < i → slice_get parked j ≡ Some p → p.thread ≢ t

abbrev pub parked_of : Option Stack → List Parked
parked_of None = []
parked_of (Some s) = s.parked

abbrev pub StackIsKept : Option Stack → Type 0
StackIsKept stack = MatchOption stack (Unit {0}) IsStack

-- among the first n there is none that isn't planted, or there is this one
abbrev pub IsBest : List ℕ → List Parked → ℕ → Option ℕ → Type 0
IsBest threads parked n None = (i : ℕ) (p : Parked) → i < n → slice_get parked i ≡ Some p → has_number threads p.thread ≡ true
IsBest threads parked n (Some i) = (p : Parked) × (slice_get parked i ≡ Some p) × (has_number threads p.thread ≡ false)
