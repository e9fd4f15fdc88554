-- What the parts of a round do to a board. No clause of a public call cites this module.
use Rattle.std.specs.Prelude.{◌≡◌, ◌≢◌, ◌⊎◌, ℕ, ◌<◌, List, [], ◌∷◌, length, Option, Some, slice_get}
use Rattle.std.specs.List.{AllByRecursion, flat_map}
use Rattle.te_terms.specs.declared.event.Outcome.{Outcome}
use Rattle.te_terms.specs.declared.event.Parked.{Parked}
use Rattle.te_terms.specs.Terms.{Term}
use Rattle.te_terms.specs.Joint.{CanCommit}
use Rattle.te_cert.specs.declared.cert.Cert.{Cert}
use Rattle.te_cert.specs.declared.cert.Member.{Member}
use Rattle.te_cert.specs.Checks.{ThreadsRise}
use Rattle.te_script.specs.Wishes.{syncs}
use Rattle.te_script.specs.Cores.{Stand, wish_at}
use Rattle.te_history.specs.declared.entry.Entry.{Entry}
use Rattle.te_history.specs.declared.entry.Entry.TheVariants as entries
use Rattle.te_history.specs.State.{Standing, idle, parked, given, ended, State, parked_list, posts_by}
use Rattle.te_history.specs.Follows.{Stands, IsRunning, IsParkedOrEnded}
use Rattle.te_report.specs.Whole.{IsWhole}
use Rattle.te_report.specs.OfScript.{IsWished}
use Rattle.te_board.specs.Boards.{BoardLog, state_of}
use Rattle.te_board.specs.Denials.{IsFull}
use Rattle.te_search.specs.Findings.{HasThread, without}
use Rattle.te_serial.specs.declared.fault.FinishFault.{FinishFault}
use Rattle.te_serial.specs.declared.fault.FinishFault.TheVariants as faults
use Rattle.te_serial.specs.declared.place.Place.{Place}
use Rattle.te_serial.specs.declared.place.Place.TheVariants as places
use Rattle.te_serial.specs.Houses.{grown}
use Rattle.te_serial.specs.Rounds.{OpensBy, OpensFrom, TakesBy, TakesOf, IsLowestOf, IsBlock, ClosesSo, EndsOf, Round, IsRound, entries_of, AreRounds}

-- ---- where a caller stands

-- as a call tells it
abbrev pub ShowsPlace : Option Standing → Place → Type 0
ShowsPlace (Some idle) places.Idle = Unit {0}
ShowsPlace (Some (parked ticket event)) places.Parked = Unit {0}
ShowsPlace (Some (given ticket outcome)) places.Given = Unit {0}
ShowsPlace (Some ended) places.Ended = Unit {0}
ShowsPlace _ _ = ⊥

-- nobody holds an outcome
abbrev pub NoneGiven : State → Type 0
NoneGiven s = (t ticket : ℕ) (outcome : Outcome) → Stands s t (given ticket outcome) → ⊥

abbrev pub IsGivenIn : State → ℕ → Type 0
IsGivenIn s t = (ticket : ℕ) × (outcome : Outcome) × Stands s t (given ticket outcome)

abbrev pub IsParkedAt : State → ℕ → Type 0
IsParkedAt s t = (ticket : ℕ) × (event : Term) × Stands s t (parked ticket event)

-- the list has the parked callers of the board
abbrev pub IsKeptOf : List Parked → BoardLog → Type 0
IsKeptOf kept board = kept ≡ parked_list (state_of board)

-- ---- openings

-- the wish of a core is posted, or its caller has ended so
pub record HasOpened (old new : BoardLog) (t : ℕ) (stand : Stand) : Type 0 where
  pub entry : Entry
  pub opens : OpensBy t entry
  pub wished : IsWished (wish_at stand) entry
  pub grows : new ≡ grown old (entry ∷ [])

-- so, or nothing was done
abbrev pub MayHaveOpened : BoardLog → BoardLog → ℕ → Stand → Type 0
MayHaveOpened old new t stand = (new ≡ old) ⊎ HasOpened old new t stand

abbrev pub posted : BoardLog → ℕ → Term → BoardLog
posted board t event = grown board (entries.Post t (posts_by t board.entries) event ∷ [])

abbrev pub PostFails : BoardLog → ℕ → FinishFault → Type 0
PostFails board t (faults.Spent front paths groups) = ⊥
PostFails board t faults.Full = Stands (state_of board) t idle × IsFull board
PostFails board t faults.Memory = Unit {0}

abbrev pub OpenFails : BoardLog → ℕ → Stand → FinishFault → Type 0
OpenFails board t stand (faults.Spent front paths groups) = ⊥
OpenFails board t stand faults.Full = Stands (state_of board) t idle × ((event : Term) × (wish_at stand ≡ syncs event)) × IsFull board
OpenFails board t stand faults.Memory = Unit {0}

-- each idle caller has opened, in order, and all are parked or ended
pub record HasOpenedAll (old new : BoardLog) : Type 0 where
  pub entries : List Entry
  pub opens : OpensFrom 0 (state_of old).callers entries
  pub grows : new ≡ grown old entries
  pub running : IsRunning (state_of new)
  pub settled : AllByRecursion IsParkedOrEnded (state_of new).callers

-- ---- takes

-- the caller has taken its outcome
pub record HasTakenOne (old new : BoardLog) (t : ℕ) : Type 0 where
  pub entry : Entry
  pub takes : TakesBy t entry
  pub grows : new ≡ grown old (entry ∷ [])

-- whoever held an outcome has taken it; where nobody did, nothing was done
pub record HasTakenGiven (old new : BoardLog) : Type 0 where
  pub stuck : (state_of new).stuck ≡ (state_of old).stuck
  pub none : NoneGiven (state_of new)
  pub same : NoneGiven (state_of old) → new ≡ old

-- the entry at a place is a commit
abbrev pub IsCommitAt : List Entry → ℕ → Type 0
IsCommitAt history place = (by : ℕ) × (cert : Cert) × (outcomes : List Outcome) × (slice_get history place ≡ Some (entries.Commit by cert outcomes))

abbrev pub TellsCount : List Entry → ℕ → ℕ → Type 0
TellsCount history place count =
    (by : ℕ) (cert : Cert) (outcomes : List Outcome) → slice_get history place ≡ Some (entries.Commit by cert outcomes) → count ≡ length cert.members

-- it has a member there
pub record HasMember (history : List Entry) (place i : ℕ) : Type 0 where
  pub by : ℕ
  pub cert : Cert
  pub outcomes : List Outcome
  pub is : slice_get history place ≡ Some (entries.Commit by cert outcomes)
  pub within : i < length cert.members

abbrev pub TellsMember : List Entry → ℕ → ℕ → ℕ → Type 0
TellsMember history place i thread =
    (by : ℕ) (cert : Cert) (outcomes : List Outcome) (m : Member) → slice_get history place ≡ Some (entries.Commit by cert outcomes) → slice_get cert.members i ≡ Some m
    → thread ≡ m.thread

-- the entry at a place is a commit of members that hold their outcomes
pub record IsToTake (board : BoardLog) (place : ℕ) : Type 0 where
  pub by : ℕ
  pub cert : Cert
  pub outcomes : List Outcome
  pub is : slice_get board.entries place ≡ Some (entries.Commit by cert outcomes)
  pub rise : ThreadsRise cert.members
  pub given : AllByRecursion (λ m. IsGivenIn (state_of board) m.thread) cert.members

-- the members of that commit have taken, in order; the others hold what they held
pub record HasTakenAll (old new : BoardLog) (place : ℕ) : Type 0 where
  pub by : ℕ
  pub cert : Cert
  pub outcomes : List Outcome
  pub is : slice_get old.entries place ≡ Some (entries.Commit by cert outcomes)
  pub takes : List Entry
  pub are_takes : TakesOf cert.members takes
  pub grows : new ≡ grown old takes
  pub stuck : (state_of new).stuck ≡ (state_of old).stuck
  pub parked_same : parked_list (state_of new) ≡ parked_list (state_of old)
  pub others : (t ticket : ℕ) (outcome : Outcome) → Stands (state_of new) t (given ticket outcome)
      → Stands (state_of old) t (given ticket outcome) × AllByRecursion (λ m. t ≢ m.thread) cert.members

-- ---- blocks

-- the list without the events of the members
abbrev pub without_all : List Member → List Parked → List Parked
without_all [] kept = kept
without_all (m ∷ ms) kept = without_all ms (without m.thread kept)

-- each member's event is in the list that is left then
abbrev pub AreKept : List Member → List Parked → Type 0
AreKept [] kept = Unit {0}
AreKept (m ∷ ms) kept = HasThread kept m.thread × AreKept ms (without m.thread kept)

-- the group has committed by its lowest member
pub record AppendsCommit (old new : BoardLog) (cert : Cert) (outcomes : List Outcome) : Type 0 where
  pub by : ℕ
  pub lowest : IsLowestOf cert.members by
  pub grows : new ≡ grown old (entries.Commit by cert outcomes ∷ [])

-- a group has committed, and its members have taken
pub record HasCommittedBlock (old new : BoardLog) : Type 0 where
  pub block : List Entry
  pub is_block : IsBlock block
  pub grows : new ≡ grown old block
  pub running : IsRunning (state_of new)
  pub none : NoneGiven (state_of new)

-- groups have committed until none can
pub record HasCommittedAll (old new : BoardLog) : Type 0 where
  pub blocks : List (List Entry)
  pub are_blocks : AllByRecursion IsBlock blocks
  pub grows : new ≡ grown old (flat_map (λ block. block) blocks)
  pub running : IsRunning (state_of new)
  pub none : NoneGiven (state_of new)
  pub none_left : ¬ CanCommit (parked_list (state_of new))

-- ---- the end of a round

-- each parked caller has ended as stuck, in order, and all have ended
pub record HasEndedAll (old new : BoardLog) : Type 0 where
  pub ends : List Entry
  pub are_ends : EndsOf (parked_list (state_of old)) ends
  pub grows : new ≡ grown old ends
  pub whole : IsWhole new.callers new.entries

-- either all have ended, or another round can be run
abbrev pub RunGoesOn : BoardLog → Type 0
RunGoesOn board = IsWhole board.callers board.entries ⊎ IsRunning (state_of board) × NoneGiven (state_of board)

-- the board is stuck and all have ended where that is due, else nothing is done
pub record HasClosed (old new : BoardLog) : Type 0 where
  pub closing : List Entry
  pub closes : ClosesSo (state_of old) closing
  pub grows : new ≡ grown old closing
  pub whole_or_same : IsWhole new.callers new.entries ⊎ (new ≡ old)

-- one round has been run; where not all had ended it is no empty one
pub record HasRound (old new : BoardLog) : Type 0 where
  pub round : Round
  pub is_round : IsRound old.callers old.entries round
  pub grows : new ≡ grown old (entries_of round)
  pub longer : ¬ IsWhole old.callers old.entries → length old.entries < length new.entries

-- all have ended, or another round can be run over the kept list
abbrev pub AreReady : BoardLog → List Parked → Type 0
AreReady board kept = IsWhole board.callers board.entries ⊎ IsRunning (state_of board) × NoneGiven (state_of board) × IsKeptOf kept board

-- whole rounds have been run, up to the end
pub record HasRounds (old new : BoardLog) : Type 0 where
  pub rounds : List Round
  pub grows : new ≡ grown old (flat_map entries_of rounds)
  pub are_rounds : AreRounds old.callers old.entries rounds
