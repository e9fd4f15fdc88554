-- Which need of an entry is the first that fails, as a refusal tells it. This project's own.
use Rattle.std.specs.Prelude.{◌≡◌, ◌≢◌, ℕ, ◌<◌, ◌≤◌, true, false, List, [], ◌∷◌, Some, Result, Ok, Err, slice_get}
use Rattle.std.specs.List.{AllByRecursion}
use Rattle.te_terms.specs.declared.event.Outcome.{Outcome}
use Rattle.te_terms.specs.Terms.{Term}
use Rattle.te_cert.specs.declared.cert.Member.{Member}
use Rattle.te_cert.specs.declared.cert.Cert.{Cert}
use Rattle.te_cert.specs.declared.cert.CertFault.{CertFault}
use Rattle.te_cert.specs.declared.cert.CertFault.TheVariants as unsound
use Rattle.te_cert.specs.Checks.{HasOrder, IsOutOfOrder, Gives, IsChecked}
use Rattle.te_history.specs.declared.entry.Entry.{Entry}
use Rattle.te_history.specs.declared.entry.Entry.TheVariants as entries
use Rattle.te_history.specs.declared.entry.StepFault.{StepFault}
use Rattle.te_history.specs.declared.entry.StepFault.TheVariants as faults
use Rattle.te_history.specs.declared.status.How.{How}
use Rattle.te_history.specs.declared.status.How.TheVariants as ways
use Rattle.te_history.specs.declared.status.Status.{Status}
use Rattle.te_history.specs.declared.status.Status.TheVariants as statuses
use Rattle.te_history.specs.State.{State, parked, posts_by}
use Rattle.te_history.specs.Follows.{IsRunning, Stands, IsParkedOrEnded, LooselyFollows, caller_of}
use Rattle.te_history.specs.Histories.{History, now, HasStatus}

-- ---- posts, withdrawals, takes, rests and ends

abbrev pub IsNotParked : Status → Type 0
IsNotParked status = (ticket : ℕ) → status ≢ statuses.Parked ticket

abbrev pub RefusesPost : State → ℕ → ℕ → ℕ → StepFault → Type 0
RefusesPost s posts by ticket (faults.Other status) = HasStatus s by status × (status ≢ statuses.Idle)
RefusesPost s posts by ticket (faults.Ticket needed) = HasStatus s by statuses.Idle × (needed ≡ posts) × (ticket ≢ needed)
RefusesPost s posts by ticket _ = ⊥

abbrev pub RefusesWithdraw : State → ℕ → ℕ → StepFault → Type 0
RefusesWithdraw s by ticket (faults.Other status) = HasStatus s by status × IsNotParked status
RefusesWithdraw s by ticket (faults.Ticket needed) = HasStatus s by (statuses.Parked needed) × (ticket ≢ needed)
RefusesWithdraw s by ticket _ = ⊥

abbrev pub RefusesTake : State → ℕ → ℕ → Outcome → StepFault → Type 0
RefusesTake s by ticket outcome (faults.Other status) = HasStatus s by status × ((under : ℕ) (due : Outcome) → status ≢ statuses.Given under due)
RefusesTake s by ticket outcome (faults.Ticket needed) = ((due : Outcome) × HasStatus s by (statuses.Given needed due)) × (ticket ≢ needed)
RefusesTake s by ticket outcome (faults.Result i) = (i ≡ 0) × ((due : Outcome) × HasStatus s by (statuses.Given ticket due) × (outcome ≢ due))
RefusesTake s by ticket outcome _ = ⊥

abbrev pub RefusesRest : State → StepFault → Type 0
RefusesRest s faults.Resting = s.resting ≡ true
RefusesRest s _ = ⊥

abbrev pub RefusesEnd : State → ℕ → How → StepFault → Type 0
RefusesEnd s by ways.Stuck faults.How = s.stuck ≡ false
RefusesEnd s by ways.Stuck (faults.Other status) = (s.stuck ≡ true) × HasStatus s by status × IsNotParked status
RefusesEnd s by (ways.Done values) faults.How = s.stuck ≡ true
RefusesEnd s by (ways.Done values) (faults.Other status) = IsRunning s × HasStatus s by status × (status ≢ statuses.Idle)
RefusesEnd s by (ways.Raised value) faults.How = s.stuck ≡ true
RefusesEnd s by (ways.Raised value) (faults.Other status) = IsRunning s × HasStatus s by status × (status ≢ statuses.Idle)
RefusesEnd s by how _ = ⊥

-- ---- declaring that a board is stuck

-- the lowest caller that is neither parked nor ended
pub record IsFirstLive (s : State) (t : ℕ) (status : Status) : Type 0 where
  pub stands : HasStatus s t status
  pub not_parked : IsNotParked status
  pub not_ended : status ≢ statuses.Ended
  pub before : (k : ℕ) (standing : _) → k < t → Stands s k standing → IsParkedOrEnded standing

abbrev pub RefusesStuck : State → ℕ → StepFault → Type 0
RefusesStuck s by (faults.Live t status) = IsFirstLive s t status
RefusesStuck s by (faults.Other status) = AllByRecursion IsParkedOrEnded s.callers × HasStatus s by status × IsNotParked status
RefusesStuck s by _ = ⊥

-- ---- commits

-- all members are callers
abbrev pub AreCallers : ℕ → List Member → Type 0
AreCallers callers members = (k : ℕ) (m : Member) → slice_get members k ≡ Some m → m.thread < callers

pub record IsFirstStranger (callers : ℕ) (members : List Member) (i : ℕ) : Type 0 where
  pub member : Member
  pub is_there : slice_get members i ≡ Some member
  pub stranger : callers ≤ member.thread
  pub before : (k : ℕ) (m : Member) → k < i → slice_get members k ≡ Some m → m.thread < callers

-- the first member that isn't parked under its ticket
pub record IsFirstStale (s : State) (members : List Member) (i : ℕ) (status : Status) : Type 0 where
  pub member : Member
  pub is_there : slice_get members i ≡ Some member
  pub stands : HasStatus s member.thread status
  pub stale : status ≢ statuses.Parked member.ticket
  pub before : (k : ℕ) (m : Member) → k < i → slice_get members k ≡ Some m → HasStatus s m.thread (statuses.Parked m.ticket)

-- all members are parked under their tickets
abbrev pub AreAllParked : State → List Member → Type 0
AreAllParked s members = (k : ℕ) (m : Member) → slice_get members k ≡ Some m → HasStatus s m.thread (statuses.Parked m.ticket)

-- the events that the members are parked with under their tickets
abbrev pub AreParked : State → List Member → List Term → Type 0
AreParked s [] [] = Unit {0}
AreParked s (m ∷ ms) (e ∷ es) = Stands s m.thread (parked m.ticket e) × AreParked s ms es
AreParked s _ _ = ⊥

-- the first place at which two lists of outcomes differ, or at which only one of them goes on
pub record IsFirstOther (outcomes played : List Outcome) (i : ℕ) : Type 0 where
  pub other : slice_get outcomes i ≢ slice_get played i
  pub before : (k : ℕ) → k < i → slice_get outcomes k ≡ slice_get played k

-- there is no member, or their threads don't rise
abbrev pub IsUnordered : List Member → StepFault → Type 0
IsUnordered members (faults.Unsound fault) = IsOutOfOrder members fault
IsUnordered members _ = ⊥

-- what a refused check tells; its want of memory is no fault of the certificate
abbrev pub IsUnsound : CertFault → StepFault → Type 0
IsUnsound unsound.Memory fault = fault ≡ faults.Memory
IsUnsound found fault = fault ≡ faults.Unsound found

-- the members are in order, callers, and parked under their tickets
pub record CanPlay (callers : ℕ) (s : State) (cert : Cert) : Type 0 where
  pub order : HasOrder cert
  pub callers_all : AreCallers callers cert.members
  pub parked_all : AreAllParked s cert.members

-- the play of the events that the members are parked with gives these outcomes
pub record IsPlayed (s : State) (cert : Cert) (outcomes : List Outcome) : Type 0 where
  pub order : HasOrder cert
  pub events : List Term
  pub parked_all : AreParked s cert.members events
  pub gives : Gives cert events outcomes

-- the first of these that fails
abbrev pub RefusesMembers : ℕ → State → Cert → StepFault → Type 0
RefusesMembers callers s cert (faults.Unsound fault) = IsOutOfOrder cert.members fault
RefusesMembers callers s cert (faults.Stranger i) = HasOrder cert × IsFirstStranger callers cert.members i
RefusesMembers callers s cert (faults.Stale i status) = HasOrder cert × AreCallers callers cert.members × IsFirstStale s cert.members i status
RefusesMembers callers s cert _ = ⊥

-- the play of the members, or the want of memory for it once they can play
abbrev pub RefusesPlay : ℕ → State → Cert → StepFault → Type 0
RefusesPlay callers s cert (faults.Unsound unsound.Empty) = IsOutOfOrder cert.members unsound.Empty
RefusesPlay callers s cert (faults.Unsound unsound.Order) = IsOutOfOrder cert.members unsound.Order
RefusesPlay callers s cert (faults.Unsound unsound.Memory) = ⊥
RefusesPlay callers s cert (faults.Unsound fault) = (events : List Term) × AreParked s cert.members events × IsChecked cert events (Err fault)
RefusesPlay callers s cert faults.Memory = CanPlay callers s cert
RefusesPlay callers s cert fault = RefusesMembers callers s cert fault

abbrev pub RefusesCommit : ℕ → State → Cert → List Outcome → StepFault → Type 0
RefusesCommit callers s cert outcomes (faults.Result i) =
    HasOrder cert × ((events : List Term) × (played : List Outcome) × AreParked s cert.members events × Gives cert events played × IsFirstOther outcomes
    played i)
RefusesCommit callers s cert outcomes fault = RefusesPlay callers s cert fault

-- ---- all entries

-- a stuck board is open for ends alone
abbrev pub IsEndEntry : Entry → Type 0
IsEndEntry (entries.End by how) = Unit {0}
IsEndEntry _ = ⊥

abbrev pub IsOpenFor : State → Entry → Type 0
IsOpenFor s (entries.End by how) = Unit {0}
IsOpenFor s _ = IsRunning s

-- the needs of an entry by a caller on an open board
abbrev pub RefusesEntry : History → Entry → StepFault → Type 0
RefusesEntry h (entries.Post by ticket event) fault = RefusesPost (now h) (posts_by by h.entries) by ticket fault
RefusesEntry h (entries.Commit by cert outcomes) fault = RefusesCommit h.callers (now h) cert outcomes fault
RefusesEntry h (entries.Withdraw by ticket) fault = RefusesWithdraw (now h) by ticket fault
RefusesEntry h (entries.Take by ticket outcome) fault = RefusesTake (now h) by ticket outcome fault
RefusesEntry h (entries.Rest by) fault = RefusesRest (now h) fault
RefusesEntry h (entries.Stuck by) fault = RefusesStuck (now h) by fault
RefusesEntry h (entries.End by how) fault = RefusesEnd (now h) by how fault

-- the first need that fails; want of memory, which tells of none, comes of a commit alone whose members can play
abbrev pub IsRefused : History → Entry → StepFault → Type 0
IsRefused h e faults.Caller = h.callers ≤ caller_of e
IsRefused h e faults.Closed = (caller_of e < h.callers) × ((now h).stuck ≡ true) × (¬ IsEndEntry e)
IsRefused h e fault = (caller_of e < h.callers) × IsOpenFor (now h) e × RefusesEntry h e fault

-- what may be answered of an entry: that it follows, or a refusal
abbrev pub IsAnswered : History → Entry → Result (Unit {0}) StepFault → Type 0
IsAnswered h e (Ok done) = LooselyFollows h.callers h.entries e
IsAnswered h e (Err fault) = IsRefused h e fault
