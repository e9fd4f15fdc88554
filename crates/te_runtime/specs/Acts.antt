-- What a caller does to the board while it has the turn. No public clause cites this module.
use Rattle.std.specs.Prelude.{◌≡◌, ◌≢◌, ℕ, List, [], length}
use Rattle.te_terms.specs.declared.event.Outcome.{Outcome}
use Rattle.te_terms.specs.declared.event.Parked.{Parked}
use Rattle.te_terms.specs.Joint.{CanCommit}
use Rattle.te_cert.specs.Certificates.{Certificate}
use Rattle.te_lock.specs.Lock.{Knowledge}
use Rattle.te_history.specs.declared.entry.Entry.{Entry}
use Rattle.te_history.specs.declared.entry.Entry.TheVariants as entries
use Rattle.te_history.specs.State.{parked_list}
use Rattle.te_board.specs.declared.snapshot.Snapshot.{Snapshot}
use Rattle.te_board.specs.Boards.{BoardLog, Appends, state_of}
use Rattle.te_search.specs.declared.finding.Found.{Found}
use Rattle.te_search.specs.declared.finding.Found.TheVariants as found
use Rattle.te_search.specs.declared.finding.SearchFault.{SearchFault}
use Rattle.te_search.specs.declared.finding.SearchFault.TheVariants as search
use Rattle.te_search.specs.Findings.{IsGroupOf, IsUsedUp}
use Rattle.te_runtime.specs.declared.answers.Polled.{Polled}
use Rattle.te_runtime.specs.declared.answers.Polled.TheVariants as polled
use Rattle.te_runtime.specs.declared.answers.Driven.{Driven}
use Rattle.te_runtime.specs.declared.answers.Driven.TheVariants as driven
use Rattle.te_runtime.specs.Calls.{Called, board_of}
use Rattle.te_runtime.specs.Answers.{CallerWaits, IsTightCommit, MayNotDeclare, IsDriven}

-- ---- a poll

abbrev pub Polls : BoardLog → BoardLog → ℕ → Polled → Type 0
Polls before after by (polled.Ready outcome) = (ticket : ℕ) × Appends before after (entries.Take by ticket outcome)
Polls before after by (polled.Waiting front) = (after ≡ before) × (front ≡ length before.entries) × CallerWaits (state_of before) by

-- ---- a search

-- the certificate is that of a group of the list
abbrev pub IsGroupIn : List Parked → Certificate → Type 0
IsGroupIn parked cert = (outcomes : List Outcome) × IsGroupOf parked cert outcomes

abbrev pub IsFoundIn : List Parked → Found → Type 0
IsFoundIn parked (found.Group cert) = IsGroupIn parked cert
IsFoundIn parked found.Blocked = ¬ CanCommit parked

abbrev pub IsUnfound : List Parked → ℕ → SearchFault → Type 0
IsUnfound parked budget (search.Spent paths groups) = IsUsedUp parked budget paths groups
IsUnfound parked budget search.Memory = Unit {0}

-- ---- what is done with what was found

-- the list that was searched isn't parked any more
pub record IsOther (before after : BoardLog) (searched : Snapshot) (from front : ℕ) : Type 0 where
  pub same : after ≡ before
  pub from_is : from ≡ searched.front
  pub front_is : front ≡ length before.entries
  pub differ : searched.parked ≢ parked_list (state_of before)

-- the parked list can't commit, and the caller may not declare the board stuck
pub record IsHeldUp (before after : BoardLog) (by front : ℕ) : Type 0 where
  pub same : after ≡ before
  pub front_is : front ≡ length before.entries
  pub cannot : ¬ CanCommit (parked_list (state_of before))
  pub may_not : MayNotDeclare (state_of before) by

abbrev pub Drives : BoardLog → BoardLog → ℕ → Snapshot → Driven → Type 0
Drives before after by searched (driven.Committed front) = (front ≡ length after.entries) × ((e : Entry) × IsTightCommit by e × Appends before after e)
Drives before after by searched (driven.Moved from front) = IsOther before after searched from front
Drives before after by searched (driven.Blocked front) = IsHeldUp before after by front
Drives before after by searched driven.Stuck = Appends before after (entries.Stuck by)

-- ---- the two turns of a drive

-- the length of the history that the pass has read, and the list that is parked at its end
pub record IsSnapshotOf (p : Knowledge Entry) (seen : Snapshot) : Type 0 where
  pub front : seen.front ≡ length p.read
  pub parked : seen.parked ≡ parked_list (state_of (board_of p))

-- what the second turn answers, where the list at the end of what the pass had read by then was searched
pub record HasChanged (between after : Knowledge Entry) (from front : ℕ) : Type 0 where
  pub called : Called between after []
  pub from_is : from ≡ length between.read
  pub front_is : front ≡ length after.read
  pub differ : parked_list (state_of (board_of between)) ≢ parked_list (state_of (board_of after))

abbrev pub IsActed : Knowledge Entry → Knowledge Entry → Driven → Type 0
IsActed between after (driven.Moved from front) = HasChanged between after from front
IsActed between after other = IsDriven between after other
