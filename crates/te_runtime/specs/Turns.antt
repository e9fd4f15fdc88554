-- What is between a turn that was taken and the same turn given back. No public clause cites this module.
use Rattle.std.specs.Prelude.{◌≡◌, ℕ, ◌≤◌, true, false, All, List, ◌++◌, length}
use mathlib.Core.List.{IsPrefix}
use Rattle.te_lock.specs.Entries as lists
use Rattle.te_lock.specs.Entries.{entries_by}
use Rattle.te_lock.specs.Lock.{Knowledge, IsSamePass}
use Rattle.te_history.specs.declared.entry.Entry.{Entry}
use Rattle.te_history.specs.Follows.{caller_of}
use Rattle.te_board.specs.Boards.{BoardLog, IsLawful}
use Rattle.te_runtime.specs.Calls.{Looked}

-- the pass has the turn, and the board has the history that it has now read
pub record Entered (before after : Knowledge Entry) (b : BoardLog) : Type 0 where
  pub same : IsSamePass before after
  pub turn : after.has_turn ≡ true
  pub callers : b.callers ≡ after.lock.callers
  pub list : b.entries ≡ after.read
  pub begins : IsPrefix before.read after.read
  pub begins_known : All (λ list. IsPrefix list after.read) before.known
  pub reaches : before.front ≤ length after.read
  pub law : IsLawful after.lock.callers after.read
  pub looked : Looked before.looks after.looks after.read
  pub own : after.own ≡ before.own
  pub whole : entries_by caller_of after.caller after.read ≡ after.own
  pub front : after.front ≡ length after.read
  pub known : after.known ≡ before.known

-- the board has entries of this caller more, if any
pub record GrowsBy (by : ℕ) (before after : BoardLog) : Type 0 where
  pub callers : after.callers ≡ before.callers
  pub goes_on : lists.GoesOnBy caller_of by before.entries after.entries

-- a board that goes on from what the pass has read, with entries of its caller
pub record TurnGoesOn (p : Knowledge Entry) (b : BoardLog) : Type 0 where
  pub callers : b.callers ≡ p.lock.callers
  pub goes_on : lists.GoesOnBy caller_of p.caller p.read b.entries

-- the turn was given back, with a board of this history
pub record Left (before after : Knowledge Entry) (list : List Entry) : Type 0 where
  pub same : IsSamePass before after
  pub idle : after.has_turn ≡ false
  pub read : after.read ≡ list
  pub law : IsLawful after.lock.callers after.read
  pub own : (more : List Entry) → list ≡ before.read ++ more → after.own ≡ before.own ++ more
  pub front : after.front ≡ length after.read
  pub looks : after.looks ≡ before.looks
  pub known : after.known ≡ before.known
