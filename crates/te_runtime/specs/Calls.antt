-- What a call of a runtime leaves of its caller's pass. This project's own.
use Rattle.std.specs.Prelude.{◌≡◌, ◌⊎◌, ℕ, ◌/◌, ◌%◌, ◌≤◌, false, All, List, [], ◌∷◌, ◌++◌, length}
use mathlib.Core.List.{IsPrefix}
use Rattle.te_lock.specs.Entries.{entries_by}
use Rattle.te_lock.specs.Lock.{Knowledge, IsSamePass}
use Rattle.te_history.specs.declared.entry.Entry.{Entry}
use Rattle.te_history.specs.Follows.{caller_of}
use Rattle.te_board.specs.Boards.{BoardLog, IsLawful}
use Rattle.te_runtime.specs.declared.fault.SyncFault.{SyncFault}
use Rattle.te_runtime.specs.declared.fault.SyncFault.TheVariants as faults

-- the board with the history that the pass has read
abbrev pub board_of : Knowledge Entry → BoardLog
board_of p = record { callers = p.lock.callers; entries = p.read }

-- the last word that was found is even: nobody had the turn
abbrev pub FoundFree : List ℕ → Type 0
FoundFree looks = (before : List ℕ) × (word : ℕ) × (looks ≡ before ++ word ∷ []) × (word % 2 ≡ 0)

-- words were found in this call, the last of them even, and what was read is no shorter than the history was at the first
pub record Looked (before after : List ℕ) (read : List Entry) : Type 0 where
  pub first : ℕ
  pub others : List ℕ
  pub grew : after ≡ before ++ first ∷ others
  pub reaches : first / 2 ≤ length read
  pub free : FoundFree after

-- the pass read on in this call, its caller appended exactly these entries, and it gave the turn back
pub record Called (before after : Knowledge Entry) (more : List Entry) : Type 0 where
  pub same : IsSamePass before after
  pub idle : after.has_turn ≡ false
  -- what was read goes on from all that was known, and is lawful
  pub begins : IsPrefix before.read after.read
  pub begins_known : All (λ list. IsPrefix list after.read) before.known
  pub reaches : before.front ≤ length after.read
  pub law : IsLawful after.lock.callers after.read
  pub looked : Looked before.looks after.looks after.read
  -- the caller's own entries are those that it has in what was read
  pub own : after.own ≡ before.own ++ more
  pub whole : entries_by caller_of after.caller after.read ≡ after.own
  pub front : after.front ≡ length after.read
  pub known : after.known ≡ before.known

-- another caller had the turn: this odd word was found, and nothing was read and nothing appended
pub record FoundHeld (before after : Knowledge Entry) (word : ℕ) : Type 0 where
  pub same : IsSamePass before after
  pub idle : after.has_turn ≡ false
  pub odd : word % 2 ≡ 1
  pub looks : after.looks ≡ before.looks ++ word ∷ []
  pub front : after.front ≡ word / 2
  pub reaches : before.front ≤ after.front
  pub read : after.read ≡ before.read
  pub law : IsLawful after.lock.callers after.read
  pub own : after.own ≡ before.own
  pub known : after.known ≡ before.known

-- the refusal that another caller has the turn
abbrev pub IsBusy : Knowledge Entry → Knowledge Entry → SyncFault → Type 0
IsBusy before after (faults.Busy word) = FoundHeld before after word
IsBusy before after _ = ⊥

-- a refusal at the one turn of a call: it was held by another, or what was read shows the cause, and nothing was appended
abbrev pub Refused : (BoardLog → ℕ → SyncFault → Type 0) → Knowledge Entry → Knowledge Entry → SyncFault → Type 0
Refused refuses before after (faults.Busy word) = FoundHeld before after word
Refused refuses before after fault = Called before after [] × refuses (board_of after) after.caller fault

-- the turn was held by another, at the first try or at the second
abbrev pub FoundHeldOnce : Knowledge Entry → Knowledge Entry → ℕ → Type 0
FoundHeldOnce before after word = FoundHeld before after word ⊎ ((between : Knowledge Entry) × Called before between [] × FoundHeld between after word)

-- a refusal at one of the two turns of a call, or between them
abbrev pub RefusedOnce : (BoardLog → SyncFault → Type 0) → Knowledge Entry → Knowledge Entry → SyncFault → Type 0
RefusedOnce refuses before after (faults.Busy word) = FoundHeldOnce before after word
RefusedOnce refuses before after fault = Called before after [] × refuses (board_of after) fault

-- a refusal of a call that waits for its turn: what was read shows the cause, and nothing was appended
abbrev pub RefusedAfterWait : (BoardLog → ℕ → SyncFault → Type 0) → Knowledge Entry → Knowledge Entry → SyncFault → Type 0
RefusedAfterWait refuses before after fault = Called before after [] × refuses (board_of after) after.caller fault
