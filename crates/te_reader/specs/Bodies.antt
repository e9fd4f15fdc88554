-- What calls that read the statements of a thread answer. Contracts inside this crate cite it.
use Rattle.std.specs.Prelude.{◌≡◌, ℕ, ◌+◌, ◌-◌, ◌<◌, ◌≤◌, true, false, List, ◌++◌, length, map, None, Result, Ok, Err}
use Rattle.te_script.specs.declared.script.Stmt.{Stmt}
use Rattle.te_script.specs.Scripts.{Statement}
use Rattle.te_script.specs.Texts.{statement_of}
use Rattle.te_script.specs.Limits.{most_statements}
use Rattle.te_reader.specs.declared.refusal.Refusal.{Refusal}
use Rattle.te_reader.specs.declared.refusal.Refusal.TheVariants as faults
use Rattle.te_reader.specs.Tokens.{Token}
use Rattle.te_reader.specs.NameReads.{◌>>=◌, Read}
use Rattle.te_reader.specs.Reads.{Body, read_times, read_changed, before_repeat, read_body, more_body}
use Rattle.te_reader.specs.Behind.{behind_body, behind_repeat}

-- a fact of what was read, or nothing is read there
abbrev pub OnRead : {R Y : Type 0} → Result R Refusal → (R → Type 0) → Read Y → Type 0
OnRead (Ok r) fact o = fact r
OnRead (Err faults.Refused) fact o = o ≡ None
OnRead (Err faults.Memory) fact o = Unit {0}

-- these are all syncs of a repeat, and what is read behind them has the room that is left
pub record AreRead (room : ℕ) (channels : List (List ℕ)) (syncs : List Stmt) (registers : List (List ℕ)) (ts : List Token) (o : Read Body) : Type 0 where
  pub within : length syncs ≤ room
  pub read : o ≡ behind_repeat (map statement_of syncs) (read_body (room - length syncs) channels false registers ts)

-- statements were appended, and more is read behind them
pub record AreAppended (channels : List (List ℕ)) (old new : List Stmt) (registers : List (List ℕ)) (ts : List Token) (o : Read Body) : Type 0 where
  pub within : length new ≤ most_statements
  pub more : length old < length new
  pub added : List Statement
  pub appended : map statement_of new ≡ map statement_of old ++ added
  pub read : o ≡ behind_body added (read_body (most_statements - length new) channels false registers ts)

-- a repeat behind its word, behind so many other statements
abbrev pub repeat_behind : ℕ → List (List ℕ) → List (List ℕ) → List Token → Read Body
repeat_behind before channels registers ts = read_times ts >>= λ h. read_changed (before_repeat h.0) (read_body (most_statements - (before + 1)) channels true registers h.1)

-- one statement, or a repeat with its syncs, behind so many others
abbrev pub more_behind : ℕ → List (List ℕ) → List (List ℕ) → List Token → Read Body
more_behind before channels registers ts = more_body (read_body (most_statements - (before + 1)) channels) channels registers ts
