-- A board with the cores of its callers, and what may be done with them. This project's own.
use Rattle.std.specs.Prelude.{◌≡◌, ℕ, List, [], ◌++◌, length, map, Some, slice_get}
use Rattle.std.specs.List.{AllByRecursion}
use Rattle.te_cert.specs.Certs.{IsTight}
use Rattle.te_script.specs.Scripts.{Thread}
use Rattle.te_script.specs.Cores.{At, core_after}
use Rattle.te_history.specs.declared.entry.Entry.{Entry}
use Rattle.te_history.specs.declared.entry.Entry.TheVariants as entries
use Rattle.te_board.specs.Boards.{BoardLog}
use Rattle.te_report.specs.OfScript.{taken, WishedFrom}

-- the texts of cores
abbrev pub texts_of : List At → List Thread
texts_of cores = map (λ c. c.thread) cores

-- one core a caller, each where the outcomes that its thread has taken leave it, and the history is of the cores' texts
pub record IsHouse (board : BoardLog) (cores : List At) : Type 0 where
  pub callers : length cores ≡ board.callers
  pub stand : (t : ℕ) (core : At) → slice_get cores t ≡ Some core → core ≡ core_after core.thread (taken t board.entries)
  pub of_texts : WishedFrom (texts_of cores) [] board.entries

-- each core stands at its thread's start
abbrev pub AreFresh : List At → Type 0
AreFresh cores = AllByRecursion (λ c. c ≡ core_after c.thread []) cores

-- the board with these entries more
abbrev pub grown : BoardLog → List Entry → BoardLog
grown board es = record board { entries = board.entries ++ es }

-- the certificate of each commit is tight
abbrev pub CommitsTightly : Entry → Type 0
CommitsTightly (entries.Commit by cert outcomes) = IsTight cert
CommitsTightly _ = Unit {0}

-- no withdrawal, no rest, and no commit but a tight one
abbrev pub MayAppend : Entry → Type 0
MayAppend (entries.Withdraw by ticket) = ⊥
MayAppend (entries.Rest by) = ⊥
MayAppend e = CommitsTightly e

-- such entries were appended, each core has its old text, and board and cores are a house again
pub record Continues (old : BoardLog) (cores : List At) (new : BoardLog) (after : List At) : Type 0 where
  pub entries : List Entry
  pub grows : new ≡ grown old entries
  pub each : AllByRecursion MayAppend entries
  pub texts : texts_of after ≡ texts_of cores
  pub house : IsHouse new after
