-- When a call of this program answers which status, and what it may have written. This project's own.
use Rattle.std.specs.Prelude.{◌≡◌, ◌⊎◌, ℕ, List, []}
use Rattle.te_script.specs.Scripts.{Program}
use Rattle.te_reader.specs.Text.{Text}
use Rattle.te_reader.specs.Canonical.{canonical_text}
use Rattle.te_reader.specs.declared.fault.ScriptFault.{ScriptFault}
use Rattle.te_reader.specs.Places.{HasFault}
use Rattle.te_search.specs.Findings.{IsBudget}
use Rattle.tevents.specs.declared.task.Task.{Task}
use Rattle.tevents.specs.declared.task.Task.TheVariants as tasks
use Rattle.tevents.specs.declared.words.Words.{Words}
use Rattle.tevents.specs.declared.words.Mode.{Mode}
use Rattle.tevents.specs.declared.words.Mode.TheVariants as modes
use Rattle.tevents.specs.Summaries.{IsSummary}
use Rattle.tevents.specs.FaultLines.{fault_line}
use Rattle.tevents.specs.Runs.{Way, in_rounds, in_threads, IsRunReport}
use Rattle.tevents.specs.Parts.{AreParts}
use Rattle.tevents.specs.Checks.{IsDecided, IsLifted}

-- ---- statuses

-- the run was done, and its report written
abbrev pub IsDone : ℕ → Type 0
IsDone status = (status ≡ 0) ⊎ (status ≡ 1)

-- the run stopped, and the report of what it did was written
abbrev pub HasStopped : ℕ → Type 0
HasStopped status = (status ≡ 6) ⊎ (status ≡ 7)

-- the bytes are faulty, and the line of the fault was written
abbrev pub IsFaulty : ℕ → Type 0
IsFaulty status = (status ≡ 5) ⊎ (status ≡ 8)

-- what was to be written is written
abbrev pub IsTold : ℕ → Type 0
IsTold status = IsDone status ⊎ (IsFaulty status ⊎ HasStopped status)

-- the source holds nothing any more
abbrev pub IsReadWhole : ℕ → Type 0
IsReadWhole status = IsDone status ⊎ HasStopped status

-- nothing was written
abbrev pub IsSilent : ℕ → Type 0
IsSilent status = (status ≡ 2) ⊎ ((status ≡ 3) ⊎ (status ≡ 9))

-- a status of this program: a text is written, nothing is, or the sink failed
abbrev pub IsStatus : ℕ → Type 0
IsStatus status = IsTold status ⊎ (IsSilent status ⊎ (status ≡ 4))

-- ---- answers

-- the bytes are a text of a script
abbrev pub IsScriptText : List ℕ → Type 0
IsScriptText read = (script : Program) × Text read script

-- the bytes are no text of a script, and the line tells their fault
pub record ReportsFault (read written : List ℕ) (status : ℕ) : Type 0 where
  pub no_script : ¬ IsScriptText read
  pub fault : ScriptFault
  pub stands : HasFault read fault
  pub line : written ≡ fault_line fault
  pub status_is : status ≡ 5

-- the bytes are a text of a script, and this is what is told of it
pub record IsOf (Tells : Program → List ℕ → ℕ → Type 0) (read written : List ℕ) (status : ℕ) : Type 0 where
  pub script : Program
  pub text : Text read script
  pub told : Tells script written status

-- the canonical text of a script
abbrev pub IsPrinted : Program → List ℕ → ℕ → Type 0
IsPrinted script written status = (written ≡ canonical_text script) × (status ≡ 0)

-- the budget of a task is in range
abbrev pub IsTask : Task → Type 0
IsTask (tasks.Run budget) = IsBudget budget
IsTask tasks.Print = Unit {0}
IsTask (tasks.Check budget) = IsBudget budget
IsTask tasks.Lift = Unit {0}

-- the most bytes that a task reads: of a script; or of a script, a rule and a report
abbrev pub most_of : Task → ℕ
most_of (tasks.Run budget) = 1048576
most_of tasks.Print = 1048576
most_of (tasks.Check budget) = 68157444
most_of tasks.Lift = 68157444

-- the part of the bytes that should be a text of a script, and that which should be its report, where the task wants one
abbrev pub PartsFor : Task → List ℕ → List ℕ → List ℕ → Type 0
PartsFor (tasks.Run budget) read upper lower = (read ≡ upper) × (lower ≡ [])
PartsFor tasks.Print read upper lower = (read ≡ upper) × (lower ≡ [])
PartsFor (tasks.Check budget) read upper lower = AreParts read upper lower
PartsFor tasks.Lift read upper lower = AreParts read upper lower

-- what a task tells of a script, whose threads it runs this way if any, and of the bytes that should be its report
abbrev pub Tells : Way → Task → List ℕ → Program → List ℕ → ℕ → Type 0
Tells way (tasks.Run budget) lower = IsRunReport way budget
Tells way tasks.Print lower = IsPrinted
Tells way (tasks.Check budget) lower = λ script. IsDecided budget script lower
Tells way tasks.Lift lower = λ script. IsLifted script lower

-- what a task tells of these parts
abbrev pub AnswersParts : Way → Task → List ℕ → List ℕ → List ℕ → ℕ → Type 0
AnswersParts way task upper lower written status = IsOf (Tells way task lower) upper written status ⊎ ReportsFault upper written status

-- a text that a task may write at these bytes, and the status that it then has
pub record IsAnswer (way : Way) (task : Task) (read written : List ℕ) (status : ℕ) : Type 0 where
  pub upper : List ℕ
  pub lower : List ℕ
  pub parts : PartsFor task read upper lower
  pub told : AnswersParts way task upper lower written status

abbrev pub IsSerialAnswer : ℕ → List ℕ → List ℕ → ℕ → Type 0
IsSerialAnswer budget = IsAnswer in_rounds (tasks.Run budget)

abbrev pub IsRunAnswer : ℕ → List ℕ → List ℕ → ℕ → Type 0
IsRunAnswer budget = IsAnswer in_threads (tasks.Run budget)

abbrev pub IsPrintAnswer : List ℕ → List ℕ → ℕ → Type 0
IsPrintAnswer = IsAnswer in_rounds tasks.Print

abbrev pub IsCheckAnswer : ℕ → List ℕ → List ℕ → ℕ → Type 0
IsCheckAnswer budget = IsAnswer in_rounds (tasks.Check budget)

abbrev pub IsLiftAnswer : List ℕ → List ℕ → ℕ → Type 0
IsLiftAnswer = IsAnswer in_rounds tasks.Lift

-- what a call writes by what its words say
abbrev pub AnswersIn : Mode → ℕ → ℕ → List ℕ → List ℕ → ℕ → Type 0
AnswersIn modes.Serial budget number read written status = IsSerialAnswer budget read written status
AnswersIn modes.Run budget number read written status = IsRunAnswer budget read written status
AnswersIn modes.Print budget number read written status = IsPrintAnswer read written status
AnswersIn modes.Check budget number read written status = IsCheckAnswer budget read written status
AnswersIn modes.Lift budget number read written status = IsLiftAnswer read written status
AnswersIn modes.Gen budget number read written status = IsSummary number budget written status

abbrev pub Answers : Words → List ℕ → List ℕ → ℕ → Type 0
Answers w = AnswersIn w.mode w.budget w.number
