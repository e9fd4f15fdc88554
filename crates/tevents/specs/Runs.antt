-- What runs of a script leave, by the way in which its threads run. This project's own.
use Rattle.std.specs.Prelude.{◌≡◌, ◌≢◌, ◌⊎◌, ◌≤◌, ℕ, List, length, Any}
use Rattle.std.specs.List.{AllByRecursion}
use Rattle.te_script.specs.Scripts.{Program}
use Rattle.te_history.specs.declared.entry.Entry.{Entry}
use Rattle.te_history.specs.State.{state, parked_list}
use Rattle.te_history.specs.Follows.{IsLegal}
use Rattle.te_report.specs.Whole.{IsWhole}
use Rattle.te_report.specs.OfScript.{IsOfScript}
use Rattle.te_report.specs.Report.{second, IsReport}
use Rattle.te_report.specs.declared.ending.Ending.{Ending}
use Rattle.te_report.specs.declared.ending.Ending.TheVariants as endings
use Rattle.te_search.specs.Findings.{IsUsedUp}
use Rattle.te_serial.specs.Rounds.{IsInRounds}
use Rattle.te_serial.specs.Houses.{CommitsTightly, MayAppend}
use Rattle.te_serial.specs.Finishing.{LacksRoom}
use Rattle.te_runtime.specs.Households.{withdrawals_by}
use Rattle.tevents.specs.Repeats.{HasNoRepeats}
use Rattle.tevents.specs.StuckEnds.{IsStuckEnd}

-- all threads in serial rounds; or each in a thread of its own, and in rounds what those leave undone
pub data Way : Type 0 where
  in_rounds : Way
  in_threads : Way

-- what every run of a script's threads leaves: each commit is tight, and no caller has taken back two events
pub record IsRunOf (script : Program) (history : List Entry) : Type 0 where
  pub legal : IsLegal (length script.threads) history
  pub of_script : IsOfScript script history
  pub tight : AllByRecursion CommitsTightly history
  pub once : (t : ℕ) → withdrawals_by t history ≤ 1
  pub few : length history ≤ 200000

-- of a whole run in rounds the history is cut into rounds
abbrev pub GoesBy : Way → ℕ → List Entry → Type 0
GoesBy in_rounds callers history = IsInRounds callers history
GoesBy in_threads callers history = Unit {0}

-- a run in which every thread has ended
pub record IsWholeRun (way : Way) (script : Program) (history : List Entry) : Type 0 where
  pub run : IsRunOf script history
  pub whole : IsWhole (length script.threads) history
  pub goes : GoesBy way (length script.threads) history

-- a run in rounds has no withdrawal and no rest
abbrev pub StopsBy : Way → List Entry → Type 0
StopsBy in_rounds history = AllByRecursion MayAppend history
StopsBy in_threads history = Unit {0}

-- a run that stopped before all threads had ended
pub record IsStopped (way : Way) (script : Program) (history : List Entry) : Type 0 where
  pub run : IsRunOf script history
  pub stops : StopsBy way history

-- how a run ends by this budget: whole; for want of room for a post; or with a budget that is used up by the search of the list parked at its end
abbrev pub RunEndsSo : Way → ℕ → Program → List Entry → Ending → Type 0
RunEndsSo way budget script history endings.Closed = IsWholeRun way script history
RunEndsSo way budget script history endings.Full = IsStopped way script history × LacksRoom (record { callers = length script.threads; entries = history }) script.threads
RunEndsSo way budget script history (endings.Spent front paths groups) =
    IsStopped way script history × (front ≡ length history) × IsUsedUp (parked_list (state (length script.threads) history)) budget paths groups

-- 1 exactly where some thread ends stuck, else 0
abbrev pub IsStatusOf : List Entry → ℕ → Type 0
IsStatusOf history status = Any IsStuckEnd history × (status ≡ 1) ⊎ (¬ Any IsStuckEnd history) × (status ≡ 0)

-- the status that tells how a run ended
abbrev pub IsStatusAt : List Entry → Ending → ℕ → Type 0
IsStatusAt history endings.Closed status = IsStatusOf history status
IsStatusAt history endings.Full status = status ≡ 6
IsStatusAt history (endings.Spent front paths groups) status = status ≡ 7

-- the report of a run of the script by this budget, with its status; without a repeat there is room for every post
pub record IsRunReport (way : Way) (budget : ℕ) (script : Program) (written : List ℕ) (status : ℕ) : Type 0 where
  pub history : List Entry
  pub ending : Ending
  pub run : RunEndsSo way budget script history ending
  pub room : HasNoRepeats script → ending ≢ endings.Full
  pub report : IsReport second script history ending written
  pub status_is : IsStatusAt history ending status
