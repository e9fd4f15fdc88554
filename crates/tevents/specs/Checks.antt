-- What is told of a script and of the bytes that should be its report. This project's own.
use Rattle.std.specs.Prelude.{◌≡◌, ◌≢◌, ◌⊎◌, ℕ, ◌+◌, List, length}
use Rattle.te_terms.specs.declared.event.Parked.{Parked}
use Rattle.te_terms.specs.Joint.{CanCommit}
use Rattle.te_script.specs.Scripts.{Program}
use Rattle.te_history.specs.declared.entry.Entry.{Entry}
use Rattle.te_history.specs.Follows.{IsLegal}
use Rattle.te_report.specs.declared.ending.Ending.{Ending}
use Rattle.te_report.specs.declared.ending.Ending.TheVariants as endings
use Rattle.te_report.specs.declared.fault.ReportFault.{ReportFault}
use Rattle.te_report.specs.declared.fault.ReportFault.TheVariants as faults
use Rattle.te_report.specs.Report.{second, IsReport}
use Rattle.te_report.specs.Told.{IsReadAs, IsRefusedFor}
use Rattle.te_report.specs.Declarations.{IsDeclared}
use Rattle.te_search.specs.Findings.{IsUsedUp}
use Rattle.tevents.specs.ReportLines.{report_line, report_fault_line, legal_line, undecided_line}

-- the report, which ends with closed, of a whole legal history of the script
pub record IsLegalReport (script : Program) (report : List ℕ) (history : List Entry) : Type 0 where
  pub read : IsReadAs script history endings.Closed report
  pub legal : IsLegal (length script.threads) history

-- the bytes read so, and not otherwise
pub record IsOnlyReading (script : Program) (report : List ℕ) (history : List Entry) (ending : Ending) : Type 0 where
  pub read : IsReadAs script history ending report
  pub once : (other : List Entry) (end : Ending) → IsReadAs script other end report → (other ≡ history) × (end ≡ ending)

-- ---- what `check` tells

pub record IsFoundLegal (script : Program) (report written : List ℕ) (status : ℕ) : Type 0 where
  pub history : List Entry
  pub legal : IsLegalReport script report history
  pub line : written ≡ legal_line (length history)
  pub status_is : status ≡ 0

-- the report is that of a history in which nothing but the declaration is open, and the search of the list that was declared has used up its budget
pub record IsUndecided (budget : ℕ) (script : Program) (report written : List ℕ) (status : ℕ) : Type 0 where
  pub history : List Entry
  pub read : IsReadAs script history endings.Closed report
  pub before : ℕ
  pub parked : List Parked
  pub declared : IsDeclared (length script.threads) history before parked
  pub paths : ℕ
  pub groups : ℕ
  pub used_up : IsUsedUp parked budget paths groups
  pub line : written ≡ undecided_line (before + 2) before paths groups
  pub status_is : status ≡ 7

-- the bytes are refused
pub record IsRefusedReport (script : Program) (report written : List ℕ) : Type 0 where
  pub fault : ReportFault
  pub named : fault ≢ faults.Memory
  pub because : IsRefusedFor script report fault
  pub line : written ≡ report_fault_line fault

-- the report ends otherwise: a fault of its last line
pub record EndsOtherwise (script : Program) (report written : List ℕ) : Type 0 where
  pub history : List Entry
  pub ending : Ending
  pub read : IsReadAs script history ending report
  pub otherwise : ending ≢ endings.Closed
  pub line : written ≡ report_line 4 (length history + 2)

-- what was declared stuck can commit: the entry doesn't follow
pub record CanStillCommit (script : Program) (report written : List ℕ) : Type 0 where
  pub history : List Entry
  pub read : IsReadAs script history endings.Closed report
  pub before : ℕ
  pub parked : List Parked
  pub declared : IsDeclared (length script.threads) history before parked
  pub commits : CanCommit parked
  pub line : written ≡ report_line 3 (before + 2)

-- the bytes are no report of a whole legal history of the script
pub record IsFoundFaulty (script : Program) (report written : List ℕ) (status : ℕ) : Type 0 where
  pub none : (history : List Entry) → ¬ IsLegalReport script report history
  pub because : IsRefusedReport script report written ⊎ (EndsOtherwise script report written ⊎ CanStillCommit script report written)
  pub status_is : status ≡ 8

abbrev pub IsDecided : ℕ → Program → List ℕ → List ℕ → ℕ → Type 0
IsDecided budget script report written status =
    IsFoundLegal script report written status ⊎ (IsUndecided budget script report written status ⊎ IsFoundFaulty script report written status)

-- ---- what `lift` tells

-- the report in the second version of what was read
pub record IsLiftedReport (script : Program) (report written : List ℕ) (status : ℕ) : Type 0 where
  pub history : List Entry
  pub ending : Ending
  pub read : IsReadAs script history ending report
  pub lifted : IsReport second script history ending written
  pub status_is : status ≡ 0

-- the bytes are refused, so they are no report of a loose history of the script
pub record IsUnreadable (script : Program) (report written : List ℕ) (status : ℕ) : Type 0 where
  pub none : (history : List Entry) (ending : Ending) → ¬ IsReadAs script history ending report
  pub refused : IsRefusedReport script report written
  pub status_is : status ≡ 8

abbrev pub IsLifted : Program → List ℕ → List ℕ → ℕ → Type 0
IsLifted script report written status = IsLiftedReport script report written status ⊎ IsUnreadable script report written status
