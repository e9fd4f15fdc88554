-- What the inputs of `check` and `lift` have, in the words of scripts, reports and histories. This project's own.
use Rattle.std.specs.Prelude.{ℕ, List, length}
use Rattle.te_script.specs.Scripts.{Program}
use Rattle.te_reader.specs.Text.{Text}
use Rattle.te_history.specs.declared.entry.Entry.{Entry}
use Rattle.te_report.specs.declared.ending.Ending.{Ending}
use Rattle.te_report.specs.Report.{second, IsReport}
use Rattle.te_report.specs.Told.{IsReadAs}
use Rattle.tevents.specs.Parts.{AreParts}
use Rattle.tevents.specs.ReportLines.{legal_line}
use Rattle.tevents.specs.Checks.{IsLegalReport}

-- a text of a script, a rule, and the report of a whole legal run of the script
pub record HasLegalReport (read : List ℕ) : Type 0 where
  pub upper : List ℕ
  pub lower : List ℕ
  pub parts : AreParts read upper lower
  pub script : Program
  pub text : Text upper script
  pub history : List Entry
  pub legal : IsLegalReport script lower history

-- the same, and the line that tells how many entries there are
pub record IsCheckedInput (read : List ℕ) (Grew : List ℕ → Type 0) : Type 0 where
  pub input : HasLegalReport read
  pub written : Grew (legal_line (length input.history))

-- a text of a script, a rule, and a report of a loose history of the script
pub record HasReport (read : List ℕ) : Type 0 where
  pub upper : List ℕ
  pub lower : List ℕ
  pub parts : AreParts read upper lower
  pub script : Program
  pub text : Text upper script
  pub history : List Entry
  pub ending : Ending
  pub report : IsReadAs script history ending lower

-- the same, and the report in the second version of what was read
pub record IsLiftedInput (read : List ℕ) (Grew : List ℕ → Type 0) : Type 0 where
  pub input : HasReport read
  pub report : List ℕ
  pub lifted : IsReport second input.script input.history input.ending report
  pub written : Grew report
