-- What a call of `tevents serial` or `tevents run` with status 0 or 1 has told. This project's own.
use Rattle.std.specs.Prelude.{ℕ, List}
use Rattle.te_script.specs.Scripts.{Program}
use Rattle.te_reader.specs.Text.{Text}
use Rattle.te_history.specs.declared.entry.Entry.{Entry}
use Rattle.te_report.specs.declared.ending.Ending.TheVariants as endings
use Rattle.te_report.specs.Report.{second, IsReport}
use Rattle.tevents.specs.declared.words.Mode.{Mode}
use Rattle.tevents.specs.declared.words.Mode.TheVariants as modes
use Rattle.tevents.specs.Runs.{Way, in_rounds, in_threads, IsWholeRun, IsStatusOf}

-- the mode that runs threads so
abbrev pub mode_of : Way → Mode
mode_of in_rounds = modes.Serial
mode_of in_threads = modes.Run

-- the bytes read are a script, and those written are the report of one whole run of it
pub record IsHeadline (way : Way) (read written : List ℕ) (status : ℕ) : Type 0 where
  pub script : Program
  pub history : List Entry
  pub text : Text read script
  pub run : IsWholeRun way script history
  pub report : IsReport second script history endings.Closed written
  pub status_of : IsStatusOf history status
