-- What `tevents gen` writes: how many entries of each kind a run of a generated script has, or that its budget was used up. This project's own.
use Rattle.std.specs.Prelude.{◌≡◌, ℕ, suc, List, [], ◌∷◌, ◌++◌, length, codes}
use Rattle.std.specs.Fmt.{decimal}
use Rattle.te_script.specs.Generated.{generated}
use Rattle.te_history.specs.declared.entry.Entry.{Entry}
use Rattle.te_history.specs.declared.entry.Entry.TheVariants as entries
use Rattle.te_report.specs.declared.ending.Ending.{Ending}
use Rattle.te_report.specs.declared.ending.Ending.TheVariants as endings
use Rattle.tevents.specs.Runs.{in_rounds, RunEndsSo}

abbrev pub posts_in : List Entry → ℕ
posts_in [] = 0
posts_in (entries.Post by ticket event ∷ es) = suc (posts_in es)
posts_in (e ∷ es) = posts_in es

abbrev pub commits_in : List Entry → ℕ
commits_in [] = 0
commits_in (entries.Commit by cert outcomes ∷ es) = suc (commits_in es)
commits_in (e ∷ es) = commits_in es

-- the numbers of threads, posts, commits and entries, or what the search has used of its budget
abbrev pub summary_text : ℕ → ℕ → List Entry → Ending → List ℕ
summary_text number threads history endings.Closed =
    codes "gen " ++ decimal number ++ codes " threads " ++ decimal threads ++ codes " posts " ++ decimal (posts_in history)
    ++ codes " commits " ++ decimal (commits_in history) ++ codes " entries " ++ decimal (length history) ++ codes "\n"
summary_text number threads history endings.Full = []
summary_text number threads history (endings.Spent front paths groups) =
    codes "gen " ++ decimal number ++ codes " spent front " ++ decimal front ++ codes " paths " ++ decimal paths ++ codes " groups " ++ decimal groups ++ codes "\n"

-- how a run of a generated script ends, and its status; no board is full by then
abbrev pub HasSummary : Ending → Type 0
HasSummary endings.Closed = Unit {0}
HasSummary endings.Full = ⊥
HasSummary (endings.Spent front paths groups) = Unit {0}

abbrev pub summary_status : Ending → ℕ
summary_status endings.Closed = 0
summary_status endings.Full = 0
summary_status (endings.Spent front paths groups) = 7

-- the summary of a serial run of the generated script of this number, by this budget
pub record IsSummary (number budget : ℕ) (written : List ℕ) (status : ℕ) : Type 0 where
  pub history : List Entry
  pub ending : Ending
  pub run : RunEndsSo in_rounds budget (generated number) history ending
  pub text : written ≡ summary_text number (length (generated number).threads) history ending
  pub ends : HasSummary ending
  pub status_is : status ≡ summary_status ending
