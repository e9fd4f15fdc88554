-- What is told of the bytes of a report: a history and how it ends, or the first line that fails. This project's own.
use Rattle.std.specs.Prelude.{◌≡◌, ◌≢◌, ◌⊎◌, ℕ, suc, ◌^◌, ◌<◌, ◌≤◌, List, [], ◌++◌, length, codes, Option, slice_get}
use Rattle.te_script.specs.declared.wish.Site.{Site}
use Rattle.te_script.specs.Scripts.{Program}
use Rattle.te_history.specs.declared.entry.Entry.{Entry}
use Rattle.te_history.specs.declared.entry.StepFault.TheVariants as steps
use Rattle.te_history.specs.Histories.{History}
use Rattle.te_history.specs.Follows.{caller_of, LooselyFollows, IsLoose}
use Rattle.te_history.specs.Refusals.{IsRefused}
use Rattle.te_report.specs.declared.ending.Ending.{Ending}
use Rattle.te_report.specs.declared.ending.Ending.TheVariants as endings
use Rattle.te_report.specs.declared.fault.Cause.{Cause}
use Rattle.te_report.specs.declared.fault.Cause.TheVariants as causes
use Rattle.te_report.specs.declared.fault.ReportFault.{ReportFault}
use Rattle.te_report.specs.declared.fault.ReportFault.TheVariants as faults
use Rattle.te_report.specs.OfScript.{taken, WishedBy, IsOfScript}
use Rattle.te_report.specs.Whole.{IsWhole}
use Rattle.te_report.specs.Report.{Version, head_line, entry_lines, last_line, posted_site, most_reported_entries, IsReport}
use Rattle.te_report.specs.Readable.{SpellsEntry}

-- the greatest number of bytes that are read
abbrev pub most_report_bytes : ℕ
most_report_bytes = 67108864

-- ---- a report that is read

abbrev pub IsCount : ℕ → Type 0
IsCount n = n < 2 ^ 64

-- the counts are numbers of 64 bits
abbrev pub HasCounts : Ending → Type 0
HasCounts (endings.Spent front paths groups) = IsCount front × IsCount paths × IsCount groups
HasCounts _ = Unit {0}

-- where the ending says so, every caller has ended
abbrev pub ReportIsClosed : Ending → ℕ → List Entry → Type 0
ReportIsClosed endings.Closed callers history = IsWhole callers history
ReportIsClosed _ callers history = Unit {0}

-- the report, in one of its versions, of a loose history of the script, which is whole where the report says closed
pub record IsReadAs (script : Program) (history : List Entry) (ending : Ending) (bytes : List ℕ) : Type 0 where
  pub few : length bytes ≤ most_report_bytes
  pub version : Version
  pub report : IsReport version script history ending bytes
  pub loose : IsLoose (length script.threads) history
  pub of_script : IsOfScript script history
  pub counts : HasCounts ending
  pub closed : ReportIsClosed ending (length script.threads) history

-- ---- the first line that fails

-- the lines so far are the head and those of a loose history of the script; behind them stands the rest, from line n on
pub record LineStandsAt (script : Program) (bytes : List ℕ) (version : Version) (history : History) (rest : List ℕ) (n : ℕ) : Type 0 where
  pub few : length bytes ≤ most_report_bytes
  pub callers : history.callers ≡ length script.threads
  pub within : length history.entries ≤ most_reported_entries
  pub loose : IsLoose history.callers history.entries
  pub of_script : IsOfScript script history.entries
  pub text : bytes ≡ head_line version ++ entry_lines version script [] history.entries ++ rest
  pub line : n ≡ suc (suc (length history.entries))

abbrev pub ReportBegins : List ℕ → List ℕ → Type 0
ReportBegins word text = (more : List ℕ) × (text ≡ word ++ more)

-- a word of a last line stands first
abbrev pub BeginsLast : List ℕ → Type 0
BeginsLast text = ReportBegins (codes "closed") text ⊎ (ReportBegins (codes "spent") text ⊎ ReportBegins (codes "full") text)

-- the first line is neither head
pub record IsNoHead (bytes : List ℕ) : Type 0 where
  pub few : length bytes ≤ most_report_bytes
  pub headless : (version : Version) (rest : List ℕ) → bytes ≢ head_line version ++ rest

-- the text goes on, with no last line, and its next line is none of an entry
pub record IsNoLine (script : Program) (bytes : List ℕ) (n : ℕ) : Type 0 where
  pub version : Version
  pub history : History
  pub rest : List ℕ
  pub stands : LineStandsAt script bytes version history rest n
  pub goes_on : rest ≢ []
  pub not_last : ¬ BeginsLast rest
  pub no_entry : (at : Option Site) (e : Entry) (line more : List ℕ) → rest ≡ line ++ more → ¬ SpellsEntry version script (suc (length history.entries)) at e line

-- the entry is refused, for another cause than want of memory; or it follows, and the line is that of no entry that its thread wished
abbrev pub IsCause : Version → Program → History → Entry → List ℕ → Cause → Type 0
IsCause version script history e line (causes.Step fault) = IsRefused history e fault × (fault ≢ steps.Memory)
IsCause version script history e line causes.Script = LooselyFollows history.callers history.entries e
    × ((wished : Entry) → SpellsEntry version script (suc (length history.entries)) (posted_site script history.entries wished) wished line
    → ¬ WishedBy (slice_get script.threads (caller_of wished)) (taken (caller_of wished) history.entries) wished)

-- the next line is that of an entry that may not stand there
pub record IsIllegal (script : Program) (bytes : List ℕ) (n : ℕ) (cause : Cause) : Type 0 where
  pub version : Version
  pub history : History
  pub rest : List ℕ
  pub stands : LineStandsAt script bytes version history rest n
  pub at : Option Site
  pub entry : Entry
  pub line : List ℕ
  pub more : List ℕ
  pub split : rest ≡ line ++ more
  pub spells : SpellsEntry version script (suc (length history.entries)) at entry line
  pub because : IsCause version script history entry line cause

-- a last line is none of this history
abbrev pub IsNoLast : History → List ℕ → Type 0
IsNoLast history rest = (ending : Ending) (more : List ℕ) → HasCounts ending → rest ≢ last_line (length history.entries) ending ++ more

-- a last line of this history says closed, and a caller hasn't ended
pub record IsNotWhole (history : History) (rest : List ℕ) : Type 0 where
  pub more : List ℕ
  pub last : rest ≡ last_line (length history.entries) endings.Closed ++ more
  pub open_still : ¬ IsWhole history.callers history.entries

-- bytes follow a last line of this history
pub record GoesPast (history : History) (rest : List ℕ) : Type 0 where
  pub ending : Ending
  pub more : List ℕ
  pub counts : HasCounts ending
  pub last : rest ≡ last_line (length history.entries) ending ++ more
  pub closed : ReportIsClosed ending history.callers history.entries
  pub some : more ≢ []

-- a last line that isn't right, or of a history that isn't whole, or is missing
abbrev pub FailsHere : History → List ℕ → Type 0
FailsHere history rest = (BeginsLast rest × IsNoLast history rest) ⊎ (IsNotWhole history rest ⊎ (rest ≡ []))

pub record IsNoEnd (script : Program) (bytes : List ℕ) (n : ℕ) : Type 0 where
  pub version : Version
  pub history : History
  pub rest : List ℕ
  pub place : ℕ
  pub stands : LineStandsAt script bytes version history rest place
  pub fails : (FailsHere history rest × (n ≡ place)) ⊎ (GoesPast history rest × (n ≡ suc place))

-- why bytes are refused; want of memory tells nothing of them
abbrev pub IsRefusedFor : Program → List ℕ → ReportFault → Type 0
IsRefusedFor script bytes faults.Head = IsNoHead bytes
IsRefusedFor script bytes (faults.Line n) = IsNoLine script bytes n
IsRefusedFor script bytes (faults.Illegal n cause) = IsIllegal script bytes n cause
IsRefusedFor script bytes (faults.Tail n) = IsNoEnd script bytes n
IsRefusedFor script bytes faults.Long = most_report_bytes < length bytes
IsRefusedFor script bytes faults.Memory = Unit {0}
