-- What is told of bytes at one point of them: of the rest behind the lines so far. No public clause cites this module.
use Rattle.std.specs.Prelude.{◌≡◌, ◌≢◌, ℕ, ◌<◌, List, [], ◌++◌, length}
use Rattle.te_script.specs.Scripts.{Program}
use Rattle.te_history.specs.declared.entry.Entry.{Entry}
use Rattle.te_history.specs.Histories.{History}
use Rattle.te_history.specs.Follows.{LooselyFollows}
use Rattle.te_report.specs.declared.ending.Ending.{Ending}
use Rattle.te_report.specs.declared.fault.Cause.{Cause}
use Rattle.te_report.specs.Report.{Version, posted_site, entry_line, most_reported_entries}
use Rattle.te_report.specs.Readable.{IsEntryOf, HasSite}
use Rattle.te_report.specs.Told.{BeginsLast, FailsHere, GoesPast}
use Rattle.te_report.specs.Judging.{IsWishedAt, HasNoEntry, HasIllegal, EndIsWished}

-- how a report ends, or how its next line fails: no line of an entry, an entry that may not stand there, no last line, or a last line with more behind it
pub data Kind : Type 0 where
  ends : Ending → Kind
  no_line : Kind
  illegal : Cause → Kind
  no_end : Kind
  too_long : Kind

abbrev pub LineSays : Version → Program → History → List ℕ → Kind → Type 0
LineSays version script hist rest (ends ending) = EndIsWished hist rest ending
LineSays version script hist rest no_line = (rest ≢ []) × (¬ BeginsLast rest) × HasNoEntry version script hist rest
LineSays version script hist rest (illegal cause) = HasIllegal version script hist rest cause
LineSays version script hist rest no_end = FailsHere hist rest
LineSays version script hist rest too_long = GoesPast hist rest

-- the next line is one of an entry that follows, and that its thread wished so
pub record IsLine (version : Version) (script : Program) (history : List Entry) (callers : ℕ) (rest : List ℕ) (e : Entry) : Type 0 where
  pub behind : List ℕ
  pub within : length history < most_reported_entries
  pub follows : LooselyFollows callers history e
  pub wished : IsWishedAt script history e
  pub readable : IsEntryOf script e
  pub site : HasSite version (posted_site script history e) e
  pub text : rest ≡ entry_line version script history e ++ behind
