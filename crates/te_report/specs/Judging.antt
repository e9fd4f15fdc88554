-- How the reader judges the entry of a line. No public clause cites this module.
use Rattle.std.specs.Prelude.{◌≡◌, ◌≢◌, ◌⊎◌, ℕ, suc, ◌<◌, List, [], ◌∷◌, ◌++◌, length, Bool, true, Option, slice_get}
use Rattle.te_terms.specs.Terms.{Term}
use Rattle.te_script.specs.declared.wish.Site.{Site}
use Rattle.te_script.specs.Scripts.{Program}
use Rattle.te_history.specs.declared.entry.Entry.{Entry}
use Rattle.te_history.specs.declared.entry.Entry.TheVariants as entries
use Rattle.te_history.specs.declared.entry.StepFault.TheVariants as steps
use Rattle.te_history.specs.Histories.{History}
use Rattle.te_history.specs.Follows.{caller_of, LooselyFollows}
use Rattle.te_history.specs.Refusals.{IsRefused}
use Rattle.te_report.specs.declared.fault.Cause.{Cause}
use Rattle.te_report.specs.declared.fault.Cause.TheVariants as causes
use Rattle.te_report.specs.declared.fault.ReportFault.{ReportFault}
use Rattle.te_report.specs.declared.fault.ReportFault.TheVariants as faults
use Rattle.te_report.specs.declared.judging.Verdict.{Verdict}
use Rattle.te_report.specs.declared.judging.Verdict.TheVariants as verdicts
use Rattle.te_report.specs.declared.saying.Said.{Said}
use Rattle.te_report.specs.declared.saying.Said.TheVariants as says
use Rattle.te_report.specs.OfScript.{taken, WishedBy}
use Rattle.te_report.specs.declared.ending.Ending.{Ending}
use Rattle.te_report.specs.Report.{Version, posted_site, entry_line, last_line, most_reported_entries}
use Rattle.te_report.specs.Readable.{IsEntryOf, HasSite, SpellsEntry}
use Rattle.te_report.specs.Told.{IsCause, HasCounts, ReportIsClosed, FailsHere, GoesPast}

-- an entry that isn't a post
abbrev pub IsUnposted : Entry → Type 0
IsUnposted (entries.Post by ticket event) = ⊥
IsUnposted _ = Unit {0}

-- a post is said as such
abbrev pub HasUnposted : Said → Type 0
HasUnposted (says.Post by ticket site) = Unit {0}
HasUnposted (says.Entry e) = IsUnposted e

abbrev pub sayer : Said → ℕ
sayer (says.Post by ticket site) = by
sayer (says.Entry e) = caller_of e

-- the entry is one that a line says; of a post it may have any event
abbrev pub IsLike : Said → Entry → Type 0
IsLike (says.Post by ticket site) e = (event : Term) × (e ≡ entries.Post by ticket event)
IsLike (says.Entry e) f = f ≡ e

-- in a version that tells sites a post says the site of its wish
abbrev pub SaysSite : Bool → Program → List Entry → Said → Entry → Type 0
SaysSite true script before (says.Post by ticket site) e = posted_site script before e ≡ site
SaysSite _ script before s e = Unit {0}

abbrev pub IsWishedAt : Program → List Entry → Entry → Type 0
IsWishedAt script before e = WishedBy (slice_get script.threads (caller_of e)) (taken (caller_of e) before) e

-- the entry that is said follows, and its thread wished it so
pub record IsMeant (sites : Bool) (script : Program) (hist : History) (s : Said) (e : Entry) : Type 0 where
  pub like : IsLike s e
  pub follows : LooselyFollows hist.callers hist.entries e
  pub wished : IsWishedAt script hist.entries e
  pub site : SaysSite sites script hist.entries s e

-- no such entry is meant, and this is why
abbrev pub IsFailing : Bool → Program → History → Said → Cause → Type 0
IsFailing sites script hist s (causes.Step fault) = ((e : Entry) × IsLike s e × IsRefused hist e fault) × (fault ≢ steps.Memory)
IsFailing sites script hist s causes.Script =
    ((e : Entry) × IsLike s e × LooselyFollows hist.callers hist.entries e)
    × ((e : Entry) → IsLike s e → IsWishedAt script hist.entries e → ¬ SaysSite sites script hist.entries s e)

abbrev pub IsJudged : Bool → Program → History → Said → Verdict → Type 0
IsJudged sites script hist s (verdicts.Stands e) = IsMeant sites script hist s e
IsJudged sites script hist s (verdicts.Fails cause) = IsFailing sites script hist s cause

-- a post that no thread wishes
abbrev pub PostIsRefused : History → ℕ → ℕ → Cause → Type 0
PostIsRefused hist by ticket (causes.Step fault) = ((event : Term) × IsRefused hist (entries.Post by ticket event) fault) × (fault ≢ steps.Memory)
PostIsRefused hist by ticket causes.Script = (event : Term) × LooselyFollows hist.callers hist.entries (entries.Post by ticket event)

-- the entry that is said is taken in
pub record TakesEntryIn (sites : Bool) (script : Program) (old new : History) (s : Said) : Type 0 where
  pub entry : Entry
  pub meant : IsMeant sites script old s entry
  pub same_callers : new.callers ≡ old.callers
  pub one_more : new.entries ≡ old.entries ++ entry ∷ []

-- or none that is said so may stand there
abbrev pub FailsSaid : Bool → Program → History → Said → ℕ → ReportFault → Type 0
FailsSaid sites script hist s at (faults.Illegal n cause) = (n ≡ at) × IsFailing sites script hist s cause
FailsSaid sites script hist s at faults.Memory = Unit {0}
FailsSaid sites script hist s at _ = ⊥

-- ---- a line more

-- the line of one entry more, which may stand there, with the rest behind it
pub record ReadingGoesOn (version : Version) (script : Program) (old new : History) (rest behind : List ℕ) : Type 0 where
  pub entry : Entry
  pub same_callers : new.callers ≡ old.callers
  pub one_more : new.entries ≡ old.entries ++ entry ∷ []
  pub within : length old.entries < most_reported_entries
  pub follows : LooselyFollows old.callers old.entries entry
  pub wished : IsWishedAt script old.entries entry
  pub readable : IsEntryOf script entry
  pub site : HasSite version (posted_site script old.entries entry) entry
  pub text : rest ≡ entry_line version script old.entries entry ++ behind

-- no entry has the next line
abbrev pub HasNoEntry : Version → Program → History → List ℕ → Type 0
HasNoEntry version script hist rest = (at : Option Site) (e : Entry) (line more : List ℕ) → rest ≡ line ++ more → ¬ SpellsEntry version script (suc (length hist.entries)) at e line

-- the next line is that of an entry that may not stand there
pub record HasIllegal (version : Version) (script : Program) (hist : History) (rest : List ℕ) (cause : Cause) : Type 0 where
  pub at : Option Site
  pub entry : Entry
  pub line : List ℕ
  pub more : List ℕ
  pub split : rest ≡ line ++ more
  pub spells : SpellsEntry version script (suc (length hist.entries)) at entry line
  pub because : IsCause version script hist entry line cause

-- how the next line fails
abbrev pub NextFails : Version → Program → History → List ℕ → ReportFault → Type 0
NextFails version script hist rest (faults.Line n) = (n ≡ suc (suc (length hist.entries))) × HasNoEntry version script hist rest
NextFails version script hist rest (faults.Illegal n cause) = (n ≡ suc (suc (length hist.entries))) × HasIllegal version script hist rest cause
NextFails version script hist rest faults.Memory = Unit {0}
NextFails version script hist rest _ = ⊥

-- how the end of the text fails
abbrev pub FailsLast : History → List ℕ → ReportFault → Type 0
FailsLast hist rest (faults.Tail n) =
    (FailsHere hist rest × (n ≡ suc (suc (length hist.entries)))) ⊎ (GoesPast hist rest × (n ≡ suc (suc (suc (length hist.entries)))))
FailsLast hist rest faults.Memory = Unit {0}
FailsLast hist rest _ = ⊥

-- the end of the text says so
pub record EndIsWished (hist : History) (rest : List ℕ) (ending : Ending) : Type 0 where
  pub counts : HasCounts ending
  pub text : rest ≡ last_line (length hist.entries) ending
  pub closed : ReportIsClosed ending hist.callers hist.entries
