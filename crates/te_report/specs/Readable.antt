-- Which entries the lines of a report can spell, whether or not they may stand there. This project's own.
use Rattle.std.specs.Prelude.{◌≡◌, ◌≢◌, ℕ, ◌^◌, ◌<◌, ◌≤◌, List, [], ◌∷◌, ◌++◌, length, Option, Some, None, slice_get}
use Rattle.std.specs.List.{AllByRecursion}
use Rattle.te_terms.specs.declared.value.Atom.{Atom}
use Rattle.te_terms.specs.declared.event.Outcome.{Outcome}
use Rattle.te_cert.specs.declared.cert.Member.{Member}
use Rattle.te_cert.specs.declared.cert.Meeting.{Meeting}
use Rattle.te_cert.specs.declared.cert.Cert.{Cert}
use Rattle.te_script.specs.declared.wish.Site.{Site}
use Rattle.te_script.specs.Scripts.{Program}
use Rattle.te_history.specs.declared.status.How.{How}
use Rattle.te_history.specs.declared.entry.Entry.{Entry}
use Rattle.te_history.specs.declared.entry.Entry.TheVariants as entries
use Rattle.te_report.specs.Fitting.{AtomFits, ValueFits, OutcomeFits, HowFits}
use Rattle.te_report.specs.ScriptChannels.{IsChannelOf}
use Rattle.te_report.specs.Report.{Version, second, posted_site, most_reported_entries, numbered, entry_text}

-- an integer of 64 bits, or a channel of the script or a fresh one of its threads
abbrev pub IsAtomOf : Program → Atom → Type 0
IsAtomOf script a = AtomFits (IsChannelOf script) a

-- at most 4 of these
abbrev pub IsValueOf : Program → List Atom → Type 0
IsValueOf script v = ValueFits (IsChannelOf script) v

abbrev pub IsOutcomeOf : Program → Outcome → Type 0
IsOutcomeOf script o = OutcomeFits (IsChannelOf script) o

abbrev pub IsHowOf : Program → How → Type 0
IsHowOf script how = HowFits (IsChannelOf script) how

-- a number of 32 bits
abbrev pub IsNumber : ℕ → Type 0
IsNumber n = n < 2 ^ 32

abbrev pub IsScriptThread : Program → ℕ → Type 0
IsScriptThread script t = t < length script.threads

abbrev pub IsMemberOf : Program → Member → Type 0
IsMemberOf script m = IsScriptThread script m.thread × IsNumber m.ticket

-- the name at a meeting's end stands for the first member that bears it
pub record IsNamed (members : List Member) (place : ℕ) : Type 0 where
  pub member : Member
  pub there : slice_get members place ≡ Some member
  pub first_one : (k : ℕ) (m : Member) → k < place → slice_get members k ≡ Some m → m.thread ≢ member.thread

abbrev pub IsMeetingOf : List Member → Meeting → Type 0
IsMeetingOf members m = IsNamed members m.sender × IsNamed members m.receiver

-- members with an outcome each, and meetings between them
pub record CommitIsReadable (script : Program) (cert : Cert) (outcomes : List Outcome) : Type 0 where
  pub members : AllByRecursion (IsMemberOf script) cert.members
  pub as_many : length outcomes ≡ length cert.members
  pub gets : AllByRecursion (IsOutcomeOf script) outcomes
  pub meets : AllByRecursion (IsMeetingOf cert.members) cert.meets

-- threads and channels are of the script, and numbers and values are in their ranges
abbrev pub IsEntryOf : Program → Entry → Type 0
IsEntryOf script (entries.Post by ticket event) = IsScriptThread script by × IsNumber ticket
IsEntryOf script (entries.Commit by cert outcomes) = IsScriptThread script by × CommitIsReadable script cert outcomes
IsEntryOf script (entries.Withdraw by ticket) = IsScriptThread script by × IsNumber ticket
IsEntryOf script (entries.Take by ticket outcome) = IsScriptThread script by × IsNumber ticket × IsOutcomeOf script outcome
IsEntryOf script (entries.Rest by) = IsScriptThread script by
IsEntryOf script (entries.Stuck by) = IsScriptThread script by
IsEntryOf script (entries.End by how) = IsScriptThread script by × IsHowOf script how

abbrev pub IsSite : Option Site → Type 0
IsSite (Some at) = IsNumber at.statement × IsNumber at.pass
IsSite None = ⊥

-- in the second version a post tells a site
abbrev pub HasSite : Version → Option Site → Entry → Type 0
HasSite second at (entries.Post by ticket event) = IsSite at
HasSite _ at _ = Unit {0}

-- the entry and the site are spelled so in the line with this number
pub record SpellsEntry (version : Version) (script : Program) (number : ℕ) (at : Option Site) (e : Entry) (line : List ℕ) : Type 0 where
  pub within : number ≤ most_reported_entries
  pub entry : IsEntryOf script e
  pub site : HasSite version at e
  pub text : line ≡ numbered number (entry_text version script at e)

-- the entries can be spelled, each with the site of the wish that it posts
abbrev pub AreReadable : Version → Program → List Entry → List Entry → Type 0
AreReadable version script before [] = Unit {0}
AreReadable version script before (e ∷ es) = IsEntryOf script e × HasSite version (posted_site script before e) e × AreReadable version script (before ++ e ∷ []) es
