-- Reading line by line: what each step needs, and what it leaves.
use Rattle.std.proofs.Common.{◌≡◌, ◌≢◌, ℕ, suc, ◌+◌, ◌^◌, ◌<◌, ◌≤◌, ◌==◌, Bool, true, false, List, [], ◌∷◌, ◌++◌, length, refl, sym, ap, subst, ◌∙◌, arith, length-append}
use Rattle.std.specs.Prelude.{codes, Result, Ok, Err, IfErr, IsErrAnd}
use Rattle.std.specs.Fmt.{decimal}
use Rattle.te_script.specs.Scripts.{Program, IsScript}
use Rattle.te_script.specs.Cores.{At}
use Rattle.te_history.specs.declared.entry.Entry.{Entry}
use Rattle.te_history.specs.declared.entry.Entry.TheVariants as entries
use Rattle.te_history.specs.Histories.{History}
use Rattle.te_history.specs.Follows.{caller_of}
use Rattle.te_report.specs.declared.fault.ReportFault.{ReportFault}
use Rattle.te_report.specs.declared.fault.ReportFault.TheVariants as faults
use Rattle.te_report.specs.declared.names.Called.{Called}
use Rattle.te_report.specs.declared.saying.Said.{Said}
use Rattle.te_report.specs.declared.saying.Said.TheVariants as says
use Rattle.te_report.specs.OfScript.{IsOfScript}
use Rattle.te_report.specs.Following.{cores_from, AreFollowed}
use Rattle.te_report.specs.Readable.{IsEntryOf}
use Rattle.te_report.specs.Report.{Version, first, second, head_line, posted_site, most_reported_entries, numbered, entry_text, entry_line, entry_lines}
use Rattle.te_report.specs.Told.{most_report_bytes, LineStandsAt, IsNoHead}
use Rattle.te_report.specs.Sayings.{called_of, up_to, said, entry_in, said_text, version_of}
use Rattle.te_report.specs.Judging.{sayer, TakesEntryIn, FailsSaid, ReadingGoesOn, NextFails}
use Rattle.te_report.proofs.Cuts.{none_left}
use Rattle.te_report.proofs.SayingsFit.{length_names, said_fits}
use Rattle.te_report.proofs.LinesRead.{goes_on, illegal}

-- what holds of a fault that is handed on
pub told : {X : Type 0} (r : Result X ReportFault) (fault : ReportFault) (P : ReportFault → Type 0) → IsErrAnd r (λ e. e ≡ fault) → P fault → IfErr r P
told (Ok x) fault P is h = tt
told (Err e) fault P is h = subst P (sym is) h

-- what is empty, and what isn't
pub is_none : (bs : List ℕ) (b : Bool) → b ≡ (length bs == 0) → b ≡ true → bs ≡ []
is_none [] b is t = refl
is_none (x ∷ xs) b is t = absurd (let none = none_left (x ∷ xs) b is t in omega (arith, none))

pub is_some : (bs : List ℕ) (b : Bool) → b ≡ (length bs == 0) → b ≡ false → bs ≢ []
is_some [] b is f none = let t : b ≡ true = is in let clash : true ≡ false = sym t ∙ f in absurd cc
is_some (x ∷ xs) b is f none = absurd cc

-- ---- the head

pub no_head : (bytes : List ℕ) → length bytes ≤ most_report_bytes → ((rest : List ℕ) → bytes ≢ head_line first ++ rest) → ((rest : List ℕ) → bytes ≢ head_line second ++ rest) → IsNoHead bytes
no_head bytes few none_first none_second = record { few = few; headless = each }
  where
    each : (version : Version) (rest : List ℕ) → bytes ≢ head_line version ++ rest
    each first rest = none_first rest
    each second rest = none_second rest

-- before the first entry the cores are at the first wishes
pub followed_first : (script : Program) (hist : History) (cores : List At) → hist.callers ≡ length script.threads
    → hist.entries ≡ [] → cores ≡ cores_from [] 0 script.threads → AreFollowed script hist cores
followed_first script hist cores callers none is = record {
  callers = callers;
  of_script = subst (λ (h : List Entry). IsOfScript script h) (sym none) tt;
  cores_are = is ∙ ap (λ (h : List Entry). cores_from h 0 script.threads) (sym none);
}

-- ---- what a line needs

-- there are few names
pub few_names : (script : Program) → IsScript script → (called : Called) → called ≡ called_of script → (length called.threads ≤ 64) × (length called.channels ≤ 256)
few_names script is called same =
    let threads = is.program.threads in
    let channels = is.program.channels in
    let many = length_names script.threads in
    subst (λ (c : Called). (length c.threads ≤ 64) × (length c.channels ≤ 256)) (sym same) (omega (arith, many, threads), omega (arith, channels))

-- what is left is short
pub few_left : (script : Program) (bytes : List ℕ) (version : Version) (hist : History) (rest : List ℕ) (n : ℕ) → LineStandsAt script bytes version hist rest n → length rest < 2 ^ 32
few_left script bytes version hist rest n at =
    let whole = ap length at.text in
    let parts = length-append (head_line version ++ entry_lines version script [] hist.entries) rest in
    let few = at.few in
    omega (arith, whole, parts, few)

-- and grows shorter by each line
pub fewer_left : (version : Version) (script : Program) (old new : History) (rest behind : List ℕ) → ReadingGoesOn version script old new rest behind → length behind < length rest
fewer_left version script old new rest behind on =
    let number = suc (length old.entries) in
    let text = entry_text version script (posted_site script old.entries on.entry) on.entry in
    let whole = ap length on.text in
    let parts = length-append (entry_line version script old.entries on.entry) behind in
    let line : length (numbered number text) ≡ length (decimal number ++ codes " " ++ text) + 1 = length-append (decimal number ++ codes " " ++ text) (codes "\n") in
    omega (arith, whole, parts, line)

caller_low : (script : Program) (e : Entry) → IsEntryOf script e → caller_of e < length script.threads
caller_low script (entries.Post by ticket event) h = h.0
caller_low script (entries.Commit by cert outcomes) h = h.0
caller_low script (entries.Withdraw by ticket) h = h.0
caller_low script (entries.Take by ticket outcome) h = h.0
caller_low script (entries.Rest by) h = h
caller_low script (entries.Stuck by) h = h
caller_low script (entries.End by how) h = h.0

-- who says it is a thread
pub sayer_low : (sites : Bool) (script : Program) → IsScript script → (line : List ℕ) (s : Said) → s ≡ said (called_of script) sites line → sayer s < length script.threads
sayer_low sites script is line s same =
    subst (λ (x : Said). sayer x < length script.threads) (sym same) (low (said (called_of script) sites line) (said_fits script is sites line).entry)
  where
    low : (x : Said) → IsEntryOf script (entry_in x) → sayer x < length script.threads
    low (says.Post by ticket site) h = h.0
    low (says.Entry e) h = caller_low script e h

-- ---- what it leaves

module _ (sites : Bool) (script : Program) (is : IsScript script) (hist : History) (rest : List ℕ) (s : Said) (behind : List ℕ) (is_said : s ≡ said (called_of script) sites (up_to 10 rest))
    (split : rest ≡ numbered (suc (length hist.entries)) (said_text script s) ++ behind) (within : suc (length hist.entries) ≤ most_reported_entries) where
  pub taken_next : (new : History) → TakesEntryIn sites script hist new s → ReadingGoesOn (version_of sites) script hist new rest behind
  taken_next new t = goes_on sites script is hist rest s behind is_said split within new t.entry t.meant t.same_callers t.one_more

  pub failed_next : (at : ℕ) → at ≡ suc (suc (length hist.entries)) → (fault : ReportFault) → FailsSaid sites script hist s at fault → NextFails (version_of sites) script hist rest fault
  failed_next at line (faults.Illegal n cause) fails = (fails.0 ∙ line, illegal sites script is hist rest s behind is_said split within cause fails.1)
  failed_next at line faults.Memory fails = tt
  failed_next at line faults.Head fails = absurd fails
  failed_next at line (faults.Line n) fails = absurd fails
  failed_next at line (faults.Tail n) fails = absurd fails
  failed_next at line faults.Long fails = absurd fails
