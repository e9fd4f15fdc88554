-- A line that is read tells one entry, and a line that isn't tells none.
use Rattle.std.proofs.Common.{◌≡◌, ◌≢◌, ℕ, suc, ◌<◌, ◌≤◌, Bool, true, false, List, [], ◌∷◌, ◌++◌, length, refl, sym, ap, subst, ◌∙◌, arith}
use Rattle.std.specs.Prelude.{Option, None}
use Rattle.te_terms.specs.Terms.{Term, never}
use Rattle.te_script.specs.declared.wish.Site.{Site}
use Rattle.te_script.specs.Scripts.{Program, IsScript}
use Rattle.te_history.specs.declared.entry.Entry.{Entry}
use Rattle.te_history.specs.declared.entry.Entry.TheVariants as entries
use Rattle.te_history.specs.Histories.{History}
use Rattle.te_report.specs.declared.fault.Cause.{Cause}
use Rattle.te_report.specs.declared.fault.Cause.TheVariants as causes
use Rattle.te_report.specs.declared.saying.Said.{Said}
use Rattle.te_report.specs.declared.saying.Said.TheVariants as says
use Rattle.te_report.specs.Readable.{IsEntryOf, IsSite, HasSite, SpellsEntry}
use Rattle.te_report.specs.Report.{Version, first, second, posted_site, most_reported_entries, numbered, entry_text}
use Rattle.te_report.specs.Sayings.{called_of, up_to, said, site_in, said_text, version_of}
use Rattle.te_report.specs.Judging.{IsUnposted, HasUnposted, IsLike, SaysSite, IsMeant, IsFailing, HasNoEntry, HasIllegal, ReadingGoesOn}
use Rattle.te_report.proofs.LinesTold.{tells, told_as, text_same, line_is_told}
use Rattle.te_report.proofs.SayingsFit.{FitsIn, said_fits}

tells_version : (sites : Bool) → tells (version_of sites) ≡ sites
tells_version true = refl
tells_version false = refl

-- ---- entries like what is said are spelled as it

other_site : (version : Version) (at : Option Site) (by ticket : ℕ) (event : Term) → HasSite version at (entries.Post by ticket never) → HasSite version at (entries.Post by ticket event)
other_site first at by ticket event h = tt
other_site second at by ticket event h = h

pub like_spells : (version : Version) (script : Program) (s : Said) (e : Entry) (number : ℕ) (line : List ℕ) → FitsIn version script s → IsLike s e → number ≤ most_reported_entries
    → line ≡ numbered number (said_text script s) → SpellsEntry version script number (site_in s) e line
like_spells version script (says.Post by ticket site) e number line fit like within is =
    subst (λ x. SpellsEntry version script number site x line) (sym like.1) (record {
      within = within;
      entry = fit.entry;
      site = other_site version site by ticket like.0 fit.site;
      text = is ∙ ap (numbered number) fit.text;
    })
like_spells version script (says.Entry e) f number line fit like within is =
    subst (λ x. SpellsEntry version script number None x line) (sym like) (record { within = within; entry = fit.entry; site = fit.site; text = is ∙ ap (numbered number) fit.text })

-- ---- what spells the line is like what is said

pub told_by : (sites : Bool) (script : Program) (is : IsScript script) (number : ℕ) (at : Option Site) (e : Entry) (rest line more : List ℕ) → rest ≡ line ++ more
    → SpellsEntry (version_of sites) script number at e line → said (called_of script) sites (up_to 10 rest) ≡ told_as (version_of sites) at e
told_by sites script is number at e rest line more split spells =
    let within = spells.within in
    subst (λ b. said (called_of script) b (up_to 10 rest) ≡ told_as (version_of sites) at e) (tells_version sites)
    (line_is_told script is (version_of sites) at e number rest more (omega arith) spells.entry spells.site (split ∙ ap (λ l. l ++ more) spells.text))

told_like : (sites : Bool) (script : Program) (h : List Entry) (e : Entry)
    → IsLike (told_as (version_of sites) (posted_site script h e) e) e × SaysSite sites script h (told_as (version_of sites) (posted_site script h e) e) e
told_like true script h (entries.Post by ticket event) = ((event, refl), refl)
told_like false script h (entries.Post by ticket event) = ((event, refl), tt)
told_like true script h (entries.Commit by cert outcomes) = (refl, tt)
told_like false script h (entries.Commit by cert outcomes) = (refl, tt)
told_like true script h (entries.Withdraw by ticket) = (refl, tt)
told_like false script h (entries.Withdraw by ticket) = (refl, tt)
told_like true script h (entries.Take by ticket outcome) = (refl, tt)
told_like false script h (entries.Take by ticket outcome) = (refl, tt)
told_like true script h (entries.Rest by) = (refl, tt)
told_like false script h (entries.Rest by) = (refl, tt)
told_like true script h (entries.Stuck by) = (refl, tt)
told_like false script h (entries.Stuck by) = (refl, tt)
told_like true script h (entries.End by how) = (refl, tt)
told_like false script h (entries.End by how) = (refl, tt)

-- ---- the line of an entry that is meant

module _ (sites : Bool) (script : Program) (h : List Entry) where
  post_text : (sites : Bool) (by ticket : ℕ) (at site : Option Site) (event other : Term)
      → SaysSite sites script h (says.Post by ticket site) (entries.Post by ticket event)
      → at ≡ posted_site script h (entries.Post by ticket event)
      → entry_text (version_of sites) script site (entries.Post by ticket other) ≡ entry_text (version_of sites) script at (entries.Post by ticket event)
  post_text true by ticket at site event other says_so is = ap (λ x. entry_text second script x (entries.Post by ticket other)) (sym says_so ∙ sym is)
  post_text false by ticket at site event other says_so is = refl

  post_site : (sites : Bool) (by ticket : ℕ) (site : Option Site) (event : Term) → SaysSite sites script h (says.Post by ticket site) (entries.Post by ticket event)
      → HasSite (version_of sites) site (entries.Post by ticket never) → HasSite (version_of sites) (posted_site script h (entries.Post by ticket event)) (entries.Post by ticket event)
  post_site true by ticket site event says_so has = subst IsSite (sym says_so) has
  post_site false by ticket site event says_so has = tt

  other_text : (version : Version) (at : Option Site) (e : Entry) → IsUnposted e
      → (entry_text version script at e ≡ entry_text version script (posted_site script h e) e) × HasSite version
      (posted_site script h e) e
  other_text version at (entries.Post by ticket event) un = absurd un
  other_text first at (entries.Commit by cert outcomes) un = (refl, tt)
  other_text second at (entries.Commit by cert outcomes) un = (refl, tt)
  other_text first at (entries.Withdraw by ticket) un = (refl, tt)
  other_text second at (entries.Withdraw by ticket) un = (refl, tt)
  other_text first at (entries.Take by ticket outcome) un = (refl, tt)
  other_text second at (entries.Take by ticket outcome) un = (refl, tt)
  other_text first at (entries.Rest by) un = (refl, tt)
  other_text second at (entries.Rest by) un = (refl, tt)
  other_text first at (entries.Stuck by) un = (refl, tt)
  other_text second at (entries.Stuck by) un = (refl, tt)
  other_text first at (entries.End by how) un = (refl, tt)
  other_text second at (entries.End by how) un = (refl, tt)

  pub record IsLineOf (s : Said) (e : Entry) : Type 0 where
    pub readable : IsEntryOf script e
    pub site : HasSite (version_of sites) (posted_site script h e) e
    pub text : said_text script s ≡ entry_text (version_of sites) script (posted_site script h e) e

  pub meant_line : (s : Said) (e : Entry) → FitsIn (version_of sites) script s → IsLike s e → SaysSite sites script h s e → IsLineOf s e
  meant_line (says.Post by ticket site) e fit like says_so =
      subst (λ x. IsLineOf (says.Post by ticket site) x) (sym like.1) (record {
        readable = fit.entry;
        site = post_site sites by ticket site like.0 here fit.site;
        text = fit.text ∙ post_text sites by ticket (posted_site script h (entries.Post by ticket like.0)) site like.0 never here refl;
      })
    where
      here : SaysSite sites script h (says.Post by ticket site) (entries.Post by ticket like.0)
      here = subst (λ x. SaysSite sites script h (says.Post by ticket site) x) like.1 says_so
  meant_line (says.Entry e) f fit like says_so =
      let other = other_text (version_of sites) None e fit.unposted in
      subst (λ x. IsLineOf (says.Entry e) x) (sym like) (record { readable = fit.entry; site = other.1; text = fit.text ∙ other.0 })

-- ---- answers of a line

module _ (sites : Bool) (script : Program) (is : IsScript script) (hist : History) (rest : List ℕ) where
  abbrev number : ℕ
  number = suc (length hist.entries)

  -- no line is read: no entry spells it
  pub none_spells : ((more : List ℕ) → rest ≢ numbered number (said_text script (said (called_of script) sites (up_to 10 rest))) ++ more) → HasNoEntry (version_of sites) script hist rest
  none_spells none at e line more split spells =
      let told = told_by sites script is number at e rest line more split spells in
      none more (split ∙ ap (λ l. l ++ more) (spells.text ∙ ap (numbered number) (text_same (version_of sites) script at e ∙ ap (said_text script) (sym told))))

  -- there are too many lines
  pub too_many : most_reported_entries < number → HasNoEntry (version_of sites) script hist rest
  too_many past at e line more split spells = let within = spells.within in omega arith

  module _ (s : Said) (behind : List ℕ) (is_said : s ≡ said (called_of script) sites (up_to 10 rest))
      (split : rest ≡ numbered number (said_text script s) ++ behind) (within : number ≤ most_reported_entries) where
    fit : FitsIn (version_of sites) script s
    fit = subst (FitsIn (version_of sites) script) (sym is_said) (said_fits script is sites (up_to 10 rest))

    pub unposted : HasUnposted s
    unposted = fit.unposted

    pub goes_on : (new : History) (e : Entry) → IsMeant sites script hist s e → new.callers ≡ hist.callers
        → new.entries ≡ hist.entries ++ e ∷ [] → ReadingGoesOn (version_of sites) script hist new rest behind
    goes_on new e meant callers entries =
        let line = meant_line sites script hist.entries s e fit meant.like meant.site in
        record {
          entry = e;
          same_callers = callers;
          one_more = entries;
          within = omega arith;
          follows = meant.follows;
          wished = meant.wished;
          readable = line.readable;
          site = line.site;
          text = split ∙ ap (λ t. numbered number t ++ behind) line.text;
        }

    -- what is spelled as the line, with the site of its wish, is like what is said
    wished_like : (wished : Entry) → SpellsEntry (version_of sites) script number (posted_site script hist.entries wished) wished (numbered number (said_text script s))
        → IsLike s wished × SaysSite sites script hist.entries s wished
    wished_like wished spells =
        let told = told_by sites script is number (posted_site script hist.entries wished) wished rest (numbered number (said_text script s)) behind split spells in
        subst (λ x. IsLike x wished × SaysSite sites script hist.entries x wished) (sym told ∙ sym is_said) (told_like sites script hist.entries wished)

    pub illegal : (cause : Cause) → IsFailing sites script hist s cause → HasIllegal (version_of sites) script hist rest cause
    illegal (causes.Step fault) fails = record {
      at = site_in s;
      entry = fails.0.0;
      line = numbered number (said_text script s);
      more = behind;
      split = split;
      spells = like_spells (version_of sites) script s fails.0.0 number (numbered number (said_text script s)) fit fails.0.1 within refl;
      because = (fails.0.2, fails.1);
    }
    illegal causes.Script fails = record {
      at = site_in s;
      entry = fails.0.0;
      line = numbered number (said_text script s);
      more = behind;
      split = split;
      spells = like_spells (version_of sites) script s fails.0.0 number (numbered number (said_text script s)) fit fails.0.1 within refl;
      because = (fails.0.2, λ wished spells w. let like = wished_like wished spells in fails.1 wished like.0 w like.1);
    }
