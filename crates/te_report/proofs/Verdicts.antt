-- Verdicts on what a line says, from what its thread's core wishes.
use Rattle.std.proofs.Common.{◌≡◌, ◌≢◌, ℕ, suc, ◌<◌, Bool, true, false, List, [], ◌∷◌, length, Option, Some, Result, Ok, Err, refl, sym, ap, subst, ◌∙◌, arith}
use Rattle.std.specs.Prelude.{◌↔◌, slice_get, IfOk}
use Rattle.te_terms.specs.Terms.{Term}
use Rattle.te_script.specs.declared.wish.Site.{Site}
use Rattle.te_script.specs.declared.wish.Want.{Want}
use Rattle.te_script.specs.declared.wish.Want.TheVariants as wants
use Rattle.te_script.specs.Wants.{IsWant}
use Rattle.te_script.specs.Scripts.{Thread, Program}
use Rattle.te_script.specs.Wishes.{wish, site}
use Rattle.te_script.specs.Cores.{At}
use Rattle.te_history.specs.declared.status.How.{How}
use Rattle.te_history.specs.declared.entry.Entry.{Entry}
use Rattle.te_history.specs.declared.entry.Entry.TheVariants as entries
use Rattle.te_history.specs.declared.entry.StepFault.{StepFault}
use Rattle.te_history.specs.declared.entry.StepFault.TheVariants as steps
use Rattle.te_history.specs.Histories.{History}
use Rattle.te_history.specs.Follows.{caller_of, LooselyFollows}
use Rattle.te_history.specs.Refusals.{IsRefused}
use Rattle.te_report.specs.declared.fault.Cause.{Cause}
use Rattle.te_report.specs.declared.fault.Cause.TheVariants as causes
use Rattle.te_report.specs.declared.saying.Said.TheVariants as says
use Rattle.te_report.specs.OfScript.{taken, EndsSo}
use Rattle.te_report.specs.Report.{posted_site}
use Rattle.te_report.specs.Following.{cores_from, AreFollowed, IsUnwished}
use Rattle.te_report.specs.Judging.{IsUnposted, SaysSite, IsWishedAt, IsMeant, IsFailing, PostIsRefused}
use Rattle.te_report.proofs.Followed.{some_thread, unwished}
use Rattle.te_report.proofs.Judged.{IsCoreOf, core_of, is_wished, wished_is, site_is, post_wished, post_unwished}

-- what holds of an answer that is Ok holds of it in other words
pub ok_map : {A E : Type 0} {P Q : A → Type 0} (r : Result A E) → ((x : A) → P x → Q x) → IfOk r P → IfOk r Q
ok_map (Ok x) f h = f x h
ok_map (Err e) f h = h

length_cores : (h : List Entry) (t : ℕ) (threads : List Thread) → length (cores_from h t threads) ≡ length threads
length_cores h t [] = refl
length_cores h t (x ∷ xs) = ap suc (length_cores h (suc t) xs)

-- there is a core for each thread
pub as_many : (script : Program) (hist : History) (cores : List At) → AreFollowed script hist cores → length cores ≡ length script.threads
as_many script hist cores so_far = ap length so_far.cores_are ∙ length_cores hist.entries 0 script.threads

not_end : (e : Entry) → IsUnposted e → ((by : ℕ) (how : How) → e ≢ entries.End by how) → IsUnwished e
not_end (entries.Post by ticket event) un other = un
not_end (entries.Commit by cert outcomes) un other = tt
not_end (entries.Withdraw by ticket) un other = tt
not_end (entries.Take by ticket outcome) un other = tt
not_end (entries.Rest by) un other = tt
not_end (entries.Stuck by) un other = tt
not_end (entries.End by how) un other = other by how refl

module _ (script : Program) (hist : History) (cores : List At) (so_far : AreFollowed script hist cores) where
  -- an end is wished where its thread's core ends so
  pub end_wished : (by : ℕ) (how : How) (c : At) (b : Bool) → slice_get cores by ≡ Some c
      → (b ≡ true) ↔ EndsSo (wish c.thread (taken by hist.entries)) how
      → (b ≡ true) ↔ IsWishedAt script hist.entries (entries.End by how)
  end_wished by how c b found h =
      let core = core_of script hist cores by c so_far found in
      (λ t. is_wished script hist by c core (entries.End by how) refl (h.0 t), λ w. h.1 (wished_is script hist by c core (entries.End by how) refl w))

  -- neither a post nor an end needs a wish
  pub other_wished : (e : Entry) → caller_of e < length cores → IsUnposted e → ((by : ℕ) (how : How) → e ≢ entries.End by how) → (true ≡ true) ↔ IsWishedAt script hist.entries e
  other_wished e low un other =
      let x = some_thread script.threads (caller_of e) (omega (arith, low, as_many script hist cores so_far)) in
      (λ t. unwished (slice_get script.threads (caller_of e)) x.0 (taken (caller_of e) hist.entries) e x.1 (not_end e un other), λ w. refl)

  -- ---- entries but posts

  entry_site : (sites : Bool) (e : Entry) → SaysSite sites script hist.entries (says.Entry e) e
  entry_site true e = tt
  entry_site false e = tt

  pub entry_stands : (sites : Bool) (e : Entry) → LooselyFollows hist.callers hist.entries e → IsWishedAt script hist.entries e → IsMeant sites script hist (says.Entry e) e
  entry_stands sites e follows wished = record { like = refl; follows = follows; wished = wished; site = entry_site sites e }

  pub entry_refused : (sites : Bool) (e : Entry) (fault : StepFault) → IsRefused hist e fault × (fault ≢ steps.Memory) → IsFailing sites script hist (says.Entry e) (causes.Step fault)
  entry_refused sites e fault refused = ((e, refl, refused.0), refused.1)

  pub entry_unwished : (sites : Bool) (e : Entry) → LooselyFollows hist.callers hist.entries e → ¬ IsWishedAt script hist.entries e → IsFailing sites script hist (says.Entry e) causes.Script
  entry_unwished sites e follows un = ((e, refl, follows), λ other like wished said_so. un (subst (IsWishedAt script hist.entries) like wished))

  -- ---- posts

  pub post_refused : (sites : Bool) (by ticket : ℕ) (at : Option Site) (event : Term) (fault : StepFault) → IsRefused hist (entries.Post by ticket event) fault × (fault ≢ steps.Memory)
      → IsFailing sites script hist (says.Post by ticket at) (causes.Step fault)
  post_refused sites by ticket at event fault refused = ((entries.Post by ticket event, (event, refl), refused.0), refused.1)

  post_site_said : (sites : Bool) (by ticket : ℕ) (at : Option Site) (event : Term) → (sites ≡ true → posted_site script hist.entries (entries.Post by ticket event) ≡ at)
      → SaysSite sites script hist.entries (says.Post by ticket at) (entries.Post by ticket event)
  post_site_said true by ticket at event same = same refl
  post_site_said false by ticket at event same = tt

  module _ (by : ℕ) (c : At) (found : slice_get cores by ≡ Some c) (want : Want) (told : IsWant (wish c.thread (taken by hist.entries)) want) where
    core : IsCoreOf script hist by c
    core = core_of script hist cores by c so_far found

    pub post_stands : (sites : Bool) (ticket : ℕ) (at : Option Site) (event : Term) → want ≡ wants.Sync event → LooselyFollows hist.callers hist.entries (entries.Post by ticket event)
        → (sites ≡ true → (s : Site) × (site c.thread (taken by hist.entries) ≡ Some s) × (at ≡ Some s)) → IsMeant sites script hist (says.Post by ticket at) (entries.Post by ticket event)
    post_stands sites ticket at event is follows same = record {
      like = (event, refl);
      follows = follows;
      wished = post_wished script hist by c core want ticket event is told;
      site = post_site_said sites by ticket at event (λ told_so. let s = same told_so in site_is script hist by c core ticket event s.0 s.1 ∙ sym s.2);
    }

    -- another site is said
    pub post_elsewhere : (ticket : ℕ) (at : Option Site) (event : Term) (s : Site) → LooselyFollows hist.callers hist.entries (entries.Post by ticket event)
        → site c.thread (taken by hist.entries) ≡ Some s → at ≢ Some s → IsFailing true script hist (says.Post by ticket at) causes.Script
    post_elsewhere ticket at event s follows is other = (
      (entries.Post by ticket event, (event, refl), follows),
      λ e like wished said_so. other (sym (subst (λ x. posted_site script hist.entries x ≡ at) like.1 said_so) ∙ site_is script hist by c core ticket like.0 s is),
    )

    -- no post is wished
    pub post_fails : (sites : Bool) (ticket : ℕ) (at : Option Site) (cause : Cause)
        → ((event : Term) → want ≢ wants.Sync event) → PostIsRefused hist by ticket cause
        → IsFailing sites script hist (says.Post by ticket at) cause
    post_fails sites ticket at (causes.Step fault) other fails = ((entries.Post by ticket fails.0.0, (fails.0.0, refl), fails.0.1), fails.1)
    post_fails sites ticket at causes.Script other fails = (
      (entries.Post by ticket fails.0, (fails.0, refl), fails.1),
      λ e like wished said_so. post_unwished script hist by c core want ticket like.0 told other (subst (IsWishedAt script hist.entries) like.1 wished),
    )
