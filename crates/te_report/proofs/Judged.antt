-- What a thread wishes, as its core tells: whether a post or an end is the thread's, and the site of its wish.
use Rattle.std.proofs.Common.{◌≡◌, ◌≢◌, ℕ, Bool, true, false, List, Option, Some, refl, sym, ap, subst, ◌∙◌, zero-add}
use Rattle.std.specs.Prelude.{◌↔◌, slice_get}
use Rattle.te_terms.specs.declared.value.Atom.{Atom}
use Rattle.te_terms.specs.declared.event.Outcome.{Outcome}
use Rattle.te_terms.specs.Terms.{Term}
use Rattle.te_script.specs.declared.wish.Site.{Site}
use Rattle.te_script.specs.declared.wish.Want.{Want}
use Rattle.te_script.specs.declared.wish.Want.TheVariants as wants
use Rattle.te_script.specs.Wants.{IsWant}
use Rattle.te_script.specs.Scripts.{Thread, Program}
use Rattle.te_script.specs.Wishes.{Wish, syncs, done, raised, wish, site}
use Rattle.te_script.specs.Cores.{At, core_after}
use Rattle.te_history.specs.declared.entry.Entry.{Entry}
use Rattle.te_history.specs.declared.entry.Entry.TheVariants as entries
use Rattle.te_history.specs.Histories.{History}
use Rattle.te_history.specs.Follows.{caller_of}
use Rattle.te_report.specs.OfScript.{taken, IsWished, WishedBy}
use Rattle.te_report.specs.Following.{AreFollowed}
use Rattle.te_report.specs.Report.{site_by, posted_site}
use Rattle.te_report.specs.Judging.{IsWishedAt}
use Rattle.te_report.proofs.Followed.{core_back, done_told}

-- the core at a place is that of the thread, after what it has taken
pub record IsCoreOf (script : Program) (hist : History) (by : ℕ) (c : At) : Type 0 where
  pub there : slice_get script.threads by ≡ Some c.thread
  pub own : c ≡ core_after c.thread (taken by hist.entries)

pub core_of : (script : Program) (hist : History) (cores : List At) (by : ℕ) (c : At) → AreFollowed script hist cores → slice_get cores by ≡ Some c → IsCoreOf script hist by c
core_of script hist cores by c so_far is =
    let back = core_back hist.entries 0 by script.threads c (ap (λ (cs : List At). slice_get cs by) (sym so_far.cores_are) ∙ is) in
    let at : c ≡ core_after back.0 (taken by hist.entries) = back.2 ∙ ap (λ (m : ℕ). core_after back.0 (taken m hist.entries)) (zero-add by) in
    let thread : c.thread ≡ back.0 = ap (λ (a : At). a.thread) at in
    record { there = back.1 ∙ ap Some (sym thread); own = at ∙ ap (λ (x : Thread). core_after x (taken by hist.entries)) (sym thread) }

module _ (script : Program) (hist : History) (by : ℕ) (c : At) (core : IsCoreOf script hist by c) where
  -- what its core wishes is wished
  pub is_wished : (e : Entry) → caller_of e ≡ by → IsWished (wish c.thread (taken by hist.entries)) e → IsWishedAt script hist.entries e
  is_wished e caller w =
      subst (λ (t : ℕ). WishedBy (slice_get script.threads t) (taken t hist.entries) e) (sym caller)
      (subst (λ (o : Option Thread). WishedBy o (taken by hist.entries) e) (sym core.there) w)

  -- and what is wished its core wishes
  pub wished_is : (e : Entry) → caller_of e ≡ by → IsWishedAt script hist.entries e → IsWished (wish c.thread (taken by hist.entries)) e
  wished_is e caller w =
      subst (λ (o : Option Thread). WishedBy o (taken by hist.entries) e) core.there
      (subst (λ (t : ℕ). WishedBy (slice_get script.threads t) (taken t hist.entries) e) caller w)

  -- the site of its wish is the one that a post tells
  pub site_is : (ticket : ℕ) (event : Term) (s : Site) → site c.thread (taken by hist.entries) ≡ Some s → posted_site script hist.entries (entries.Post by ticket event) ≡ Some s
  site_is ticket event s is = ap (λ (o : Option Thread). site_by o (taken by hist.entries)) core.there ∙ is

  sync_wished : (w : Wish) (event : Term) → IsWant w (wants.Sync event) → w ≡ syncs event
  sync_wished (syncs t) event is = ap syncs is
  sync_wished (done values) event is = absurd is
  sync_wished (raised v) event is = absurd is

  -- a wish to synchronise is that of a post
  pub post_wished : (want : Want) (ticket : ℕ) (event : Term) → want ≡ wants.Sync event
      → IsWant (wish c.thread (taken by hist.entries)) want → IsWishedAt script hist.entries
      (entries.Post by ticket event)
  post_wished want ticket event sync is =
      is_wished (entries.Post by ticket event) refl (sync_wished (wish c.thread (taken by hist.entries)) event (subst (IsWant (wish c.thread (taken by hist.entries))) sync is))

  no_sync : (w : Wish) (want : Want) (event : Term) → w ≡ syncs event → IsWant w want → ((e : Term) → want ≢ wants.Sync e) → ⊥
  no_sync w (wants.Sync e) event is told other = other e refl
  no_sync w wants.Done event is told other = subst (λ x. IsWant x wants.Done) is told
  no_sync w (wants.Raised v) event is told other = subst (λ x. IsWant x (wants.Raised v)) is told

  -- and no post is the thread's where its wish is another
  pub post_unwished : (want : Want) (ticket : ℕ) (event : Term) → IsWant (wish c.thread (taken by hist.entries)) want
      → ((e : Term) → want ≢ wants.Sync e) → ¬ IsWishedAt script hist.entries (entries.Post by ticket event)
  post_unwished want ticket event told other w =
      no_sync (wish c.thread (taken by hist.entries)) want event (wished_is (entries.Post by ticket event) refl w) told other

-- ---- ends

-- a core past its last statement ends with what it has emitted, and so alone
pub done_ends : (c : At) (outs : List Outcome) (want : Want) (emitted values : List (List Atom)) (b : Bool) → c ≡ core_after c.thread outs → IsWant (wish c.thread outs) want → want ≡ wants.Done
    → emitted ≡ c.stand.emitted → ((b ≡ true) ↔ (emitted ≡ values)) → (b ≡ true) ↔ (wish c.thread outs ≡ done values)
done_ends c outs want emitted values b is told ended shown same =
    let by = done_told c outs want emitted is told ended shown in
    (λ yes_same. by ∙ ap done (same.0 yes_same), λ w. same.1 (let both : done emitted ≡ done values = sym by ∙ w in cc))

not_done : (w : Wish) (want : Want) (values : List (List Atom)) → IsWant w want → want ≢ wants.Done → w ≢ done values
not_done w (wants.Sync event) values told other is = subst (λ x. IsWant x (wants.Sync event)) is told
not_done w wants.Done values told other is = other refl
not_done w (wants.Raised v) values told other is = subst (λ x. IsWant x (wants.Raised v)) is told

pub other_ends : (w : Wish) (want : Want) (values : List (List Atom)) → IsWant w want → want ≢ wants.Done → (false ≡ true) ↔ (w ≡ done values)
other_ends w want values told other = (λ never. absurd cc, λ is. absurd (not_done w want values told other is))

raised_wish : (w : Wish) (v : List Atom) → IsWant w (wants.Raised v) → w ≡ raised v
raised_wish (syncs t) v told = absurd told
raised_wish (done values) v told = absurd told
raised_wish (raised u) v told = ap raised told

-- a core that has raised ends so, with its value alone
pub raised_ends : (w : Wish) (want : Want) (v value : List Atom) (b : Bool) → IsWant w want → want ≡ wants.Raised v → ((b ≡ true) ↔ (value ≡ v)) → (b ≡ true) ↔ (w ≡ raised value)
raised_ends w want v value b told is same =
    let by = raised_wish w v (subst (IsWant w) is told) in
    (λ yes_same. by ∙ ap raised (sym (same.0 yes_same)), λ other. same.1 (let both : raised value ≡ raised v = sym other ∙ by in cc))

not_raised : (w : Wish) (want : Want) (value : List Atom) → IsWant w want → ((v : List Atom) → want ≢ wants.Raised v) → w ≢ raised value
not_raised w (wants.Sync event) value told other is = subst (λ x. IsWant x (wants.Sync event)) is told
not_raised w wants.Done value told other is = subst (λ x. IsWant x wants.Done) is told
not_raised w (wants.Raised v) value told other is = other v refl

pub unraised_ends : (w : Wish) (want : Want) (value : List Atom) → IsWant w want → ((v : List Atom) → want ≢ wants.Raised v) → (false ≡ true) ↔ (w ≡ raised value)
unraised_ends w want value told other = (λ never. absurd cc, λ is. absurd (not_raised w want value told other is))
