-- The cores follow a history of their threads, entry by entry.
use Rattle.std.proofs.Common.{◌≡◌, ◌≢◌, ℕ, zero, suc, ◌+◌, ◌≤◌, Bool, cond, eq-eqb, List, [], ◌∷◌, ◌++◌, slice_set, Option, Some, None, refl, sym, ap, subst, ◌∙◌, arith, add-zero, zero-add}
use Rattle.std.specs.Prelude.{slice_get}
use Rattle.te_terms.specs.declared.event.Outcome.{Outcome}
use Rattle.te_script.specs.Scripts.{Thread, Program}
use Rattle.te_script.specs.Cores.{At, core_after, stand_after, moved, IsWaiting}
use Rattle.te_script.proofs.WishReached.{site_after}
use Rattle.te_script.proofs.OneMore.{moved_after}
use Rattle.te_history.specs.declared.entry.Entry.{Entry}
use Rattle.te_history.specs.declared.entry.Entry.TheVariants as entries
use Rattle.te_history.specs.State.{given}
use Rattle.te_history.specs.Follows.{caller_of, LooselyFollows, LooseFrom}
use Rattle.te_report.specs.OfScript.{taken, taken_from, WishedBy, WishedFrom}
use Rattle.te_report.specs.Report.{site_by, posted_site}
use Rattle.te_report.specs.Following.{cores_from, Waits, HasCore, core_site, shown_site, with_moved, followed}
use Rattle.te_report.proofs.Growing.{taken_more, taken_same, not_mine}
use Rattle.te_report.proofs.ThreadsWait.{posts_wait, all_fit}

-- the core of a thread
pub core_there : (h : List Entry) (k t : ℕ) (threads : List Thread) (x : Thread) → slice_get threads t ≡ Some x → slice_get (cores_from h k threads) t ≡ Some (core_after x (taken (k + t) h))
core_there h k t [] x is = absurd cc
core_there h k zero (y ∷ ys) x is = let same : y ≡ x = cc in λ i. Some (core_after (same i) (taken (sym (add-zero k) i) h))
core_there h k (suc t) (y ∷ ys) x is =
    let n : suc k + t ≡ k + suc t = omega arith in
    subst (λ (m : ℕ). slice_get (cores_from h (suc k) ys) t ≡ Some (core_after x (taken m h))) n (core_there h (suc k) t ys x is)

pub core_at : (h : List Entry) (t : ℕ) (threads : List Thread) (x : Thread) → slice_get threads t ≡ Some x → slice_get (cores_from h 0 threads) t ≡ Some (core_after x (taken t h))
core_at h t threads x is = subst (λ (m : ℕ). slice_get (cores_from h 0 threads) t ≡ Some (core_after x (taken m h))) (zero-add t) (core_there h 0 t threads x is)

pub no_core : (h : List Entry) (k t : ℕ) (threads : List Thread) → slice_get threads t ≡ None → slice_get (cores_from h k threads) t ≡ None
no_core h k t [] is = refl
no_core h k zero (y ∷ ys) is = absurd cc
no_core h k (suc t) (y ∷ ys) is = no_core h (suc k) t ys is

cores_same : (old new : List Entry) (k : ℕ) (threads : List Thread) → ((u : ℕ) → k ≤ u → taken u new ≡ taken u old) → cores_from old k threads ≡ cores_from new k threads
cores_same old new k [] same = refl
cores_same old new k (x ∷ xs) same =
    let rest = cores_same old new (suc k) xs (λ u le. same u (omega arith)) in
    let first = ap (core_after x) (sym (same k (omega arith))) in
    λ i. first i ∷ rest i

cores_set : (old new : List Entry) (k t : ℕ) (threads : List Thread) (x : Thread) → slice_get threads t ≡ Some x → ((u : ℕ) → k + t ≢ u → taken u new ≡ taken u old)
    → slice_set (cores_from old k threads) t (core_after x (taken (k + t) new)) ≡ cores_from new k threads
cores_set old new k t [] x is others = absurd cc
cores_set old new k zero (y ∷ ys) x is others =
    let same : x ≡ y = cc in
    let rest = cores_same old new (suc k) ys (λ u le. others u (λ e. omega arith)) in
    λ i. core_after (same i) (taken (add-zero k i) new) ∷ rest i
cores_set old new k (suc t) (y ∷ ys) x is others =
    let n : suc k + t ≡ k + suc t = omega arith in
    let first = ap (core_after y) (sym (others k (λ e. omega arith))) in
    let rest = subst (λ (m : ℕ). slice_set (cores_from old (suc k) ys) t (core_after x (taken m new)) ≡ cores_from new (suc k) ys) n
    (cores_set old new (suc k) t ys x is (λ u other. others u (λ e. other (n ∙ e)))) in
    λ i. first i ∷ rest i

set_at : (old new : List Entry) (t : ℕ) (threads : List Thread) (x : Thread) → slice_get threads t ≡ Some x → ((u : ℕ) → t ≢ u → taken u new ≡ taken u old)
    → slice_set (cores_from old 0 threads) t (core_after x (taken t new)) ≡ cores_from new 0 threads
set_at old new t threads x is others =
    subst (λ (m : ℕ). slice_set (cores_from old 0 threads) t (core_after x (taken m new)) ≡ cores_from new 0 threads) (zero-add t)
    (cores_set old new 0 t threads x is (λ u other. others u (λ e. other (zero-add t ∙ e))))

-- a thread that has an entry wished is there
pub has_thread : (o : Option Thread) (outs : List Outcome) (e : Entry) → WishedBy o outs e → (x : Thread) × (o ≡ Some x)
has_thread (Some x) outs e w = (x, refl)
has_thread None outs e w = absurd w

module _ (callers : ℕ) (threads : List Thread) (h : List Entry) where
  waiting : (t : ℕ) (x : Thread) → slice_get threads t ≡ Some x → IsWaiting (stand_after x (taken t h)).next → Waits (cores_from h 0 threads) t
  waiting t x there waits = record { core = core_after x (taken t h); found = core_at h t threads x there; waits = waits }

  -- who posts or takes waits for an outcome
  pub has_core : (e : Entry) → LooseFrom callers [] h → WishedFrom threads [] h → LooselyFollows callers h e → WishedBy (slice_get threads (caller_of e)) (taken (caller_of e) h) e
      → HasCore (cores_from h 0 threads) e
  has_core (entries.Post by ticket event) loose wished follows w =
      let x = has_thread (slice_get threads by) (taken by h) (entries.Post by ticket event) w in
      waiting by x.0 x.1 (posts_wait x.0 (taken by h) event (subst (λ (o : Option Thread). WishedBy o (taken by h) (entries.Post by ticket event)) x.1 w))
  has_core (entries.Take by ticket outcome) loose wished follows w =
      let x = has_thread (slice_get threads by) (taken by h) (entries.Take by ticket outcome) w in
      waiting by x.0 x.1 (all_fit callers threads h loose wished by x.0 (given ticket outcome) x.1 follows.1)
  has_core (entries.Commit by cert outcomes) loose wished follows w = tt
  has_core (entries.Withdraw by ticket) loose wished follows w = tt
  has_core (entries.Rest by) loose wished follows w = tt
  has_core (entries.Stuck by) loose wished follows w = tt
  has_core (entries.End by how) loose wished follows w = tt

  no_take : (e : Entry) → ((u : ℕ) → taken_from u e [] ≡ []) → cores_from h 0 threads ≡ cores_from (h ++ e ∷ []) 0 threads
  no_take e none = cores_same h (h ++ e ∷ []) 0 threads (λ u le. taken_same u h e (none u))

  -- the cores after one entry more
  pub cores_next : (e : Entry) → WishedBy (slice_get threads (caller_of e)) (taken (caller_of e) h) e → followed (cores_from h 0 threads) e ≡ cores_from (h ++ e ∷ []) 0 threads
  cores_next (entries.Post by ticket event) w = no_take (entries.Post by ticket event) (λ u. refl)
  cores_next (entries.Commit by cert outcomes) w = no_take (entries.Commit by cert outcomes) (λ u. refl)
  cores_next (entries.Withdraw by ticket) w = no_take (entries.Withdraw by ticket) (λ u. refl)
  cores_next (entries.Rest by) w = no_take (entries.Rest by) (λ u. refl)
  cores_next (entries.Stuck by) w = no_take (entries.Stuck by) (λ u. refl)
  cores_next (entries.End by how) w = no_take (entries.End by how) (λ u. refl)
  cores_next (entries.Take by ticket outcome) w =
      let e : Entry = entries.Take by ticket outcome in
      let x = has_thread (slice_get threads by) (taken by h) e w in
      let was : At = core_after x.0 (taken by h) in
      let moves = moved_after was (record was { stand = moved was.stand.emitted was.stand.next outcome }) (taken by h) outcome refl refl in
      let mine : taken by (h ++ e ∷ []) ≡ taken by h ++ outcome ∷ [] = taken_more by h e ∙ ap (λ (b : Bool). taken by h ++ cond b (outcome ∷ []) []) (eq-eqb by by refl) in
      ap (with_moved (cores_from h 0 threads) by outcome) (core_at h by threads x.0 x.1)
      ∙ ap (slice_set (cores_from h 0 threads) by) (moves ∙ ap (core_after x.0) (sym mine))
      ∙ set_at h (h ++ e ∷ []) by threads x.0 x.1 (λ u other. taken_same u h e (not_mine u by ticket outcome other))

-- the site that the cores show is that of the wish
pub sites_shown : (script : Program) (h : List Entry) (e : Entry) → shown_site (cores_from h 0 script.threads) e ≡ posted_site script h e
sites_shown script h (entries.Post by ticket event) = by_thread (slice_get script.threads by) refl
  where
    by_thread : (o : Option Thread) → slice_get script.threads by ≡ o → core_site (slice_get (cores_from h 0 script.threads) by) ≡ site_by (slice_get script.threads by) (taken by h)
    by_thread (Some x) is = ap core_site (core_at h by script.threads x is) ∙ site_after x (taken by h) ∙ ap (λ (o : Option Thread). site_by o (taken by h)) (sym is)
    by_thread None is = ap core_site (no_core h 0 by script.threads is) ∙ ap (λ (o : Option Thread). site_by o (taken by h)) (sym is)
sites_shown script h (entries.Commit by cert outcomes) = refl
sites_shown script h (entries.Withdraw by ticket) = refl
sites_shown script h (entries.Take by ticket outcome) = refl
sites_shown script h (entries.Rest by) = refl
sites_shown script h (entries.Stuck by) = refl
sites_shown script h (entries.End by how) = refl
