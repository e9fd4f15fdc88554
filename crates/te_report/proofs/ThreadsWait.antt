-- In a history of a script a thread that is parked, or given an outcome, waits for one.
use Rattle.std.proofs.Common.{◌≡◌, ◌≢◌, ◌⊎◌, inl, inr, ℕ, List, [], ◌∷◌, ◌++◌, Option, Some, refl, sym, ap, subst, ◌∙◌}
use Rattle.std.specs.Prelude.{slice_get}
use Rattle.te_terms.specs.declared.value.Atom.{Atom}
use Rattle.te_terms.specs.declared.event.Outcome.{Outcome}
use Rattle.te_terms.specs.Terms.{Term}
use Rattle.te_script.specs.Scripts.{Thread}
use Rattle.te_script.specs.Wishes.{syncs, wish, wish_of}
use Rattle.te_script.specs.Cores.{Next, waits, ended, failed, stand_after, doing_of, IsWaiting}
use Rattle.te_script.proofs.WishReached.{wish_after}
use Rattle.te_history.specs.declared.entry.Entry.{Entry}
use Rattle.te_history.specs.declared.entry.Entry.TheVariants as entries
use Rattle.te_history.specs.declared.status.How.TheVariants as ways
use Rattle.te_history.specs.declared.status.How.{How}
use Rattle.te_history.specs.State.{Standing, idle, parked, given, ended as has_ended, State, state, changed, with_standing, with_given}
use Rattle.te_history.specs.Follows.{Stands, MayEndAs, caller_of, LooselyFollows, LooseFrom}
use Rattle.te_history.proofs.AfterEntry.{state-after}
use Rattle.te_history.proofs.Commits.{same_or_other, stands_put, stands_other, Touch, untouched, touched, touch}
use Rattle.te_report.specs.OfScript.{taken, taken_from, WishedBy, WishedFrom}
use Rattle.te_report.proofs.Growing.{taken_same, not_mine, grows_wished}
use Rattle.std.proofs.Common.{replicate, zero, suc}
use Rattle.te_history.proofs.GivenOnce.{all_idle}
use Rattle.te_terms.proofs.Lists.{same_item}

-- who is parked or given an outcome waits
abbrev pub Fits : Standing → Next → Type 0
Fits idle next = Unit {0}
Fits (parked ticket event) next = IsWaiting next
Fits (given ticket outcome) next = IsWaiting next
Fits has_ended next = Unit {0}

-- each thread stands so after the history
abbrev pub AllFit : ℕ → List Thread → List Entry → Type 0
AllFit callers threads h = (t : ℕ) (x : Thread) (s : Standing) → slice_get threads t ≡ Some x → Stands (state callers h) t s → Fits s (stand_after x (taken t h)).next

-- a thread that wishes to synchronise waits
pub waits_for : (emitted : List (List Atom)) (next : Next) (event : Term) → wish_of emitted (doing_of next) ≡ syncs event → IsWaiting next
waits_for emitted (waits at r t rest) event e = tt
waits_for emitted ended event e = absurd cc
waits_for emitted (failed v) event e = absurd cc

pub posts_wait : (x : Thread) (outs : List Outcome) (event : Term) → wish x outs ≡ syncs event → IsWaiting (stand_after x outs).next
posts_wait x outs event is = waits_for (stand_after x outs).emitted (stand_after x outs).next event (wish_after x outs ∙ is)

module _ (callers : ℕ) (threads : List Thread) (h : List Entry) (e : Entry) (all : AllFit callers threads h) where
  -- what holds of the state that the entry leaves
  abbrev AfterIt : Type 0
  AfterIt = (t : ℕ) (x : Thread) (s : Standing) → slice_get threads t ≡ Some x → Stands (changed (state callers h) e) t s → Fits s (stand_after x (taken t (h ++ e ∷ []))).next

  -- one caller stands otherwise
  otherwise : (by : ℕ) (old new : Standing) → Stands (state callers h) by old → changed (state callers h) e ≡ with_standing by new (state callers h)
      → ((u : ℕ) → by ≢ u → taken_from u e [] ≡ [])
      → ((x : Thread) → slice_get threads by ≡ Some x → Fits new (stand_after x (taken by (h ++ e ∷ []))).next) → AfterIt
  otherwise by old new stood change others fits = λ t x s there stands. by_caller t x s there stands (same_or_other by t)
    where
      by_caller : (t : ℕ) (x : Thread) (s : Standing) → slice_get threads t ≡ Some x → Stands (changed (state callers h) e) t s → (by ≡ t) ⊎ (by ≢ t)
          → Fits s (stand_after x (taken t (h ++ e ∷ []))).next
      by_caller t x s there stands (inl same) =
          let put : Stands (changed (state callers h) e) t new =
          subst (λ (k : ℕ). Stands (changed (state callers h) e) k new) same
          (subst (λ (after : State). Stands after by new) (sym change) (stands_put (state callers h) by old new stood)) in
          let is = same_item new s (slice_get (changed (state callers h) e).callers t) put stands in
          let mine = fits x (ap (slice_get threads) same ∙ there) in
          subst (λ (k : ℕ). Fits s (stand_after x (taken k (h ++ e ∷ []))).next) same (subst (λ (w : Standing). Fits w (stand_after x (taken by (h ++ e ∷ []))).next) is mine)
      by_caller t x s there stands (inr other) =
          let stayed = ap (λ (after : State). slice_get after.callers t) change ∙ stands_other (state callers h) by t new other in
          let was : Stands (state callers h) t s = sym stayed ∙ stands in
          subst (λ (os : List Outcome). Fits s (stand_after x os).next) (sym (taken_same t h e (others t other))) (all t x s there was)

  -- nobody stands otherwise
  unchanged : changed (state callers h) e ≡ changed (state callers h) e → ((t : ℕ) (s : Standing) → Stands (changed (state callers h) e) t s → Stands (state callers h) t s)
      → ((u : ℕ) → taken_from u e [] ≡ []) → AfterIt
  unchanged _ back none = λ t x s there stands. subst (λ (os : List Outcome). Fits s (stand_after x os).next) (sym (taken_same t h e (none t))) (all t x s there (back t s stands))

fits_after : (callers : ℕ) (threads : List Thread) (h : List Entry) (e : Entry) → LooselyFollows callers h e → WishedBy (slice_get threads (caller_of e)) (taken (caller_of e) h) e
    → AllFit callers threads h → (t : ℕ) (x : Thread) (s : Standing) → slice_get threads t ≡ Some x → Stands (changed (state callers h) e) t s → Fits s (stand_after x (taken t (h ++ e ∷ []))).next
fits_after callers threads h (entries.Post by ticket event) follows wished all =
    otherwise callers threads h (entries.Post by ticket event) all by idle (parked ticket event) follows.1 refl (λ u other. refl)
    (λ x there. subst (λ (os : List Outcome). IsWaiting (stand_after x os).next) (sym (taken_same by h (entries.Post by ticket event) refl))
    (posts_wait x (taken by h) event (subst (λ (o : Option Thread). WishedBy o (taken by h) (entries.Post by ticket event)) there wished)))
fits_after callers threads h (entries.Commit by cert outcomes) follows wished all = λ t x s there stands. by_touch t x s there stands (touch t (state callers h) cert outcomes follows.2)
  where
    by_touch : (t : ℕ) (x : Thread) (s : Standing) → slice_get threads t ≡ Some x → Stands (with_given cert.members outcomes (state callers h)) t s
        → Touch t cert.members outcomes (state callers h) (with_given cert.members outcomes (state callers h)) → Fits s (stand_after x (taken t (h ++ entries.Commit by cert outcomes ∷ []))).next
    by_touch t x s there stands (untouched same none) =
        subst (λ (os : List Outcome). Fits s (stand_after x os).next) (sym (taken_same t h (entries.Commit by cert outcomes) refl)) (all t x s there (sym same ∙ stands))
    by_touch t x s there stands (touched ticket event due was is one none) =
        let so = same_item (given ticket due) s (slice_get (with_given cert.members outcomes (state callers h)).callers t) is stands in
        subst (λ (os : List Outcome). Fits s (stand_after x os).next) (sym (taken_same t h (entries.Commit by cert outcomes) refl))
        (subst (λ (w : Standing). Fits w (stand_after x (taken t h)).next) so (all t x (parked ticket event) there was))
fits_after callers threads h (entries.Withdraw by ticket) follows wished all =
    otherwise callers threads h (entries.Withdraw by ticket) all by (parked ticket follows.1.0) idle follows.1.1 refl (λ u other. refl) (λ x there. tt)
fits_after callers threads h (entries.Take by ticket outcome) follows wished all =
    otherwise callers threads h (entries.Take by ticket outcome) all by (given ticket outcome) idle follows.1 refl (λ u other. not_mine u by ticket outcome other) (λ x there. tt)
fits_after callers threads h (entries.Rest by) follows wished all = unchanged callers threads h (entries.Rest by) all refl (λ t s stands. stands) (λ u. refl)
fits_after callers threads h (entries.Stuck by) follows wished all = unchanged callers threads h (entries.Stuck by) all refl (λ t s stands. stands) (λ u. refl)
fits_after callers threads h (entries.End by how) follows wished all =
    let was = stood how follows in
    otherwise callers threads h (entries.End by how) all by was.0 has_ended was.1 refl (λ u other. refl) (λ x there. tt)
  where
    stood : (how : How) → MayEndAs (state callers h) by how → (s : Standing) × Stands (state callers h) by s
    stood (ways.Done values) ends = (idle, ends.1)
    stood (ways.Raised value) ends = (idle, ends.1)
    stood ways.Stuck ends = (_, ends.1.2)

pub all_fit : (callers : ℕ) (threads : List Thread) (h : List Entry) → LooseFrom callers [] h → WishedFrom threads [] h → AllFit callers threads h
all_fit callers threads h loose wished =
    grows_wished callers threads (AllFit callers threads)
    (λ k e follows by all. subst (λ (s : State). (t : ℕ) (x : Thread) (w : Standing) → slice_get threads t ≡ Some x → Stands s t w → Fits w (stand_after x (taken t (k ++ e ∷ []))).next)
    (sym (state-after callers k e)) (fits_after callers threads k e follows by all))
    [] h loose wished
    (λ t x s there stands. subst (λ (w : Standing). Fits w (stand_after x []).next) (sym (all_idle callers t s stands)) tt)
