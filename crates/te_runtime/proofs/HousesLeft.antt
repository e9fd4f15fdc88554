-- What the workers of all callers leave is a house.
use Rattle.std.proofs.Common.{◌≡◌, ◌≢◌, ◌⊎◌, inl, inr, ◌≤◌, ◌<◌, ℕ, zero, suc, Bool, true, false, cond, eqb, eq-eqb, ne_eqb}
use Rattle.std.proofs.Common.{List, [], ◌∷◌, ◌++◌, length, map, take, drop, Option, Some, None, All, Contains, get_or, refl, sym, ap, ◌∙◌, subst, arith, append_assoc}
use Rattle.std.specs.List.{AllByRecursion, AllZip, filter, slice_get}
use Rattle.std.proofs.lemmas.Option.{slice_get_within}
use Rattle.std.proofs.lemmas.List.{append-nil}
use Rattle.std.proofs.lemmas.List.Elements.{All-contains}
use mathlib.Core.List.{IsPrefix}
use Rattle.te_terms.specs.declared.event.Outcome.{Outcome}
use Rattle.te_script.specs.Scripts.{Thread}
use Rattle.te_script.specs.Wishes.{wish}
use Rattle.te_script.specs.Cores.{At, core_after}
use Rattle.te_lock.specs.Lock.{Knowledge, Lock}
use Rattle.te_lock.specs.Entries.{entries_by}
use Rattle.te_lock.proofs.Beginnings.{entries_by-append}
use Rattle.te_history.specs.declared.entry.Entry.{Entry}
use Rattle.te_history.specs.declared.entry.Entry.TheVariants as entries
use Rattle.te_history.specs.declared.status.How.{How}
use Rattle.te_history.specs.declared.status.How.TheVariants as ways
use Rattle.te_history.specs.State.{Standing, idle, ended, State, with_standing, state}
use Rattle.te_history.specs.Follows.{caller_of, Stands, MayEndAs, IsLegal, IsLoose}
use Rattle.te_history.proofs.AfterEntry.{length-state, state-after}
use Rattle.te_history.proofs.Commits.{same_or_other, stands_put}
use Rattle.te_history.proofs.Growing.{later_part, legal_is_loose}
use Rattle.te_history.proofs.Lasting.{ended_stays}
use Rattle.te_history.proofs.Places.{all_by_places}
use Rattle.te_report.specs.OfScript.{taken, taken_from, IsWished, WishedBy, WishedFrom}
use Rattle.te_report.specs.Whole.{IsWhole}
use Rattle.te_board.specs.Boards.{BoardLog, IsLawful}
use Rattle.te_search.proofs.EndsMet.{contains_at}
use Rattle.te_serial.specs.Houses.{texts_of, IsHouse, CommitsTightly}
use Rattle.te_runtime.specs.declared.working.Job.{Job}
use Rattle.te_runtime.specs.Refusals.{HasStuck, HasRest}
use Rattle.te_runtime.specs.Households.{withdrawals_by, is_withdrawal_by, IsHousehold}
use Rattle.te_runtime.specs.Working.{WishedAlone, IsRun, IsJobHeld, Worked, WorkHasStopped, AreJobsOf}
use Rattle.te_runtime.proofs.OwnEntries.{in_whole, in_filtered}
use Rattle.te_terms.proofs.Lists.{all_at, get_at, get_some, get-longer}

-- ---- one caller's part of a history

kept_by : (e : Entry) (t : ℕ) (es : List Entry) → caller_of e ≡ t → entries_by caller_of t (e ∷ es) ≡ e ∷ entries_by caller_of t es
kept_by e t es by = ap (λ (b : Bool). cond b (e ∷ entries_by caller_of t es) (entries_by caller_of t es)) (eq-eqb (caller_of e) t by)

left_out : (e : Entry) (t : ℕ) (es : List Entry) → caller_of e ≢ t → entries_by caller_of t (e ∷ es) ≡ entries_by caller_of t es
left_out e t es other = ap (λ (b : Bool). cond b (e ∷ entries_by caller_of t es) (entries_by caller_of t es)) (ne_eqb (caller_of e) t other)

-- others take nothing of a thread, and withdraw nothing
others_take : (t : ℕ) (e : Entry) (os : List Outcome) → caller_of e ≢ t → taken_from t e os ≡ os
others_take t (entries.Take by ticket outcome) os other = ap (λ (b : Bool). cond b (outcome ∷ os) os) (ne_eqb by t other)
others_take t (entries.Post by ticket event) os other = refl
others_take t (entries.Commit by cert outcomes) os other = refl
others_take t (entries.Withdraw by ticket) os other = refl
others_take t (entries.Rest by) os other = refl
others_take t (entries.Stuck by) os other = refl
others_take t (entries.End by how) os other = refl

others_withdraw : (t : ℕ) (e : Entry) → caller_of e ≢ t → is_withdrawal_by t e ≡ false
others_withdraw t (entries.Withdraw by ticket) other = ne_eqb by t other
others_withdraw t (entries.Take by ticket outcome) other = refl
others_withdraw t (entries.Post by ticket event) other = refl
others_withdraw t (entries.Commit by cert outcomes) other = refl
others_withdraw t (entries.Rest by) other = refl
others_withdraw t (entries.Stuck by) other = refl
others_withdraw t (entries.End by how) other = refl

pub taken_own : (t : ℕ) (h : List Entry) → taken t (entries_by caller_of t h) ≡ taken t h
taken_own t [] = refl
taken_own t (e ∷ es) = elim (same_or_other (caller_of e) t) [
  | inl by ↦ ap (taken t) (kept_by e t es by) ∙ ap (λ (os : List Outcome). taken_from t e os) (taken_own t es)
  | inr other ↦ ap (taken t) (left_out e t es other) ∙ taken_own t es ∙ sym (others_take t e (taken t es) other)
]

pub withdrawals_own : (t : ℕ) (h : List Entry) → withdrawals_by t (entries_by caller_of t h) ≡ withdrawals_by t h
withdrawals_own t [] = refl
withdrawals_own t (e ∷ es) = elim (same_or_other (caller_of e) t) [
  | inl by ↦ ap (withdrawals_by t) (kept_by e t es by) ∙ ap (λ (n : ℕ). cond (is_withdrawal_by t e) (suc n) n) (withdrawals_own t es)
  | inr other ↦
      ap (withdrawals_by t) (left_out e t es other) ∙ withdrawals_own t es
      ∙ sym (ap (λ (b : Bool). cond b (suc (withdrawals_by t es)) (withdrawals_by t es)) (others_withdraw t e other))
]

-- ---- what each thread wished makes up a history of the texts

-- each thread's entries are its wishes, and no other caller has any
pub record AreWishes (texts : List Thread) (before h : List Entry) : Type 0 where
  pub each : (t : ℕ) (text : Thread) → slice_get texts t ≡ Some text → WishedAlone text t (entries_by caller_of t before) (entries_by caller_of t h)
  pub none : (t : ℕ) → slice_get texts t ≡ None → entries_by caller_of t h ≡ []

wishes_then : (texts : List Thread) (before : List Entry) (e : Entry) (es : List Entry) → AreWishes texts before (e ∷ es)
    → AreWishes texts (before ++ e ∷ []) es
wishes_then texts before e es w = record {
  each = λ t text at. elim (same_or_other (caller_of e) t) [
    | inl by ↦
        let now : WishedAlone text t (entries_by caller_of t before) (e ∷ entries_by caller_of t es) =
        subst (WishedAlone text t (entries_by caller_of t before)) (kept_by e t es by) (w.each t text at) in
        subst (λ (b : List Entry). WishedAlone text t b (entries_by caller_of t es))
        (sym (entries_by-append caller_of t before (e ∷ []) ∙ ap (λ (l : List Entry). entries_by caller_of t before ++ l) (kept_by e t [] by))) now.1
    | inr other ↦
        subst (λ (b : List Entry). WishedAlone text t b (entries_by caller_of t es))
        (sym (entries_by-append caller_of t before (e ∷ []) ∙ ap (λ (l : List Entry). entries_by caller_of t before ++ l) (left_out e t [] other)
        ∙ append-nil (entries_by caller_of t before)))
        (subst (WishedAlone text t (entries_by caller_of t before)) (left_out e t es other) (w.each t text at))
  ];
  none = λ t at. elim (same_or_other (caller_of e) t) [
    | inl by ↦ let is : e ∷ entries_by caller_of t es ≡ [] = sym (kept_by e t es by) ∙ w.none t at in absurd cc
    | inr other ↦ sym (left_out e t es other) ∙ w.none t at
  ];
}

wishes_first : (texts : List Thread) (before : List Entry) (e : Entry) (es : List Entry) → AreWishes texts before (e ∷ es)
    → WishedBy (slice_get texts (caller_of e)) (taken (caller_of e) before) e
wishes_first texts before e es w = by_text (slice_get texts (caller_of e)) refl
  where
    by_text : (o : Option Thread) → slice_get texts (caller_of e) ≡ o → WishedBy o (taken (caller_of e) before) e
    by_text None at = let is : e ∷ entries_by caller_of (caller_of e) es ≡ [] = sym (kept_by e (caller_of e) es refl) ∙ w.none (caller_of e) at in absurd cc
    by_text (Some text) at =
        let now : WishedAlone text (caller_of e) (entries_by caller_of (caller_of e) before) (e ∷ entries_by caller_of (caller_of e) es) =
        subst (WishedAlone text (caller_of e) (entries_by caller_of (caller_of e) before)) (kept_by e (caller_of e) es refl) (w.each (caller_of e) text at) in
        subst (λ (os : List Outcome). IsWished (wish text os) e) (taken_own (caller_of e) before) now.0

pub wishes_from : (texts : List Thread) (before h : List Entry) → AreWishes texts before h → WishedFrom texts before h
wishes_from texts before [] w = tt
wishes_from texts before (e ∷ es) w = (wishes_first texts before e es w, wishes_from texts (before ++ e ∷ []) es (wishes_then texts before e es w))

-- ---- a caller with an end has ended

parted : (h : List Entry) (k : ℕ) (e : Entry) → slice_get h k ≡ Some e → take k h ++ e ∷ drop (suc k) h ≡ h
parted [] k e at = absurd cc
parted (x ∷ xs) zero e at = let same : x ≡ e = cc in ap (λ (y : Entry). y ∷ xs) (sym same)
parted (x ∷ xs) (suc k) e at = ap (λ (l : List Entry). x ∷ l) (parted xs k e at)

ends_now : (s : State) (t : ℕ) (how : How) → MayEndAs s t how → Stands (with_standing t ended s) t ended
ends_now s t (ways.Done values) may = stands_put s t idle ended may.1
ends_now s t (ways.Raised value) may = stands_put s t idle ended may.1
ends_now s t ways.Stuck may = stands_put s t _ ended may.1.2

pub end_stands : (callers : ℕ) (h : List Entry) (k t : ℕ) (how : How) → IsLoose callers h → slice_get h k ≡ Some (entries.End t how)
    → Stands (state callers h) t ended
end_stands callers h k t how loose at =
    let e : Entry = entries.End t how in
    let before : List Entry = take k h in
    let rest : List Entry = drop (suc k) h in
    let is : before ++ e ∷ rest ≡ h = parted h k e at in
    let follows : MayEndAs (state callers before) t how = (later_part callers before (e ∷ rest) (subst (IsLoose callers) (sym is) loose)).0 in
    let now : Stands (state callers (before ++ e ∷ [])) t ended =
    subst (λ (s : State). Stands s t ended) (sym (state-after callers before e)) (ends_now (state callers before) t how follows) in
    let again : (before ++ e ∷ []) ++ rest ≡ h = append_assoc before (e ∷ []) rest ∙ is in
    subst (λ (l : List Entry). Stands (state callers l) t ended) again
    (ended_stays callers (before ++ e ∷ []) rest t (subst (IsLoose callers) (sym again) loose) now)

-- ---- the jobs that came back

-- the job of each caller, by number, has come to its end
pub record AreDone (threads : List Thread) (lock : Lock) (done : List Job) : Type 0 where
  pub count : length done ≡ length threads
  pub each : (k : ℕ) (d : Job) → slice_get done k ≡ Some d
      → IsJobHeld lock d × (d.pass.caller ≡ k) × (slice_get threads k ≡ Some d.core.thread) × WorkHasStopped d.pass

zip_length : (R : Job → Job → Type 0) (xs ys : List Job) → AllZip R xs ys → length ys ≡ length xs
zip_length R [] [] z = refl
zip_length R [] (y ∷ ys) z = absurd z
zip_length R (x ∷ xs) [] z = absurd z
zip_length R (x ∷ xs) (y ∷ ys) z = ap suc (zip_length R xs ys z.1)

zip_at : (R : Job → Job → Type 0) (xs ys : List Job) (k : ℕ) (y : Job) → AllZip R xs ys → slice_get ys k ≡ Some y
    → (x : Job) × (slice_get xs k ≡ Some x) × R x y
zip_at R xs [] k y z at = absurd cc
zip_at R [] (b ∷ bs) k y z at = absurd z
zip_at R (a ∷ rest) (b ∷ bs) zero y z at = let same : b ≡ y = cc in (a, refl, subst (R a) same z.0)
zip_at R (a ∷ rest) (b ∷ bs) (suc k) y z at = zip_at R rest bs k y z.1 at

pub are_done : (threads : List Thread) (lock : Lock) (jobs done : List Job) → AreJobsOf threads lock jobs → AllZip Worked jobs done → AreDone threads lock done
are_done threads lock jobs done are z = record {
  count = zip_length Worked jobs done z ∙ are.count;
  each = λ k d at.
      let from = zip_at Worked jobs done k d z at in
      let job = are.each k from.0 from.1 in
      let goes = from.2.goes in (
        subst (λ (l : Lock). IsJobHeld l d) job.0.held.here goes.held,
        goes.caller ∙ job.1,
        job.2 ∙ ap (λ (x : Thread). Some x) (sym goes.text),
        from.2.stopped,
      );
}

-- ---- lists by places

pub all_from : {A : Type 0} (P : A → Type 0) (xs : List A) → ((k : ℕ) (x : A) → slice_get xs k ≡ Some x → P x) → All P xs
all_from P xs each k d low = each k (get_or xs k d) (get_at xs k d low)

all_here : {A : Type 0} (P : A → Type 0) (xs : List A) (k : ℕ) (x : A) → All P xs → slice_get xs k ≡ Some x → P x
all_here P xs k x all at = All-contains P xs x all (contains_at xs k x at)

map_at : {A B : Type 0} (f : A → B) (xs : List A) (k : ℕ) (x : A) → slice_get xs k ≡ Some x → slice_get (map f xs) k ≡ Some (f x)
map_at f [] k x at = absurd cc
map_at f (y ∷ ys) zero x at = let same : y ≡ x = cc in ap (λ z. Some (f z)) same
map_at f (y ∷ ys) (suc k) x at = map_at f ys k x at

map_from : {A B : Type 0} (f : A → B) (xs : List A) (k : ℕ) (y : B) → slice_get (map f xs) k ≡ Some y → (x : A) × (slice_get xs k ≡ Some x) × (y ≡ f x)
map_from f [] k y at = absurd cc
map_from f (x ∷ xs) zero y at = let same : f x ≡ y = cc in (x, refl, sym same)
map_from f (x ∷ xs) (suc k) y at = map_from f xs k y at

map_length : {A B : Type 0} (f : A → B) (xs : List A) → length (map f xs) ≡ length xs
map_length f [] = refl
map_length f (x ∷ xs) = ap suc (map_length f xs)

same_places : {A : Type 0} (xs ys : List A) → length xs ≡ length ys → ((k : ℕ) (x : A) → slice_get xs k ≡ Some x → slice_get ys k ≡ Some x) → xs ≡ ys
same_places [] [] count each = refl
same_places [] (y ∷ ys) count each = absurd (omega (arith, count))
same_places (x ∷ xs) [] count each = absurd (omega (arith, count))
same_places (x ∷ xs) (y ∷ ys) count each =
    let head : Some y ≡ Some x = each 0 x refl in
    let here : x ≡ y = cc in
    let rest : xs ≡ ys = same_places xs ys (omega (arith, count)) (λ k z at. each (suc k) z at) in
    cc

none_past : {A : Type 0} (xs : List A) (k : ℕ) → slice_get xs k ≡ None → length xs ≤ k
none_past [] k at = omega arith
none_past (x ∷ xs) zero at = absurd cc
none_past (x ∷ xs) (suc k) at = let past = none_past xs k at in omega (arith, past)

-- ---- what the close shows

abbrev pub passes_of : List Job → List (Knowledge Entry)
passes_of done = map (λ d. d.pass) done

abbrev pub cores_of : List Job → List At
cores_of done = map (λ d. d.core) done

module _ (threads : List Thread) (lock : Lock) (done : List Job) (are : AreDone threads lock done) where
  pub passes_here : All (λ (p : Knowledge Entry). p.lock ≡ lock) (passes_of done)
  passes_here = all_from (λ (p : Knowledge Entry). p.lock ≡ lock) (passes_of done) (λ k p at.
      let from = map_from (λ (d : Job). d.pass) done k p at in
      ap (λ (q : Knowledge Entry). q.lock) from.2 ∙ (are.each k from.0 from.1).0.here)

  pub passes_idle : All (λ (p : Knowledge Entry). p.has_turn ≡ false) (passes_of done)
  passes_idle = all_from (λ (p : Knowledge Entry). p.has_turn ≡ false) (passes_of done) (λ k p at.
      let from = map_from (λ (d : Job). d.pass) done k p at in
      ap (λ (q : Knowledge Entry). q.has_turn) from.2 ∙ (are.each k from.0 from.1).0.idle)

  pub everyone : lock.callers ≡ length threads → (k : ℕ) → k < lock.callers → Contains (map (λ (p : Knowledge Entry). p.caller) (passes_of done)) k
  everyone callers k low =
      let there = get_some done k (omega (arith, low, callers, are.count)) in
      let at : slice_get (map (λ (p : Knowledge Entry). p.caller) (passes_of done)) k ≡ Some there.0.pass.caller =
      map_at (λ (p : Knowledge Entry). p.caller) (passes_of done) k there.0.pass (map_at (λ (d : Job). d.pass) done k there.0 there.1) in
      contains_at (map (λ (p : Knowledge Entry). p.caller) (passes_of done)) k k (at ∙ ap (λ (n : ℕ). Some n) (are.each k there.0 there.1).1)

  pub texts_are : texts_of (cores_of done) ≡ threads
  texts_are =
      same_places (texts_of (cores_of done)) threads
      (map_length (λ (c : At). c.thread) (cores_of done) ∙ map_length (λ (d : Job). d.core) done ∙ are.count)
      (λ k text at.
      let core = map_from (λ (c : At). c.thread) (cores_of done) k text at in
      let job = map_from (λ (d : Job). d.core) done k core.0 core.1 in
      (are.each k job.0 job.1).2 ∙ ap (λ (x : Thread). Some x) (sym (core.2 ∙ ap (λ (c : At). c.thread) job.2)))

  module _ (board : BoardLog) (count : lock.callers ≡ length threads) (callers : board.callers ≡ lock.callers)
      (law : IsLawful lock.callers board.entries) (unmade : (k : ℕ) → lock.callers ≤ k → entries_by caller_of k board.entries ≡ [])
      (own : All (λ (p : Knowledge Entry). entries_by caller_of p.caller board.entries ≡ p.own) (passes_of done))
      (begins : All (λ (p : Knowledge Entry). IsPrefix p.read board.entries) (passes_of done)) where
    pass_at : (k : ℕ) (d : Job) → slice_get done k ≡ Some d → slice_get (passes_of done) k ≡ Some d.pass
    pass_at k d at = map_at (λ (x : Job). x.pass) done k d at

    own_at : (k : ℕ) (d : Job) → slice_get done k ≡ Some d → d.pass.own ≡ entries_by caller_of k board.entries
    own_at k d at =
        sym (all_here (λ (p : Knowledge Entry). entries_by caller_of p.caller board.entries ≡ p.own) (passes_of done) k d.pass own (pass_at k d at))
        ∙ ap (λ (t : ℕ). entries_by caller_of t board.entries) (are.each k d at).1

    run_at : (k : ℕ) (d : Job) → slice_get done k ≡ Some d → IsRun k (entries_by caller_of k board.entries) d.core
    run_at k d at =
        subst (λ (l : List Entry). IsRun k l d.core) (own_at k d at) (subst (λ (t : ℕ). IsRun t d.pass.own d.core) (are.each k d at).1 (are.each k d at).0.run)

    -- nobody beyond the jobs has an entry
    none_at : (k : ℕ) → slice_get done k ≡ None → entries_by caller_of k board.entries ≡ []
    none_at k at = let past = none_past done k at in unmade k (omega (arith, past, count, are.count))

    of_texts : WishedFrom (texts_of (cores_of done)) [] board.entries
    of_texts = wishes_from (texts_of (cores_of done)) [] board.entries (record {
      each = λ t text at.
          let core = map_from (λ (c : At). c.thread) (cores_of done) t text at in
          let job = map_from (λ (d : Job). d.core) done t core.0 core.1 in
          subst (λ (x : Thread). WishedAlone x t [] (entries_by caller_of t board.entries)) (sym (core.2 ∙ ap (λ (c : At). c.thread) job.2))
          (run_at t job.0 job.1).wished;
      none = λ t at.
          let past = none_past (texts_of (cores_of done)) t at in
          let as_many = map_length (λ (c : At). c.thread) (cores_of done) ∙ map_length (λ (d : Job). d.core) done in
          unmade t (omega (arith, past, as_many, count, are.count));
    })

    each_stands : (t : ℕ) (core : At) → slice_get (cores_of done) t ≡ Some core → core ≡ core_after core.thread (taken t board.entries)
    each_stands t core at =
        let job = map_from (λ (d : Job). d.core) done t core at in
        let run = run_at t job.0 job.1 in
        subst (λ (c : At). c ≡ core_after c.thread (taken t board.entries)) (sym job.2)
        (run.stands ∙ ap (core_after job.0.core.thread) (taken_own t board.entries))

    -- each entry is one of its caller's
    each_tight : (k : ℕ) (e : Entry) → slice_get board.entries k ≡ Some e → CommitsTightly e
    each_tight k e at = by_job (slice_get done (caller_of e)) refl
      where
        there : (i : ℕ) × (slice_get (entries_by caller_of (caller_of e) board.entries) i ≡ Some e)
        there = in_filtered (λ (x : Entry). eqb (caller_of x) (caller_of e)) board.entries k e at (eq-eqb (caller_of e) (caller_of e) refl)

        by_job : (o : Option Job) → slice_get done (caller_of e) ≡ o → CommitsTightly e
        by_job None is =
            let gone : slice_get (entries_by caller_of (caller_of e) board.entries) there.0 ≡ None =
            ap (λ (l : List Entry). slice_get l there.0) (none_at (caller_of e) is) in
            let both : Some e ≡ None = sym there.1 ∙ gone in
            absurd cc
        by_job (Some d) is = all_at CommitsTightly (entries_by caller_of (caller_of e) board.entries) there.0 e (run_at (caller_of e) d is).tight there.1

    withdrawn_once : (t : ℕ) → withdrawals_by t board.entries ≤ 1
    withdrawn_once t = by_job (slice_get done t) refl
      where
        by_job : (o : Option Job) → slice_get done t ≡ o → withdrawals_by t board.entries ≤ 1
        by_job None is =
            let n : withdrawals_by t board.entries ≡ 0 = sym (withdrawals_own t board.entries) ∙ ap (withdrawals_by t) (none_at t is) in omega (arith, n)
        by_job (Some d) is =
            let n : withdrawals_by d.pass.caller d.pass.own ≡ withdrawals_by t board.entries =
            ap (λ (k : ℕ). withdrawals_by k d.pass.own) (are.each t d is).1 ∙ ap (withdrawals_by t) (own_at t d is) ∙ withdrawals_own t board.entries in
            let once = (are.each t d is).0.once in
            omega (arith, n, once)

    pub household : IsHousehold board (cores_of done)
    household = record {
      house = record {
        callers = map_length (λ (d : Job). d.core) done ∙ are.count ∙ sym count ∙ sym callers;
        stand = each_stands;
        of_texts = of_texts;
      };
      tight = all_by_places CommitsTightly board.entries each_tight;
      once = withdrawn_once;
    }

    -- what a pass has read stands in the history
    read_there : (k : ℕ) (d : Job) (i : ℕ) (e : Entry) → slice_get done k ≡ Some d → slice_get d.pass.read i ≡ Some e → slice_get board.entries i ≡ Some e
    read_there k d i e at is =
        let begin = all_here (λ (p : Knowledge Entry). IsPrefix p.read board.entries) (passes_of done) k d.pass begins (pass_at k d at) in
        subst (λ (l : List Entry). slice_get l i ≡ Some e) begin.1 (get-longer d.pass.read begin.0 i e is)

    stopped_ended : (k : ℕ) (d : Job) → slice_get done k ≡ Some d → ¬ HasRest board → ¬ HasStuck board → WorkHasStopped d.pass
        → Stands (state board.callers board.entries) k ended
    stopped_ended k d at awake running (inr (inl (i, by, is))) = absurd (running (i, by, read_there k d i (entries.Stuck by) at is))
    stopped_ended k d at awake running (inr (inr (i, by, is))) = absurd (awake (i, by, read_there k d i (entries.Rest by) at is))
    stopped_ended k d at awake running (inl (i, how, is)) =
        let mine : slice_get (entries_by caller_of k board.entries) i ≡ Some (entries.End k how) =
        ap (λ (l : List Entry). slice_get l i) (sym (own_at k d at)) ∙ is ∙ ap (λ (t : ℕ). Some (entries.End t how)) (are.each k d at).1 in
        let there = in_whole (λ (x : Entry). eqb (caller_of x) k) board.entries i (entries.End k how) mine in
        end_stands board.callers board.entries there.0 k how
        (legal_is_loose board.callers board.entries (subst (λ (n : ℕ). IsLegal n board.entries) (sym callers) law.legal)) there.1

    pub all_ended : ¬ HasRest board → ¬ HasStuck board → IsWhole board.callers board.entries
    all_ended awake running =
        all_by_places (λ (c : Standing). c ≡ ended) (state board.callers board.entries).callers (λ k c at.
        let low = slice_get_within (state board.callers board.entries).callers k c at in
        let many = length-state board.callers board.entries in
        let there = get_some done k (omega (arith, low, many, callers, count, are.count)) in
        let is : Some c ≡ Some ended = sym at ∙ stopped_ended k there.0 there.1 awake running (are.each k there.0 there.1).3 in
        cc)
