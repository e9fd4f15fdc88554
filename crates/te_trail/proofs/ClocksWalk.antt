-- Agreement, by a walk along two clocks.
use Rattle.std.proofs.Common.{◌≡◌, ◌⊎◌, ◌≤◌, ◌<◌, ◌↔◌, inl, inr, ℕ, zero, suc, ◌+◌, ◌-◌, Bool, true, false, ◌&&◌, not}
use Rattle.std.proofs.Common.{MatchBool, List, [], ◌∷◌, ◌++◌, length, map, get_or, take, drop, slice_get, Option, Some}
use Rattle.std.proofs.Common.{None, cond, ltb, nat_eq, IsTrue, refl, ap, ap₂, sym, ◌∙◌, subst, arith, append_assoc}
use Rattle.std.proofs.Common.{append-nil, length-append, eqb-true, eq-eqb, true≢false, eq-or-lt_of_le}
use Rattle.std.proofs.Math.Seq.{drop-cons}
use Rattle.te_path.specs.declared.spot.Spot.{Spot}
use Rattle.te_trail.specs.declared.ticks.Tick.{Tick}
use Rattle.te_trail.specs.declared.ticks.Stretch.{Stretch}
use Rattle.te_trail.specs.declared.store.PathRecord.{PathRecord}
use Rattle.te_trail.specs.declared.store.StoreMark.{StoreMark}
use Rattle.te_trail.specs.declared.store.Last.{Last}
use Rattle.te_trail.specs.declared.store.Last.TheVariants.{Root, Left, Right, Sender, Receiver}
use Rattle.te_trail.specs.Paths.{Path, planted, branched, sent, got, thread_of, depth_of, parent_of, IsAbove, OnOneLine}
use Rattle.te_trail.specs.Clocks.{deeper, clock_of, Agree, IsSound}
use Rattle.te_trail.specs.Ticks.{named, between, ticks_of, StretchIsWithin, AreBeyond, AreRising, later, beside, merged, marked, Joins, Raises}
use Rattle.te_trail.specs.Trails.{TellsWhether, IsPathThread, ClockAt, IsClock}
use Rattle.te_trail.specs.Walks.{TellsParent, FitAt, AllFit, FittingFor, Misfit, TicksAreLow, TellsFit}
use Rattle.te_trail.specs.Records.{path_at, last_of, other_end, path_by, mate_of, paths_from, paths_of, is_sender, EndsAfter, EndsWhole, parent_number, HasParent, Fits, FitsAll}
use Rattle.te_trail.proofs.Lines.{above_self, above_depth, above_thread, above_trans, above_same, above_both}
use Rattle.te_trail.proofs.Lines.{above_line, line_flip, line_depth, ancestor, rests_move, rests_trans, above_rests}
use Rattle.te_trail.proofs.Lines.{rests_made}
use Rattle.te_trail.proofs.ClockLaws.{eq_apart, differ, deeper_left, deeper_right, deeper_either, clock_thread}
use Rattle.te_trail.proofs.ClockLaws.{clock_in, clock_self, Agrees, agrees_by, agree_by, made_planted, made_branched}
use Rattle.te_trail.proofs.ClockLaws.{made_met, clock_top, past_line, agree_line}
use Rattle.te_terms.proofs.Lists.{eq_same, get_taken, get_low, found_here, get_some}
use Rattle.te_trail.proofs.TicksMerge.{between_step, between_done, between_more, length_between, merged_nil, next_right}
use Rattle.te_trail.proofs.TicksMerge.{next_left, next_lower, next_higher, next_both, IsJoining, joining_start}
use Rattle.te_trail.proofs.TicksMerge.{joining_step, joining_end, IsRaising, raising_start, raising_step, raising_room}
use Rattle.te_trail.proofs.TicksMerge.{raising_end, named_skip, named_here}
use Rattle.te_trail.proofs.RecordsRead.{get_old, get_new, got_or, get_which, take_low, take_all, length_from, length_paths, trees_append, shut_append, end_append}
use Rattle.te_trail.proofs.Ancestors.{AreTidy, node_at, tidy, above_up, above_top, above_number, above_le}
use Rattle.te_trail.proofs.Ancestors.{numbers_apart, parent_known, AboveAlike, above_start, above_next, above_none}
use Rattle.te_trail.proofs.Ancestors.{above_end, fits_same, fits_under, fits_own, fits_over, fits_other, line_fits}

pub named_beyond : (t s : ℕ) (ks : List Tick) → AreBeyond t ks → s ≤ t → named s ks ≡ None
named_beyond t s [] b h = refl
named_beyond t s (k ∷ ks) b h = ap (λ o. cond o (Some k.path) (named s ks)) (off (nat_eq s k.thread) refl) ∙ named_beyond t s ks b.1 h
  where
    off : (o : Bool) → nat_eq s k.thread ≡ o → nat_eq s k.thread ≡ false
    off true e = absurd (omega (arith, eqb-true s k.thread e, b.0, h))
    off false e = e

rising_drop : (ks : List Tick) (i : ℕ) → AreRising ks → AreRising (drop i ks)
rising_drop ks zero r = r
rising_drop [] (suc i) r = r
rising_drop (k ∷ ks) (suc i) r = rising_drop ks i r.1

beyond_drop : (t : ℕ) (ks : List Tick) (i : ℕ) → AreBeyond t ks → AreBeyond t (drop i ks)
beyond_drop t ks zero b = b
beyond_drop t [] (suc i) b = b
beyond_drop t (k ∷ ks) (suc i) b = beyond_drop t ks i b.1

low_step : (F : ℕ → ℕ → ℕ → Type 0) (x : Tick) (xs : List Tick) (y : Tick) (ys : List Tick) → AreRising (y ∷ ys) → x.thread < y.thread → AllFit F xs (y ∷ ys) → AllFit F (x ∷ xs) (y ∷ ys)
low_step F x xs y ys r less all t m n e f = go (nat_eq t x.thread) refl e
  where
    go : (o : Bool) → nat_eq t x.thread ≡ o → cond o (Some x.path) (named t xs) ≡ Some m → F t m n
    go true w e =
        let one : t ≡ x.thread = eqb-true t x.thread w in
        let z : named t (y ∷ ys) ≡ None = named_beyond x.thread t (y ∷ ys) (less, wider ys r.0) (omega (arith, one)) in cc
      where
        wider : (ys : List Tick) → AreBeyond y.thread ys → AreBeyond x.thread ys
        wider [] b = b
        wider (k ∷ ks) b = (omega (arith, b.0, less), wider ks b.1)
    go false w e = all t m n e f

high_step : (F : ℕ → ℕ → ℕ → Type 0) (x : Tick) (xs : List Tick) (y : Tick) (ys : List Tick) → AreRising (x ∷ xs) → y.thread < x.thread → AllFit F (x ∷ xs) ys → AllFit F (x ∷ xs) (y ∷ ys)
high_step F x xs y ys r less all t m n e f = go (nat_eq t y.thread) refl f
  where
    go : (o : Bool) → nat_eq t y.thread ≡ o → cond o (Some y.path) (named t ys) ≡ Some n → F t m n
    go true w f =
        let one : t ≡ y.thread = eqb-true t y.thread w in
        let z : named t (x ∷ xs) ≡ None = named_beyond y.thread t (x ∷ xs) (less, wider xs r.0) (omega (arith, one)) in cc
      where
        wider : (xs : List Tick) → AreBeyond x.thread xs → AreBeyond y.thread xs
        wider [] b = b
        wider (k ∷ ks) b = (omega (arith, b.0, less), wider ks b.1)
    go false w f = all t m n e f

both_step : (F : ℕ → ℕ → ℕ → Type 0) (x : Tick) (xs : List Tick) (y : Tick) (ys : List Tick) → x.thread ≡ y.thread → F x.thread x.path y.path → AllFit F xs ys → AllFit F (x ∷ xs) (y ∷ ys)
both_step F x xs y ys same here all t m n e f = go (nat_eq t x.thread) refl (nat_eq t y.thread) refl e f
  where
    go : (o : Bool) → nat_eq t x.thread ≡ o → (v : Bool) → nat_eq t y.thread ≡ v → cond o (Some x.path) (named t xs) ≡ Some m → cond v (Some y.path) (named t ys) ≡ Some n → F t m n
    go true w true u e f = let a : x.path ≡ m = cc in let b : y.path ≡ n = cc in
        subst (λ k. F t k n) a (subst (λ k. F t x.path k) b (subst (λ k. F k x.path y.path)
        (sym (eqb-true t x.thread w)) here))
    go true w false u e f = let z : nat_eq t y.thread ≡ true = eq-eqb t y.thread (eqb-true t x.thread w ∙ same) in cc
    go false w true u e f = let z : nat_eq t x.thread ≡ true = eq-eqb t x.thread (eqb-true t y.thread u ∙ sym same) in cc
    go false w false u e f = all t m n e f

drop_at : (ts : List Tick) (i : ℕ) (d : Tick) → i < length ts → drop i ts ≡ get_or ts i d ∷ drop (i + 1) ts
drop_at ts i d h = drop-cons ts i d h ∙ ap (λ n. get_or ts i d ∷ drop n ts) (let e : suc i ≡ i + 1 = omega arith in e)

-- what is still to be walked along decides
abbrev pub RestDecides : (ℕ → ℕ → ℕ → Type 0) → List Tick → List Tick → ℕ → ℕ → Type 0
RestDecides F ks js i j = AllFit F (drop i ks) (drop j js) → AllFit F ks js

pub walk_low : (F : ℕ → ℕ → ℕ → Type 0) (ks js : List Tick) (i j : ℕ) (d : Tick) → AreRising js → i < length ks
    → j < length js → (get_or ks i d).thread < (get_or js j d).thread → RestDecides F ks js i j
    → RestDecides F ks js (i + 1) j
walk_low F ks js i j d r hi hj less g all = g (subst (λ x. AllFit F x (drop j js)) (sym (drop_at ks i d hi)) (subst (λ y. AllFit F (get_or ks i d ∷ drop (i + 1) ks) y) (sym (drop_at js j d hj))
    (low_step F (get_or ks i d) (drop (i + 1) ks) (get_or js j d) (drop (j + 1) js)
    (subst AreRising (drop_at js j d hj) (rising_drop js j r)) less
    (subst (λ y. AllFit F (drop (i + 1) ks) y) (drop_at js j d hj) all))))

pub walk_high : (F : ℕ → ℕ → ℕ → Type 0) (ks js : List Tick) (i j : ℕ) (d : Tick) → AreRising ks → i < length ks
    → j < length js → (get_or js j d).thread < (get_or ks i d).thread → RestDecides F ks js i j
    → RestDecides F ks js i (j + 1)
walk_high F ks js i j d r hi hj less g all = g (subst (λ x. AllFit F x (drop j js)) (sym (drop_at ks i d hi)) (subst (λ y. AllFit F (get_or ks i d ∷ drop (i + 1) ks) y) (sym (drop_at js j d hj))
    (high_step F (get_or ks i d) (drop (i + 1) ks) (get_or js j d) (drop (j + 1) js)
    (subst AreRising (drop_at ks i d hi) (rising_drop ks i r)) less
    (subst (λ x. AllFit F x (drop (j + 1) js)) (drop_at ks i d hi) all))))

pub walk_both : (F : ℕ → ℕ → ℕ → Type 0) (ks js : List Tick) (i j : ℕ) (d : Tick) → i < length ks → j < length js
    → (get_or ks i d).thread ≡ (get_or js j d).thread → F (get_or ks i d).thread (get_or ks i d).path
    (get_or js j d).path → RestDecides F ks js i j → RestDecides F ks js (i + 1) (j + 1)
walk_both F ks js i j d hi hj same here g all = g (subst (λ x. AllFit F x (drop j js)) (sym (drop_at ks i d hi)) (subst (λ y. AllFit F (get_or ks i d ∷ drop (i + 1) ks) y) (sym (drop_at js j d hj))
    (both_step F (get_or ks i d) (drop (i + 1) ks) (get_or js j d) (drop (j + 1) js) same here all)))

drop_none : (ts : List Tick) (i : ℕ) → length ts ≤ i → drop i ts ≡ []
drop_none [] zero h = refl
drop_none [] (suc i) h = refl
drop_none (t ∷ ts) zero h = absurd (omega (arith, h))
drop_none (t ∷ ts) (suc i) h = drop_none ts i (omega (arith, h))

no_name : {A : Type 0} (m : A) → None ≡ Some m → ⊥
no_name m e = cc

pub walk_end : (F : ℕ → ℕ → ℕ → Type 0) (ks js : List Tick) (i j : ℕ) → RestDecides F ks js i j → (length ks ≤ i) ⊎ (length js ≤ j) → AllFit F ks js
walk_end F ks js i j g (inl h) = g (λ t m n e f. absurd (no_name m (subst (λ x. named t x ≡ Some m) (drop_none ks i h) e)))
walk_end F ks js i j g (inr h) = g (λ t m n e f. absurd (no_name n (subst (λ x. named t x ≡ Some n) (drop_none js j h) f)))

-- a tick of a clock is named by it
pub named_at : (ts : List Tick) (i : ℕ) (d : Tick) → AreRising ts → i < length ts → named (get_or ts i d).thread ts ≡ Some (get_or ts i d).path
named_at [] i d r h = absurd (omega (arith, h))
named_at (t ∷ ts) zero d r h = ap (λ o. cond o (Some t.path) (named t.thread ts)) (eq-eqb t.thread t.thread refl)
named_at (t ∷ ts) (suc i) d r h = go (named_at ts i d r.1 (omega (arith, h))) (nat_eq (get_or ts i d).thread t.thread) refl
  where
    go : named (get_or ts i d).thread ts ≡ Some (get_or ts i d).path → (o : Bool)
        → nat_eq (get_or ts i d).thread t.thread ≡ o → cond o (Some t.path) (named (get_or ts i d).thread ts) ≡ Some
        (get_or ts i d).path
    go rest true e = let z : named (get_or ts i d).thread ts ≡ None =
        named_beyond t.thread (get_or ts i d).thread ts r.0 (omega (arith, eqb-true (get_or ts i d).thread t.thread e)) in
        absurd (no_name (get_or ts i d).path (sym z ∙ rest))
    go rest false e = rest

-- ---- what the walk tells
pub record IsClocked (paths : List Path) (x : Path) (ks : List Tick) : Type 0 where
  pub sound : IsSound x
  pub rising : AreRising ks
  pub clock : (t : ℕ) → ClockAt paths x t (named t ks)

clock_out : (paths : List Path) (x a : Path) (t : ℕ) (ks : List Tick) → IsClocked paths x ks → clock_of x t ≡ Some a → (m : ℕ) × (named t ks ≡ Some m) × (slice_get paths m ≡ Some a)
clock_out paths x a t ks g e = go (named t ks) refl (g.clock t)
  where
    go : (o : Option ℕ) → named t ks ≡ o → ClockAt paths x t o → (m : ℕ) × (named t ks ≡ Some m) × (slice_get paths m ≡ Some a)
    go None w c = absurd (no_name a (sym c ∙ e))
    go (Some m) w c = let one : c.0 ≡ a = (let f : clock_of x t ≡ Some c.0 = c.2 in cc) in (m, w, c.1 ∙ ap Some one)

clock_into : (paths : List Path) (x : Path) (t m : ℕ) (ks : List Tick) → IsClocked paths x ks → named t ks ≡ Some m → (a : Path) × (slice_get paths m ≡ Some a) × (clock_of x t ≡ Some a)
clock_into paths x t m ks g e = subst (ClockAt paths x t) e (g.clock t)

agree_from : (paths : List Path) (x y : Path) (ks js : List Tick) → IsClocked paths x ks → IsClocked paths y js
    → nat_eq (thread_of x) (thread_of y) ≡ false → AllFit (FittingFor paths (thread_of x) (thread_of y)) ks js
    → Agrees x y
agree_from paths x y ks js cx cy apart all = record {
  apart = apart;
  lines = λ t a b e f. (at t a b e f).0;
  first = λ b e. (at (thread_of x) x b (clock_self x cx.sound) e).1 (eq_same (thread_of x));
  second = λ a e. (at (thread_of y) a y e (clock_self y cy.sound)).2 (eq_same (thread_of y));
}
  where
    at : (t : ℕ) (a b : Path) → clock_of x t ≡ Some a → clock_of y t ≡ Some b → FitAt (nat_eq t (thread_of x)) (nat_eq t (thread_of y)) a b
    at t a b e f = let m : (m : ℕ) × (named t ks ≡ Some m) × (slice_get paths m ≡ Some a) =
        clock_out paths x a t ks cx e in let n : (m : ℕ) × (named t js ≡ Some m) × (slice_get paths m ≡ Some b) =
        clock_out paths y b t js cy f in (all t m.0 n.0 m.1 n.1 a b m.2 n.2).0 refl

agree_to : (paths : List Path) (x y : Path) (ks js : List Tick) → IsClocked paths x ks → IsClocked paths y js → Agrees x y → AllFit (FittingFor paths (thread_of x) (thread_of y)) ks js
agree_to paths x y ks js cx cy ag t m n e f a b ea eb = ((λ w. make), (λ w. refl))
  where
    one : {A : Type 0} (o : Option A) (c d : A) → o ≡ Some c → o ≡ Some d → c ≡ d
    one o c d e f = cc

    ha : clock_of x t ≡ Some a
    ha = let c : (a : Path) × (slice_get paths m ≡ Some a) × (clock_of x t ≡ Some a) = clock_into paths x t m ks cx e in c.2 ∙ ap Some (one (slice_get paths m) c.0 a c.1 ea)

    hb : clock_of y t ≡ Some b
    hb = let c : (a : Path) × (slice_get paths n ≡ Some a) × (clock_of y t ≡ Some a) = clock_into paths y t n js cy f in c.2 ∙ ap Some (one (slice_get paths n) c.0 b c.1 eb)

    own : IsTrue (nat_eq t (thread_of x)) → IsAbove b a
    own w = let same : t ≡ thread_of x = eqb-true t (thread_of x) w in let xa : x ≡ a =
        one (clock_of x t) x a (ap (clock_of x) same ∙ clock_self x cx.sound) ha in
        subst (IsAbove b) xa (ag.first b (ap (clock_of y) (sym same) ∙ hb))

    other : IsTrue (nat_eq t (thread_of y)) → IsAbove a b
    other w = let same : t ≡ thread_of y = eqb-true t (thread_of y) w in let yb : y ≡ b =
        one (clock_of y t) y b (ap (clock_of y) same ∙ clock_self y cy.sound) hb in
        subst (IsAbove a) yb (ag.second a (ap (clock_of x) (sym same) ∙ ha))

    make : FitAt (nat_eq t (thread_of x)) (nat_eq t (thread_of y)) a b
    make = (ag.lines t a b ha hb, own, other)

-- ---- from the records
pub record IsKnown (records : List PathRecord) (ticks : List Tick) (paths : List Path) (p : ℕ) (n : PathRecord) : Type 0 where
  pub clocked : (x : Path) → slice_get paths p ≡ Some x → IsClocked paths x (ticks_of ticks n.clock)
  pub thread : (x : Path) → slice_get paths p ≡ Some x → thread_of x ≡ n.thread
  pub within : StretchIsWithin ticks n.clock
  pub rising : AreRising (ticks_of ticks n.clock)
  pub named_low : (t m : ℕ) → named t (ticks_of ticks n.clock) ≡ Some m → m < length paths

pub known : (records : List PathRecord) (ticks : List Tick) (paths : List Path) → FitsAll records ticks
    → paths_of records ≡ paths → (p : ℕ) (n : PathRecord) → p < length paths → n ≡ get_or records p n
    → IsKnown records ticks paths p n
known records ticks paths kept view p n h e = subst (λ q. IsKnown records ticks q p n) view (record {
  clocked = λ x ex. (let f : Fits (paths_of records) ticks p n x = kept.fits p n x en ex in record { sound = f.sound; rising = f.rising; clock = f.clock });
  thread = λ x ex. (kept.fits p n x en ex).thread;
  within = fit.within;
  rising = fit.rising;
  named_low = λ t m w. (let c : (a : Path) × (slice_get (paths_of records) m ≡ Some a) × (clock_of tree.0 t ≡ Some a) =
      subst (ClockAt (paths_of records) tree.0 t) w (fit.clock t) in low (paths_of records) m c.0 c.1);
})
  where
    en : slice_get records p ≡ Some n
    en = found_here records p n (omega (arith, h, length_paths records, ap length view)) e

    tree : (x : Path) × (slice_get (paths_of records) p ≡ Some x)
    tree = get_some (paths_of records) p (omega (arith, h, ap length view))

    fit : Fits (paths_of records) ticks p n tree.0
    fit = kept.fits p n tree.0 en tree.1

    low : (xs : List Path) (k : ℕ) (y : Path) → slice_get xs k ≡ Some y → k < length xs
    low [] k y e = cc
    low (z ∷ xs) zero y e = omega arith
    low (z ∷ xs) (suc k) y e = omega (arith, low xs k y e)

pub agree_same : (paths : List Path) (p q s t : ℕ) → IsPathThread paths p s → IsPathThread paths q t → s ≡ t → TellsWhether paths p q Agrees false
agree_same paths p q s t hp hq e x y ex ey = ((λ w. absurd (true≢false (sym w))), (λ a. clash a))
  where
    clash : Agrees x y → false ≡ true
    clash a = let z : nat_eq (thread_of x) (thread_of y) ≡ true = eq-eqb (thread_of x) (thread_of y) (hp x ex ∙ e ∙ sym (hq y ey)) in let n : nat_eq (thread_of x) (thread_of y) ≡ false = a.apart in cc

pub agree_false : (records : List PathRecord) (ticks : List Tick) (paths : List Path) (p q : ℕ) (a b : PathRecord)
    → IsKnown records ticks paths p a → IsKnown records ticks paths q b → (t m n : ℕ)
    → named t (ticks_of ticks a.clock) ≡ Some m → named t (ticks_of ticks b.clock) ≡ Some n
    → TellsWhether paths m n (FitAt (nat_eq t a.thread) (nat_eq t b.thread)) false → TellsWhether paths p q Agrees false
agree_false records ticks paths p q a b ka kb t m n e f tell x y ex ey = ((λ w. absurd (true≢false (sym w))), no)
  where
    no : Agrees x y → false ≡ true
    no ag = go (clock_into paths x t m (ticks_of ticks a.clock) (ka.clocked x ex) e) (clock_into paths y t n (ticks_of ticks b.clock) (kb.clocked y ey) f)
      where
        go : (c : Path) × (slice_get paths m ≡ Some c) × (clock_of x t ≡ Some c) → (d : Path) × (slice_get paths n ≡ Some d) × (clock_of y t ≡ Some d) → false ≡ true
        go c d = (tell c.0 d.0 c.1 d.1).1 (subst (λ v. FitAt (nat_eq t v) (nat_eq t b.thread) c.0 d.0) (ka.thread x ex)
            (subst (λ v. FitAt (nat_eq t (thread_of x)) (nat_eq t v) c.0 d.0) (kb.thread y ey)
            ((agree_to paths x y (ticks_of ticks a.clock) (ticks_of ticks b.clock) (ka.clocked x ex) (kb.clocked y ey) ag t m n e f c.0 d.0 c.1 d.1).0 refl)))

pub agree_true : (records : List PathRecord) (ticks : List Tick) (paths : List Path) (p q : ℕ) (a b : PathRecord)
    → IsKnown records ticks paths p a → IsKnown records ticks paths q b → (a.thread ≡ b.thread → ⊥)
    → AllFit (FittingFor paths a.thread b.thread) (ticks_of ticks a.clock) (ticks_of ticks b.clock)
    → TellsWhether paths p q Agrees true
agree_true records ticks paths p q a b ka kb ne all x y ex ey = (
  (λ w. agree_from paths x y (ticks_of ticks a.clock) (ticks_of ticks b.clock) (ka.clocked x ex) (kb.clocked y ey)
      (off (nat_eq (thread_of x) (thread_of y)) refl) (subst (λ v.
      AllFit (FittingFor paths v (thread_of y)) (ticks_of ticks a.clock) (ticks_of ticks b.clock)) (sym (ka.thread x ex))
      (subst (λ v. AllFit (FittingFor paths a.thread v) (ticks_of ticks a.clock) (ticks_of ticks b.clock))
      (sym (kb.thread y ey)) all))),
  (λ f. refl),
)
  where
    off : (o : Bool) → nat_eq (thread_of x) (thread_of y) ≡ o → nat_eq (thread_of x) (thread_of y) ≡ false
    off true e = absurd (ne (sym (ka.thread x ex) ∙ eqb-true (thread_of x) (thread_of y) e ∙ kb.thread y ey))
    off false e = e

pub tick_low : (paths : List Path) (ks : List Tick) (i : ℕ) (d : Tick) → AreRising ks → TicksAreLow paths ks → i < length ks → (get_or ks i d).path < length paths
tick_low paths ks i d r low h = low (get_or ks i d).thread (get_or ks i d).path (named_at ks i d r h)

pub misfit : (paths : List Path) (s r : ℕ) (ks js : List Tick) (i j : ℕ) (d : Tick) → AreRising ks → AreRising js
    → i < length ks → j < length js → (get_or ks i d).thread ≡ (get_or js j d).thread → (o v b : Bool)
    → o ≡ nat_eq (get_or ks i d).thread s → v ≡ nat_eq (get_or ks i d).thread r → b ≡ false
    → TellsWhether paths (get_or ks i d).path (get_or js j d).path (FitAt o v) b → Misfit paths s r ks js
misfit paths s r ks js i j d rk rj hi hj same o v b eo ev eb tells = record {
  of = (get_or ks i d).thread;
  first = (get_or ks i d).path;
  second = (get_or js j d).path;
  named_first = named_at ks i d rk hi;
  named_second = ap (λ t. named t js) same ∙ named_at js j d rj hj;
  tells = subst (λ x. TellsWhether paths (get_or ks i d).path (get_or js j d).path
      (FitAt x (nat_eq (get_or ks i d).thread r)) false) eo (subst
      (λ x. TellsWhether paths (get_or ks i d).path (get_or js j d).path (FitAt o x) false) ev
      (subst (λ x. TellsWhether paths (get_or ks i d).path (get_or js j d).path (FitAt o v) x) eb tells));
}

pub fitting : (paths : List Path) (s r : ℕ) (x y : Tick) (o v b : Bool) → o ≡ nat_eq x.thread s → v ≡ nat_eq x.thread r
    → b ≡ true → TellsWhether paths x.path y.path (FitAt o v) b → FittingFor paths s r x.thread x.path y.path
fitting paths s r x y o v b eo ev eb tells = subst (λ z. TellsWhether paths x.path y.path
    (FitAt z (nat_eq x.thread r)) true) eo (subst (λ z. TellsWhether paths x.path y.path (FitAt o z) true) ev
    (subst (λ z. TellsWhether paths x.path y.path (FitAt o v) z) eb tells))

pub agree_told : (records : List PathRecord) (ticks : List Tick) (paths : List Path) (p q : ℕ) (a b : PathRecord)
    → IsKnown records ticks paths p a → IsKnown records ticks paths q b → (a.thread ≡ b.thread → ⊥) → (r : Bool)
    → TellsFit paths a.thread b.thread (ticks_of ticks a.clock) (ticks_of ticks b.clock) r
    → TellsWhether paths p q Agrees r
agree_told records ticks paths p q a b ka kb ne true h = agree_true records ticks paths p q a b ka kb ne h
agree_told records ticks paths p q a b ka kb ne false h = agree_false records ticks paths p q a b ka kb h.of h.first h.second h.named_first h.named_second h.tells
