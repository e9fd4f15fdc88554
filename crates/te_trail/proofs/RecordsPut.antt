-- A store with more paths.
use Rattle.std.proofs.Common.{◌≡◌, ◌⊎◌, ◌≤◌, ◌<◌, ◌↔◌, inl, inr, ℕ, zero, suc, ◌+◌, ◌-◌, Bool, true, false, ◌&&◌, not}
use Rattle.std.proofs.Common.{MatchBool, List, [], ◌∷◌, ◌++◌, length, map, get_or, take, drop, slice_get, Option, Some}
use Rattle.std.proofs.Common.{None, cond, ltb, nat_eq, IsTrue, refl, ap, ap₂, sym, ◌∙◌, subst, arith, append_assoc}
use Rattle.std.proofs.Common.{append-nil, length-append, eqb-true, eq-eqb, true≢false, eq-or-lt_of_le}
use Rattle.std.proofs.Math.Seq.{drop-append_seam, take-append_seam}
use Rattle.std.proofs.lemmas.List.{take-append-le}
use Rattle.std.proofs.lemmas.Bool.{ltb-true, ltb-false}
use Rattle.te_path.specs.declared.spot.Spot.{Spot}
use Rattle.te_trail.specs.declared.ticks.Tick.{Tick}
use Rattle.te_trail.specs.declared.ticks.Stretch.{Stretch}
use Rattle.te_trail.specs.declared.store.PathRecord.{PathRecord}
use Rattle.te_trail.specs.declared.store.StoreMark.{StoreMark}
use Rattle.te_trail.specs.declared.store.Last.{Last}
use Rattle.te_trail.specs.declared.store.Last.TheVariants.{Root, Left, Right, Sender, Receiver}
use Rattle.te_trail.specs.Paths.{Path, planted, branched, sent, got, thread_of, depth_of, parent_of, IsAbove, OnOneLine}
use Rattle.te_trail.specs.Clocks.{deeper, clock_of, Agree, IsSound}
use Rattle.te_trail.specs.Ticks.{named, between, ticks_of, StretchIsWithin, AreBeyond, AreRising, later, beside, merged, marked, Joins, Raises}
use Rattle.te_trail.specs.Trails.{TellsWhether, IsPathThread, ClockAt, IsClock}
use Rattle.te_trail.specs.Walks.{TellsParent, FitAt, AllFit, FittingFor, Misfit, TicksAreLow, TellsFit}
use Rattle.te_trail.specs.Records.{path_at, last_of, other_end, path_by, mate_of, paths_from, paths_of, is_sender, EndsAfter, EndsWhole, parent_number, HasParent, Fits, FitsAll}
use Rattle.te_trail.proofs.Lines.{above_self, above_depth, above_thread, above_trans, above_same, above_both}
use Rattle.te_trail.proofs.Lines.{above_line, line_flip, line_depth, ancestor, rests_move, rests_trans, above_rests}
use Rattle.te_trail.proofs.Lines.{rests_made}
use Rattle.te_trail.proofs.ClockLaws.{eq_apart, differ, deeper_left, deeper_right, deeper_either, clock_thread}
use Rattle.te_trail.proofs.ClockLaws.{clock_in, clock_self, Agrees, agrees_by, agree_by, made_planted, made_branched}
use Rattle.te_trail.proofs.ClockLaws.{made_met, clock_top, past_line, agree_line}
use Rattle.te_terms.proofs.Lists.{eq_same, get_taken, get_low, found_here, get_some}
use Rattle.te_trail.proofs.TicksMerge.{between_step, between_done, between_more, length_between, merged_nil, next_right}
use Rattle.te_trail.proofs.TicksMerge.{next_left, next_lower, next_higher, next_both, IsJoining, joining_start}
use Rattle.te_trail.proofs.TicksMerge.{joining_step, joining_end, IsRaising, raising_start, raising_step, raising_room}
use Rattle.te_trail.proofs.TicksMerge.{raising_end, named_skip, named_here}
use Rattle.te_trail.proofs.RecordsRead.{get_old, get_new, got_or, get_which, take_low, take_all, length_from, length_paths, trees_append, shut_append, end_append}
use Rattle.te_trail.proofs.Ancestors.{AreTidy, node_at, tidy, above_up, above_top, above_number, above_le}
use Rattle.te_trail.proofs.Ancestors.{numbers_apart, parent_known, AboveAlike, above_start, above_next, above_none}
use Rattle.te_trail.proofs.Ancestors.{above_end, fits_same, fits_under, fits_own, fits_over, fits_other, line_fits}
use Rattle.te_trail.proofs.ClocksWalk.{named_beyond, RestDecides, walk_low, walk_high, walk_both, walk_end, named_at}
use Rattle.te_trail.proofs.ClocksWalk.{IsClocked, IsKnown, known, agree_same, agree_false, agree_true, tick_low, misfit}
use Rattle.te_trail.proofs.ClocksWalk.{fitting, agree_told}

-- ---- what stood stands
clock_wide : (paths more : List Path) (x : Path) (t : ℕ) (o : Option ℕ) → ClockAt paths x t o → ClockAt (paths ++ more) x t o
clock_wide paths more x t None c = c
clock_wide paths more x t (Some m) c = (c.0, get_old paths more c.0 m c.1, c.2)

ups_wide : (paths more : List Path) (k : ℕ) (x : Path) (o : Option ℕ) → HasParent paths k x o → HasParent (paths ++ more) k x o
ups_wide paths more k x None u = u
ups_wide paths more k x (Some r) u = (u.0, u.1, get_old paths more u.1 r u.2, u.3)

stretch_wide : (ticks new : List Tick) (c : Stretch) → StretchIsWithin ticks c → ticks_of (ticks ++ new) c ≡ ticks_of ticks c
stretch_wide ticks new c w = between_more ticks new c.at (c.at + c.len) w (omega arith)

fit_wide : (paths more : List Path) (ticks new : List Tick) (k : ℕ) (n : PathRecord) (x : Path) → Fits paths ticks k n x → Fits (paths ++ more) (ticks ++ new) k n x
fit_wide paths more ticks new k n x f =
    let s : ticks_of (ticks ++ new) n.clock ≡ ticks_of ticks n.clock = stretch_wide ticks new n.clock f.within in
    record {
      kind = f.kind;
      up = ups_wide paths more k x (parent_number n.last n.parent) f.up;
      thread = f.thread;
      sound = f.sound;
      within = omega (arith, f.within, length-append ticks new);
      rising = subst AreRising (sym s) f.rising;
      clock = λ t. subst (λ ks. ClockAt (paths ++ more) x t (named t ks)) (sym s) (clock_wide paths more x t (named t (ticks_of ticks n.clock)) (f.clock t));
    }

-- the last stretch
pub stretch_last : (ticks out : List Tick) (c : Stretch) → c.at ≡ length ticks → c.len ≡ length out → ticks_of (ticks ++ out) c ≡ out
stretch_last ticks out c a l =
    let m : c.at + c.len - c.at ≡ length out = omega (arith, l) in
    ap₂ take m (ap (λ n. drop n (ticks ++ out)) a ∙ drop-append_seam ticks out) ∙ take_all out

pub within_last : (ticks out : List Tick) (c : Stretch) → c.at ≡ length ticks → c.len ≡ length out → StretchIsWithin (ticks ++ out) c
within_last ticks out c a l = omega (arith, a, l, length-append ticks out)

abbrev pub Missing : List Path → Path → Type 0
Missing paths x = (i : ℕ) → slice_get paths i ≡ Some x → ⊥

-- ---- new records at the end
pub record AreNew (records : List PathRecord) (ticks : List Tick) (ns : List PathRecord) (xs : List Path) (out : List Tick) : Type 0 where
  pub trees_are : paths_from (paths_of records) ns ≡ paths_of records ++ xs
  pub shut : EndsWhole (records ++ ns)
  pub fits : (k : ℕ) (n : PathRecord) (x : Path) → slice_get ns k ≡ Some n → slice_get xs k ≡ Some x → Fits (paths_of records ++ xs) (ticks ++ out) (length records + k) n x
  pub fresh : (k : ℕ) (x : Path) → slice_get xs k ≡ Some x → Missing (paths_of records) x
  pub once : (i j : ℕ) (x : Path) → slice_get xs i ≡ Some x → slice_get xs j ≡ Some x → i ≡ j

pub kept_push : (records : List PathRecord) (ticks : List Tick) (ns : List PathRecord) (xs : List Path)
    (out : List Tick) → FitsAll records ticks → AreNew records ticks ns xs out
    → (paths_of (records ++ ns) ≡ paths_of records ++ xs) × FitsAll (records ++ ns) (ticks ++ out)
kept_push records ticks ns xs out kept new = (
  whole,
  record {
    shut = new.shut;
    fits = λ k n x en ex. subst (λ q. Fits q (ticks ++ out) k n x) (sym whole)
        (fit k n x (get_which records ns n k en) (get_which (paths_of records) xs x k
        (subst (λ q. slice_get q k ≡ Some x) whole ex)));
    once = λ i j x ei ej. one i j x (get_which (paths_of records) xs x i (subst (λ q. slice_get q i ≡ Some x) whole ei))
        (get_which (paths_of records) xs x j (subst (λ q. slice_get q j ≡ Some x) whole ej));
  },
)
  where
    whole : paths_of (records ++ ns) ≡ paths_of records ++ xs
    whole = trees_append records ns kept.shut ∙ new.trees_are

    fit : (k : ℕ) (n : PathRecord) (x : Path) → (slice_get records k ≡ Some n)
        ⊎ ((j : ℕ) × (k ≡ length records + j) × (slice_get ns j ≡ Some n))
        → (slice_get (paths_of records) k ≡ Some x) ⊎ ((j : ℕ) × (k ≡ length (paths_of records) + j)
        × (slice_get xs j ≡ Some x)) → Fits (paths_of records ++ xs) (ticks ++ out) k n x
    fit k n x (inl a) (inl b) = fit_wide (paths_of records) xs ticks out k n x (kept.fits k n x a b)
    fit k n x (inl a) (inr b) = absurd (omega (arith, get_low records n k a, length_paths records, b.1))
    fit k n x (inr a) (inl b) = absurd (omega (arith, get_low (paths_of records) x k b, length_paths records, a.1))
    fit k n x (inr a) (inr b) = let same : a.0 ≡ b.0 = omega (arith, a.1, b.1, length_paths records) in
        subst (λ m. Fits (paths_of records ++ xs) (ticks ++ out) m n x) (sym a.1)
        (new.fits a.0 n x a.2 (subst (λ j. slice_get xs j ≡ Some x) (sym same) b.2))

    one : (i j : ℕ) (x : Path) → (slice_get (paths_of records) i ≡ Some x)
        ⊎ ((k : ℕ) × (i ≡ length (paths_of records) + k) × (slice_get xs k ≡ Some x))
        → (slice_get (paths_of records) j ≡ Some x) ⊎ ((k : ℕ) × (j ≡ length (paths_of records) + k)
        × (slice_get xs k ≡ Some x)) → i ≡ j
    one i j x (inl a) (inl b) = kept.once i j x a b
    one i j x (inl a) (inr b) = absurd (new.fresh b.0 x b.2 i a)
    one i j x (inr a) (inl b) = absurd (new.fresh a.0 x a.2 j b)
    one i j x (inr a) (inr b) = omega (arith, a.1, b.1, new.once a.0 b.0 x a.2 b.2)

-- ---- joined clocks by thread
beyond_wide : (s t : ℕ) (ks : List Tick) → s ≤ t → AreBeyond t ks → AreBeyond s ks
beyond_wide s t [] h b = b
beyond_wide s t (k ∷ ks) h b = (omega (arith, b.0, h), beyond_wide s t ks h b.1)

unfoldable pub best : Option ℕ → Option ℕ → Option ℕ
best None b = b
best (Some a) None = Some a
best (Some a) (Some b) = Some (cond (ltb a b) b a)

eq_off : (a b : ℕ) → (a ≡ b → ⊥) → nat_eq a b ≡ false
eq_off a b ne = go (nat_eq a b) refl
  where
    go : (o : Bool) → nat_eq a b ≡ o → nat_eq a b ≡ false
    go true e = absurd (ne (eqb-true a b e))
    go false e = e

later_thread : (x y : Tick) → x.thread ≡ y.thread → (later x y).thread ≡ x.thread
later_thread x y e = go (ltb x.path y.path)
  where
    go : (o : Bool) → (cond o y x).thread ≡ x.thread
    go true = sym e
    go false = refl

later_path : (x y : Tick) → (later x y).path ≡ cond (ltb x.path y.path) y.path x.path
later_path x y = go (ltb x.path y.path)
  where
    go : (o : Bool) → (cond o y x).path ≡ cond o y.path x.path
    go true = refl
    go false = refl

order : (a b : ℕ) → ((ltb a b ≡ true) × (a < b)) ⊎ (((ltb a b ≡ false) × (ltb b a ≡ true) × (b < a)) ⊎ ((ltb a b ≡ false) × (ltb b a ≡ false) × (a ≡ b)))
order a b = go (ltb a b) refl (ltb b a) refl
  where
    go : (o : Bool) → ltb a b ≡ o → (v : Bool) → ltb b a ≡ v → ((ltb a b ≡ true) × (a < b)) ⊎ (((ltb a b ≡ false) × (ltb b a ≡ true) × (b < a)) ⊎ ((ltb a b ≡ false) × (ltb b a ≡ false) × (a ≡ b)))
    go true e v f = inl (e, ltb-true a b e)
    go false e true f = inr (inl (e, f, ltb-true b a f))
    go false e false f = inr (inr (e, f, omega (arith, ltb-false a b e, ltb-false b a f)))

-- what a list of ticks that joins two others has
pub record MergesTo (ks js out : List Tick) : Type 0 where
  pub rising : AreRising out
  pub beyond : (t : ℕ) → AreBeyond t ks → AreBeyond t js → AreBeyond t out
  pub named_best : (t : ℕ) → named t out ≡ best (named t ks) (named t js)

best_none : (o : Option ℕ) → o ≡ best o None
unfolding best
best_none None = refl
best_none (Some a) = refl

best_first : (o : Option ℕ) (p : ℕ) → o ≡ None → Some p ≡ best (Some p) o
unfolding best
best_first None p e = refl
best_first (Some a) p e = cc

best_second : (o v : Option ℕ) → o ≡ None → v ≡ best o v
unfolding best
best_second None v e = refl
best_second (Some a) v e = cc

best_both : (a b p : ℕ) → p ≡ cond (ltb a b) b a → Some p ≡ best (Some a) (Some b)
unfolding best
best_both a b p e = ap Some e

beside_joins : (go : List Tick → List Tick) (x : Tick) (xs : List Tick) → AreRising (x ∷ xs)
    → ((js : List Tick) → AreRising js → MergesTo xs js (go js)) → (js : List Tick) → AreRising js
    → MergesTo (x ∷ xs) js (beside go x xs js)
beside_joins go x xs rx ih [] rj = record { rising = rx; beyond = λ t b c. b; named_best = λ t. best_none (named t (x ∷ xs)) }
beside_joins go x xs rx ih (y ∷ ys) rj = elim (order x.thread y.thread) [
  | inl h ↦ lower h.0 h.1 (ih (y ∷ ys) rj)
  | inr h ↦ elim h
      [ inl k ↦ higher k.0 k.1 k.2 (beside_joins go x xs rx ih ys rj.1) | inr k ↦ both k.0 k.1 k.2 (ih ys rj.1) ]
]
  where
    lower : ltb x.thread y.thread ≡ true → x.thread < y.thread → MergesTo xs (y ∷ ys) (go (y ∷ ys)) → MergesTo (x ∷ xs) (y ∷ ys) (beside go x xs (y ∷ ys))
    lower e h j = subst (MergesTo (x ∷ xs) (y ∷ ys)) (sym (ap (λ o. cond o (x ∷ go (y ∷ ys)) (cond (ltb y.thread x.thread) (y ∷ beside go x xs ys) (later x y ∷ go ys))) e)) (record {
      rising = (j.beyond x.thread rx.0 (h, beyond_wide x.thread y.thread ys (omega (arith, h)) rj.0), j.rising);
      beyond = λ t b c. (b.0, j.beyond t b.1 c);
      named_best = λ t. at t (nat_eq t x.thread) refl;
    })
      where
        at : (t : ℕ) (o : Bool) → nat_eq t x.thread ≡ o → cond o (Some x.path) (named t (go (y ∷ ys))) ≡ best (cond o (Some x.path) (named t xs)) (named t (y ∷ ys))
        at t true w = best_first (named t (y ∷ ys)) x.path (named_beyond x.thread t (y ∷ ys) (h, beyond_wide x.thread y.thread ys (omega (arith, h)) rj.0) (omega (arith, eqb-true t x.thread w)))
        at t false w = j.named_best t

    higher : ltb x.thread y.thread ≡ false → ltb y.thread x.thread ≡ true → y.thread < x.thread → MergesTo (x ∷ xs) ys (beside go x xs ys) → MergesTo (x ∷ xs) (y ∷ ys) (beside go x xs (y ∷ ys))
    higher e f h j = subst (MergesTo (x ∷ xs) (y ∷ ys)) (sym
        (ap (λ o. cond o (x ∷ go (y ∷ ys)) (cond (ltb y.thread x.thread) (y ∷ beside go x xs ys) (later x y ∷ go ys))) e
        ∙ ap (λ o. cond o (y ∷ beside go x xs ys) (later x y ∷ go ys)) f)) (record {
          rising = (j.beyond y.thread (h, beyond_wide y.thread x.thread xs (omega (arith, h)) rx.0) rj.0, j.rising);
          beyond = λ t b c. (c.0, j.beyond t b c.1);
          named_best = λ t. at t (nat_eq t y.thread) refl;
        })
      where
        at : (t : ℕ) (o : Bool) → nat_eq t y.thread ≡ o → cond o (Some y.path) (named t (beside go x xs ys)) ≡ best (named t (x ∷ xs)) (cond o (Some y.path) (named t ys))
        at t true w = best_second (named t (x ∷ xs)) (Some y.path)
            (named_beyond y.thread t (x ∷ xs) (h, beyond_wide y.thread x.thread xs (omega (arith, h)) rx.0)
            (omega (arith, eqb-true t y.thread w)))
        at t false w = j.named_best t

    both : ltb x.thread y.thread ≡ false → ltb y.thread x.thread ≡ false → x.thread ≡ y.thread → MergesTo xs ys (go ys) → MergesTo (x ∷ xs) (y ∷ ys) (beside go x xs (y ∷ ys))
    both e f same j = subst (MergesTo (x ∷ xs) (y ∷ ys)) (sym
        (ap (λ o. cond o (x ∷ go (y ∷ ys)) (cond (ltb y.thread x.thread) (y ∷ beside go x xs ys) (later x y ∷ go ys))) e
        ∙ ap (λ o. cond o (y ∷ beside go x xs ys) (later x y ∷ go ys)) f)) (record {
          rising = (subst (λ n. AreBeyond n (go ys)) (sym (later_thread x y same)) (j.beyond x.thread rx.0 (subst (λ n. AreBeyond n ys) (sym same) rj.0)), j.rising);
          beyond = λ t b c. (subst (λ n. t < n) (sym (later_thread x y same)) b.0, j.beyond t b.1 c.1);
          named_best = λ t. ap (λ n. cond (nat_eq t n) (Some (later x y).path) (named t (go ys))) (later_thread x y same)
              ∙ at t (nat_eq t x.thread) refl ∙ ap (λ n. best (cond (nat_eq t x.thread) (Some x.path) (named t xs))
              (cond (nat_eq t n) (Some y.path) (named t ys))) same;
        })
      where
        at : (t : ℕ) (o : Bool) → nat_eq t x.thread ≡ o → cond o (Some (later x y).path) (named t (go ys)) ≡ best (cond o (Some x.path) (named t xs)) (cond o (Some y.path) (named t ys))
        at t true w = best_both x.path y.path (later x y).path (later_path x y)
        at t false w = j.named_best t

pub merged_joins : (ks js : List Tick) → AreRising ks → AreRising js → MergesTo ks js (merged ks js)
merged_joins [] js rk rj = record { rising = rj; beyond = λ t b c. c; named_best = λ t. best_second None (named t js) refl }
merged_joins (x ∷ xs) js rk rj = beside_joins (merged xs) x xs rk (λ js r. merged_joins xs js rk.1 r) js rj

-- ---- with own paths
pub marked_thread : (one two k : Tick) → (marked one two k).thread ≡ k.thread
marked_thread one two k = go (nat_eq k.thread one.thread) refl (nat_eq k.thread two.thread) refl
  where
    go : (o : Bool) → nat_eq k.thread one.thread ≡ o → (v : Bool) → nat_eq k.thread two.thread ≡ v → (cond o one (cond v two k)).thread ≡ k.thread
    go true e v f = sym (eqb-true k.thread one.thread e)
    go false e true f = sym (eqb-true k.thread two.thread f)
    go false e false f = refl

beyond_marked : (one two : Tick) (t : ℕ) (ks : List Tick) → AreBeyond t ks → AreBeyond t (map (marked one two) ks)
beyond_marked one two t [] b = b
beyond_marked one two t (k ∷ ks) b = (subst (λ n. t < n) (sym (marked_thread one two k)) b.0, beyond_marked one two t ks b.1)

pub rising_marked : (one two : Tick) (ks : List Tick) → AreRising ks → AreRising (map (marked one two) ks)
rising_marked one two [] r = r
rising_marked one two (k ∷ ks) r = (subst (λ n. AreBeyond n (map (marked one two) ks)) (sym (marked_thread one two k)) (beyond_marked one two k.thread ks r.0), rising_marked one two ks r.1)

pub named_marked : (one two : Tick) (t : ℕ) (ks : List Tick) → nat_eq t one.thread ≡ false → nat_eq t two.thread ≡ false → named t (map (marked one two) ks) ≡ named t ks
named_marked one two t [] n m = refl
named_marked one two t (k ∷ ks) n m = ap (λ j. cond (nat_eq t j) (Some (marked one two k).path)
    (named t (map (marked one two) ks))) (marked_thread one two k) ∙ go (named_marked one two t ks n m)
    (nat_eq t k.thread) refl
  where
    go : named t (map (marked one two) ks) ≡ named t ks → (o : Bool) → nat_eq t k.thread ≡ o
        → cond o (Some (marked one two k).path) (named t (map (marked one two) ks)) ≡ cond o (Some k.path) (named t ks)
    go ih true e = let same : t ≡ k.thread = eqb-true t k.thread e in
        ap (λ q. Some (cond q one (cond (nat_eq k.thread two.thread) two k)).path)
        (ap (λ j. nat_eq j one.thread) (sym same) ∙ n) ∙ ap (λ q. Some (cond q two k).path)
        (ap (λ j. nat_eq j two.thread) (sym same) ∙ m)
    go ih false e = ih

pub named_first : (one two : Tick) (m : ℕ) (ks : List Tick) → named one.thread ks ≡ Some m → named one.thread (map (marked one two) ks) ≡ Some one.path
named_first one two m [] e = cc
named_first one two m (k ∷ ks) e = ap (λ j. cond (nat_eq one.thread j) (Some (marked one two k).path)
    (named one.thread (map (marked one two) ks))) (marked_thread one two k) ∙ go (λ f. named_first one two m ks f)
    (nat_eq one.thread k.thread) refl e
  where
    go : (named one.thread ks ≡ Some m → named one.thread (map (marked one two) ks) ≡ Some one.path) → (o : Bool)
        → nat_eq one.thread k.thread ≡ o → cond o (Some k.path) (named one.thread ks) ≡ Some m
        → cond o (Some (marked one two k).path) (named one.thread (map (marked one two) ks)) ≡ Some one.path
    go ih true e f = ap (λ q. Some (cond q one (cond (nat_eq k.thread two.thread) two k)).path) (eq-eqb k.thread one.thread (sym (eqb-true one.thread k.thread e)))
    go ih false e f = ih f

pub named_second : (one two : Tick) (m : ℕ) (ks : List Tick) → nat_eq two.thread one.thread ≡ false → named two.thread ks ≡ Some m → named two.thread (map (marked one two) ks) ≡ Some two.path
named_second one two m [] n e = cc
named_second one two m (k ∷ ks) n e = ap (λ j. cond (nat_eq two.thread j) (Some (marked one two k).path)
    (named two.thread (map (marked one two) ks))) (marked_thread one two k) ∙ go (λ f. named_second one two m ks n f)
    (nat_eq two.thread k.thread) refl e
  where
    go : (named two.thread ks ≡ Some m → named two.thread (map (marked one two) ks) ≡ Some two.path) → (o : Bool)
        → nat_eq two.thread k.thread ≡ o → cond o (Some k.path) (named two.thread ks) ≡ Some m
        → cond o (Some (marked one two k).path) (named two.thread (map (marked one two) ks)) ≡ Some two.path
    go ih true e f = let same : two.thread ≡ k.thread = eqb-true two.thread k.thread e in
        ap (λ q. Some (cond q one (cond (nat_eq k.thread two.thread) two k)).path)
        (ap (λ j. nat_eq j one.thread) (sym same) ∙ n) ∙ ap (λ q. Some (cond q two k).path)
        (eq-eqb k.thread two.thread (sym same))
    go ih false e f = ih f
