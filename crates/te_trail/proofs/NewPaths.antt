-- The records of a planting, a branch and a meeting.
use Rattle.std.proofs.Common.{◌≡◌, ◌⊎◌, ◌≤◌, ◌<◌, ◌↔◌, inl, inr, ℕ, zero, suc, ◌+◌, ◌-◌, Bool, true, false, ◌&&◌, not}
use Rattle.std.proofs.Common.{MatchBool, List, [], ◌∷◌, ◌++◌, length, map, get_or, take, drop, slice_get, Option, Some}
use Rattle.std.proofs.Common.{None, cond, ltb, nat_eq, IsTrue, refl, ap, ap₂, sym, ◌∙◌, subst, arith, append_assoc}
use Rattle.std.proofs.Common.{append-nil, length-append, eqb-true, eq-eqb, true≢false, eq-or-lt_of_le}
use Rattle.std.proofs.lemmas.Bool.{lt-ltb, le-ltb, ltb-true, ltb-false}
use Rattle.std.proofs.lemmas.List.{length-map}
use Rattle.te_path.specs.declared.spot.Spot.{Spot}
use Rattle.te_trail.specs.declared.ticks.Tick.{Tick}
use Rattle.te_trail.specs.declared.ticks.Stretch.{Stretch}
use Rattle.te_trail.specs.declared.store.PathRecord.{PathRecord}
use Rattle.te_trail.specs.declared.store.StoreMark.{StoreMark}
use Rattle.te_trail.specs.declared.store.Last.{Last}
use Rattle.te_trail.specs.declared.store.Last.TheVariants.{Root, Left, Right, Sender, Receiver}
use Rattle.te_trail.specs.Paths.{Path, planted, branched, sent, got, thread_of, depth_of, parent_of, IsAbove, OnOneLine}
use Rattle.te_trail.specs.Clocks.{deeper, clock_of, Agree, IsSound}
use Rattle.te_trail.specs.Ticks.{named, between, ticks_of, StretchIsWithin, AreBeyond, AreRising, later, beside, merged, marked, Joins, Raises}
use Rattle.te_trail.specs.Trails.{TellsWhether, IsPathThread, ClockAt, IsClock}
use Rattle.te_trail.specs.Walks.{TellsParent, FitAt, AllFit, FittingFor, Misfit, TicksAreLow, TellsFit}
use Rattle.te_trail.specs.Records.{path_at, last_of, other_end, path_by, mate_of, paths_from, paths_of, is_sender, EndsAfter, EndsWhole, parent_number, HasParent, IsMadeBy, Fits, FitsAll}
use Rattle.te_trail.proofs.Lines.{above_self, above_depth, above_thread, above_trans, above_same, above_both}
use Rattle.te_trail.proofs.Lines.{above_line, line_flip, line_depth, ancestor, rests_move, rests_trans, above_rests}
use Rattle.te_trail.proofs.Lines.{rests_made}
use Rattle.te_trail.proofs.ClockLaws.{eq_apart, differ, deeper_left, deeper_right, deeper_either, clock_thread}
use Rattle.te_trail.proofs.ClockLaws.{clock_in, clock_self, Agrees, agrees_by, agree_by, made_planted, made_branched}
use Rattle.te_trail.proofs.ClockLaws.{made_met, clock_top, past_line, agree_line}
use Rattle.te_terms.proofs.Lists.{eq_same, get_taken, get_low, found_here, get_some}
use Rattle.te_trail.proofs.TicksMerge.{between_step, between_done, between_more, length_between, merged_nil, next_right}
use Rattle.te_trail.proofs.TicksMerge.{next_left, next_lower, next_higher, next_both, IsJoining, joining_start}
use Rattle.te_trail.proofs.TicksMerge.{joining_step, joining_end, IsRaising, raising_start, raising_step, raising_room}
use Rattle.te_trail.proofs.TicksMerge.{raising_end, named_skip, named_here}
use Rattle.te_trail.proofs.RecordsRead.{get_old, get_new, got_or, get_which, take_low, take_all, length_from, length_paths, trees_append, shut_append, end_append}
use Rattle.te_trail.proofs.Ancestors.{AreTidy, node_at, tidy, above_up, above_top, above_number, above_le}
use Rattle.te_trail.proofs.Ancestors.{numbers_apart, parent_known, AboveAlike, above_start, above_next, above_none}
use Rattle.te_trail.proofs.Ancestors.{above_end, fits_same, fits_under, fits_own, fits_over, fits_other, line_fits}
use Rattle.te_trail.proofs.ClocksWalk.{named_beyond, RestDecides, walk_low, walk_high, walk_both, walk_end, named_at}
use Rattle.te_trail.proofs.ClocksWalk.{IsClocked, IsKnown, known, agree_same, agree_false, agree_true, tick_low, misfit}
use Rattle.te_trail.proofs.ClocksWalk.{fitting, agree_told}
use Rattle.te_trail.proofs.RecordsPut.{stretch_last, within_last, Missing, AreNew, kept_push, best, MergesTo, merged_joins, marked_thread, rising_marked, named_marked, named_first, named_second}

get_end : {A : Type 0} (xs : List A) (y : A) (ys : List A) → slice_get (xs ++ (y ∷ ys)) (length xs) ≡ Some y
get_end [] y ys = refl
get_end (x ∷ xs) y ys = get_end xs y ys

get_end2 : {A : Type 0} (xs : List A) (y z : A) → slice_get (xs ++ (y ∷ (z ∷ []))) (length xs + 1) ≡ Some z
get_end2 {A = A} xs y z = ap (λ l. slice_get l (length xs + 1)) (sym (append_assoc xs (y ∷ []) (z ∷ []))) ∙ ap (slice_get ((xs ++ (y ∷ [])) ++ (z ∷ []))) (count xs) ∙ get_end (xs ++ (y ∷ [])) z []
  where
    count : (xs : List A) → length xs + 1 ≡ length (xs ++ (y ∷ []))
    count [] = refl
    count (x ∷ xs) = (let e : suc (length xs) + 1 ≡ suc (length xs + 1) = omega arith in e) ∙ ap suc (count xs)

-- ---- one record
single : {A : Type 0} (x y : A) (k : ℕ) → slice_get (x ∷ []) k ≡ Some y → (k ≡ 0) × (x ≡ y)
single x y zero e = (refl, cc)
single x y (suc k) e = cc

pub new_one : (records : List PathRecord) (ticks : List Tick) (n : PathRecord) (x : Path) (out : List Tick)
    → path_by (paths_of records) n.thread n.parent 0 n.last ≡ x → is_sender n.last ≡ false
    → Fits (paths_of records ++ (x ∷ [])) (ticks ++ out) (length records) n x → Missing (paths_of records) x
    → AreNew records ticks (n ∷ []) (x ∷ []) out
new_one records ticks n x out is calm fit miss = record {
  trees_are = ap (λ q. paths_of records ++ (q ∷ [])) is;
  shut = shut_append records n [] calm;
  fits = λ k m y em ey. (let a : (k ≡ 0) × (n ≡ m) = single n m k em in let b : (k ≡ 0) × (x ≡ y) = single x y k ey in
      subst (λ j. Fits (paths_of records ++ (x ∷ [])) (ticks ++ out) j m y)
      (let e : length records ≡ length records + k = omega (arith, a.0) in e)
      (subst (λ q. Fits (paths_of records ++ (x ∷ [])) (ticks ++ out) (length records) q y) a.1
      (subst (Fits (paths_of records ++ (x ∷ [])) (ticks ++ out) (length records) n) b.1 fit)));
  fresh = λ k y ey. subst (Missing (paths_of records)) (single x y k ey).1 miss;
  once = λ i j y ei ej. (single x y i ei).0 ∙ sym (single x y j ej).0;
}

-- ---- plant
abbrev pub planted_record : Spot → ℕ → ℕ → Stretch → PathRecord
planted_record spot e t c = record { spot = spot; clock = c; parent = 0; thread = t; event = e; last = Root }

pub plant_new : (records : List PathRecord) (ticks : List Tick) (spot : Spot) (e t number : ℕ) (c : Stretch)
    → number ≡ length records → c.at ≡ length ticks → c.len ≡ 1 → Missing (paths_of records) (planted t)
    → AreNew records ticks (planted_record spot e t c ∷ []) (planted t ∷ []) (record { thread = t; path = number } ∷ [])
plant_new records ticks spot e t number c en ea el miss = new_one records ticks (planted_record spot e t c) (planted t) out refl refl (record {
  kind = (t, refl);
  up = refl;
  thread = refl;
  sound = tt;
  within = within_last ticks out c ea el;
  rising = subst AreRising (sym last) (tt, tt);
  clock = λ u. subst (λ ks. ClockAt (paths_of records ++ (planted t ∷ [])) (planted t) u (named u ks)) (sym last) (own u (nat_eq u t) refl);
}) miss
  where
    out : List Tick
    out = record { thread = t; path = number } ∷ []

    last : ticks_of (ticks ++ (record { thread = t; path = number } ∷ [])) c ≡ record { thread = t; path = number } ∷ []
    last = stretch_last ticks (record { thread = t; path = number } ∷ []) c ea el

    own : (u : ℕ) (o : Bool) → nat_eq u t ≡ o → ClockAt (paths_of records ++ (planted t ∷ [])) (planted t) u (cond (nat_eq u t) (Some number) None)
    own u true w = rw w (planted t, ap (slice_get (paths_of records ++ (planted t ∷ []))) (en ∙ sym (length_paths records)) ∙ get_end (paths_of records) (planted t) [], rw w refl)
    own u false w = rw w (rw w refl)

-- ---- branch
pub clock_names : (paths : List Path) (x : Path) (ks : List Tick) → IsClocked paths x ks → (m : ℕ) × (named (thread_of x) ks ≡ Some m)
clock_names paths x ks c = go (named (thread_of x) ks) refl (c.clock (thread_of x))
  where
    go : (o : Option ℕ) → named (thread_of x) ks ≡ o → ClockAt paths x (thread_of x) o → (m : ℕ) × (named (thread_of x) ks ≡ Some m)
    go None e n = let z : clock_of x (thread_of x) ≡ Some x = clock_self x c.sound in cc
    go (Some m) e n = (m, e)

clock_more : (paths more : List Path) (x y : Path) (t : ℕ) (o : Option ℕ) → clock_of y t ≡ clock_of x t → ClockAt paths x t o → ClockAt (paths ++ more) y t o
clock_more paths more x y t None e c = e ∙ c
clock_more paths more x y t (Some m) e c = (c.0, get_old paths more c.0 m c.1, e ∙ c.2)

abbrev pub branched_record : Spot → ℕ → ℕ → Last → ℕ → Stretch → PathRecord
branched_record spot e t l p c = record { spot = spot; clock = c; parent = p; thread = t; event = e; last = l }

abbrev pub SideIs : Bool → Last → Type 0
SideIs left l = MatchBool left (l ≡ Left) (l ≡ Right)

side_path : (acc : List Path) (t p : ℕ) (left : Bool) (l : Last) → SideIs left l → path_by acc t p 0 l ≡ branched (path_at acc p) left
side_path acc t p true l e = ap (path_by acc t p 0) e
side_path acc t p false l e = ap (path_by acc t p 0) e

side_calm : (left : Bool) (l : Last) → SideIs left l → (is_sender l ≡ false) × ((p : ℕ) → parent_number l p ≡ Some p)
side_calm true l e = (ap is_sender e, λ p. ap (λ q. parent_number q p) e)
side_calm false l e = (ap is_sender e, λ p. ap (λ q. parent_number q p) e)

side_kind : (left : Bool) (l : Last) → SideIs left l → (x : Path) → IsMadeBy l (branched x left)
side_kind true l e x = subst (λ k. IsMadeBy k (branched x true)) (sym e) (x, refl)
side_kind false l e x = subst (λ k. IsMadeBy k (branched x false)) (sym e) (x, refl)

pub branch_new : (records : List PathRecord) (ticks : List Tick) → FitsAll records ticks
    → (spot : Spot) (e p : ℕ) (parent : PathRecord) (x : Path) → slice_get records p ≡ Some parent
    → slice_get (paths_of records) p ≡ Some x → (left : Bool) (l : Last) → SideIs left l → (own : Tick)
    → own.thread ≡ parent.thread → own.path ≡ length records → (c : Stretch) → c.at ≡ length ticks
    → c.len ≡ length (map (marked own own) (ticks_of ticks parent.clock)) → Missing (paths_of records) (branched x left)
    → AreNew records ticks (branched_record spot e parent.thread l p c ∷ []) (branched x left ∷ []) (map (marked own own) (ticks_of ticks parent.clock))
branch_new records ticks kept spot e p parent x en ex left l sl own eo ep c ea el miss =
    new_one records ticks (branched_record spot e parent.thread l p c) (branched x left)
    (map (marked own own) (ticks_of ticks parent.clock))
    (side_path (paths_of records) parent.thread p left l sl ∙ ap (λ q. branched q left) (got_or (paths_of records) p x (planted 0) ex)) (side_calm left l sl).0 (record {
      kind = side_kind left l sl x;
      up = subst (HasParent (paths_of records ++ (branched x left ∷ [])) (length records) (branched x left))
          (sym ((side_calm left l sl).1 p)) (
            get_low records parent p en,
            x,
            get_old (paths_of records) (branched x left ∷ []) x p ex,
            refl,
          );
      thread = f.thread;
      sound = f.sound;
      within = within_last ticks (map (marked own own) (ticks_of ticks parent.clock)) c ea el;
      rising = subst AreRising (sym last) (rising_marked own own (ticks_of ticks parent.clock) f.rising);
      clock = λ u. subst (λ ks. ClockAt (paths_of records ++ (branched x left ∷ [])) (branched x left) u (named u ks)) (sym last) (names u (nat_eq u (thread_of x)) refl);
    }) miss
  where
    f : Fits (paths_of records) ticks p parent x
    f = kept.fits p parent x en ex

    last : ticks_of (ticks ++ map (marked own own) (ticks_of ticks parent.clock)) c ≡ map (marked own own) (ticks_of ticks parent.clock)
    last = stretch_last ticks (map (marked own own) (ticks_of ticks parent.clock)) c ea el

    same : thread_of x ≡ own.thread
    same = f.thread ∙ sym eo

    names : (u : ℕ) (o : Bool) → nat_eq u (thread_of x) ≡ o → ClockAt (paths_of records ++ (branched x left ∷ [])) (branched x left) u (named u (map (marked own own) (ticks_of ticks parent.clock)))
    names u true w =
        let one : u ≡ own.thread = eqb-true u (thread_of x) w ∙ same in
        let m : (m : ℕ) × (named (thread_of x) (ticks_of ticks parent.clock) ≡ Some m) =
        clock_names (paths_of records) x (ticks_of ticks parent.clock)
        (record { sound = f.sound; rising = f.rising; clock = f.clock }) in
        let n : named u (map (marked own own) (ticks_of ticks parent.clock)) ≡ Some own.path =
        ap (λ k. named k (map (marked own own) (ticks_of ticks parent.clock))) one ∙ named_first own own m.0
        (ticks_of ticks parent.clock) (ap (λ k. named k (ticks_of ticks parent.clock)) (sym same) ∙ m.1) in
        subst (ClockAt (paths_of records ++ (branched x left ∷ [])) (branched x left) u) (sym n) (
          branched x left,
          ap (slice_get (paths_of records ++ (branched x left ∷ [])))
              (ep ∙ sym (length_paths records)) ∙ get_end (paths_of records) (branched x left) [],
          ap (λ o. cond o (Some (branched x left)) (clock_of x u)) w,
        )
    names u false w =
        let off : nat_eq u own.thread ≡ false = ap (nat_eq u) (sym same) ∙ w in
        subst (ClockAt (paths_of records ++ (branched x left ∷ [])) (branched x left) u)
        (sym (named_marked own own u (ticks_of ticks parent.clock) off off))
        (clock_more (paths_of records) (branched x left ∷ []) x (branched x left) u
        (named u (ticks_of ticks parent.clock)) (ap (λ o. cond o (Some (branched x left)) (clock_of x u)) w)
        (f.clock u))

-- ---- meet

-- an option of a path by its number
abbrev OptAt : List Path → Option Path → Option ℕ → Type 0
OptAt paths oc None = oc ≡ None
OptAt paths oc (Some m) = (c : Path) × (slice_get paths m ≡ Some c) × (oc ≡ Some c)

opt_clock : (paths : List Path) (x : Path) (t : ℕ) (o : Option ℕ) → ClockAt paths x t o → OptAt paths (clock_of x t) o
opt_clock paths x t None c = c
opt_clock paths x t (Some m) c = c

clock_opt : (paths more : List Path) (x : Path) (t : ℕ) (oc : Option Path) (o : Option ℕ) → clock_of x t ≡ oc → OptAt paths oc o → ClockAt (paths ++ more) x t o
clock_opt paths more x t oc None e c = e ∙ c
clock_opt paths more x t oc (Some m) e c = (c.0, get_old paths more c.0 m c.1, e ∙ c.2)

deeper_best : (paths : List Path) → AreTidy paths → (oa ob : Option Path) (m n : Option ℕ) → OptAt paths oa m
    → OptAt paths ob n → ((a b : Path) → oa ≡ Some a → ob ≡ Some b → OnOneLine a b)
    → OptAt paths (deeper oa ob) (best m n)
unfolding best
deeper_best paths g oa ob None None a b line = ap₂ deeper a b
deeper_best paths g oa ob None (Some n) a b line = (b.0, b.1, ap₂ deeper a b.2)
deeper_best paths g oa ob (Some m) None a b line = (a.0, a.1, ap₂ deeper a.2 b)
deeper_best paths g oa ob (Some m) (Some n) a b line = go (ltb m n) refl
  where
    whole : deeper oa ob ≡ Some (cond (ltb (depth_of a.0) (depth_of b.0)) b.0 a.0)
    whole = ap₂ deeper a.2 b.2

    on : OnOneLine a.0 b.0
    on = line a.0 b.0 a.2 b.2

    equal : m ≡ n → a.0 ≡ b.0
    equal e = let x : slice_get paths n ≡ Some a.0 = subst (λ k. slice_get paths k ≡ Some a.0) e a.1 in let y : slice_get paths n ≡ Some b.0 = b.1 in cc

    go : (o : Bool) → ltb m n ≡ o → OptAt paths (deeper oa ob) (Some (cond o n m))
    go true e = (b.0, b.1, whole ∙ ap (λ o. Some (cond o b.0 a.0)) (lt-ltb (depth_of a.0) (depth_of b.0) (under (ltb-true m n e))))
      where
        up : m < n → IsAbove a.0 b.0
        up h = elim on [ inl u ↦ u | inr d ↦ absurd (omega (arith, above_le paths g n m b.0 a.0 b.1 a.1 d, h)) ]

        under : m < n → depth_of a.0 < depth_of b.0
        under h = apart (up h) (λ e. omega (arith, g.once m n a.0 a.1 (b.1 ∙ ap Some (sym e)), h))
          where
            apart : IsAbove a.0 b.0 → (a.0 ≡ b.0 → ⊥) → depth_of a.0 < depth_of b.0
            apart u ne = elim (eq-or-lt_of_le (above_depth a.0 b.0 u)) [ inl s ↦ absurd (ne (above_same a.0 b.0 u s)) | inr l ↦ l ]
    go false e = (a.0, a.1, whole ∙ ap (λ o. Some (cond o b.0 a.0)) (le-ltb (depth_of a.0) (depth_of b.0) over))
      where
        over : depth_of b.0 ≤ depth_of a.0
        over = elim on [
          | inl u ↦ (let le : m ≤ n = above_le paths g m n a.0 b.0 a.1 b.1 u in let s : a.0 ≡ b.0 =
              equal (omega (arith, le, ltb-false m n e)) in (let d : depth_of a.0 ≡ depth_of b.0 = ap depth_of s in
              omega (arith, d)))
          | inr d ↦ above_depth b.0 a.0 d
        ]

best_left : (m : ℕ) (o v : Option ℕ) → o ≡ Some m → (k : ℕ) × (best o v ≡ Some k)
unfolding best
best_left m None v e = cc
best_left m (Some a) None e = (a, refl)
best_left m (Some a) (Some b) e = (cond (ltb a b) b a, refl)

best_right : (m : ℕ) (o v : Option ℕ) → v ≡ Some m → (k : ℕ) × (best o v ≡ Some k)
unfolding best
best_right m o None e = cc
best_right m None (Some b) e = (b, refl)
best_right m (Some a) (Some b) e = (cond (ltb a b) b a, refl)

abbrev pub sender_record : Spot → ℕ → ℕ → ℕ → Stretch → PathRecord
sender_record spot e t p c = record { spot = spot; clock = c; parent = p; thread = t; event = e; last = Sender }

abbrev pub receiver_record : Spot → ℕ → ℕ → ℕ → Stretch → PathRecord
receiver_record spot e t q c = record { spot = spot; clock = c; parent = q; thread = t; event = e; last = Receiver }

abbrev pub met_records : PathRecord → PathRecord → List PathRecord
met_records s r = s ∷ (r ∷ [])

abbrev pub ends : Path → Path → List Path
ends x y = sent x y ∷ (got x y ∷ [])

-- both ends have one clock
clock_meet : (paths : List Path) → AreTidy paths → (x y : Path) (ks js : List Tick) → IsClocked paths x ks
    → IsClocked paths y js → Agrees x y → (one two : Tick) → one.thread ≡ thread_of x → two.thread ≡ thread_of y
    → one.path ≡ length paths → two.path ≡ length paths + 1 → (t : ℕ)
    → ClockAt (paths ++ ends x y) (sent x y) t (named t (map (marked one two) (merged ks js)))
clock_meet paths g x y ks js cx cy ag one two e1 e2 p1 p2 t = go (nat_eq t (thread_of x)) refl (nat_eq t (thread_of y)) refl
  where
    j : MergesTo ks js (merged ks js)
    j = merged_joins ks js cx.rising cy.rising

    apart : nat_eq two.thread one.thread ≡ false
    apart = ap₂ nat_eq e2 e1 ∙ eq_apart (thread_of x) (thread_of y) ag.apart

    first : (k : ℕ) × (named one.thread (merged ks js) ≡ Some k)
    first = let m : (m : ℕ) × (named (thread_of x) ks ≡ Some m) = clock_names paths x ks cx in
        let b : (k : ℕ) × (best (named one.thread ks) (named one.thread js) ≡ Some k) =
        best_left m.0 (named one.thread ks) (named one.thread js) (ap (λ k. named k ks) e1 ∙ m.1) in
        (b.0, j.named_best one.thread ∙ b.1)

    second : (k : ℕ) × (named two.thread (merged ks js) ≡ Some k)
    second = let m : (m : ℕ) × (named (thread_of y) js ≡ Some m) = clock_names paths y js cy in
        let b : (k : ℕ) × (best (named two.thread ks) (named two.thread js) ≡ Some k) =
        best_right m.0 (named two.thread ks) (named two.thread js) (ap (λ k. named k js) e2 ∙ m.1) in
        (b.0, j.named_best two.thread ∙ b.1)

    whole : (o : Bool) → nat_eq t (thread_of x) ≡ o → (v : Bool) → nat_eq t (thread_of y) ≡ v
        → clock_of (sent x y) t ≡ cond o (Some (sent x y)) (cond v (Some (got x y))
        (deeper (clock_of x t) (clock_of y t)))
    whole o e v f = ap₂ (λ a b. cond a (Some (sent x y)) (cond b (Some (got x y)) (deeper (clock_of x t) (clock_of y t)))) e f

    go : (o : Bool) → nat_eq t (thread_of x) ≡ o → (v : Bool) → nat_eq t (thread_of y) ≡ v → ClockAt (paths ++ ends x y) (sent x y) t (named t (map (marked one two) (merged ks js)))
    go true e v f =
        let n : named t (map (marked one two) (merged ks js)) ≡ Some one.path =
        ap (λ k. named k (map (marked one two) (merged ks js))) (eqb-true t (thread_of x) e ∙ sym e1)
        ∙ named_first one two first.0 (merged ks js) first.1 in
        subst (ClockAt (paths ++ ends x y) (sent x y) t) (sym n) (sent x y, ap (slice_get (paths ++ ends x y)) p1 ∙ get_end paths (sent x y) (got x y ∷ []), whole true e v f)
    go false e true f =
        let n : named t (map (marked one two) (merged ks js)) ≡ Some two.path =
        ap (λ k. named k (map (marked one two) (merged ks js))) (eqb-true t (thread_of y) f ∙ sym e2)
        ∙ named_second one two second.0 (merged ks js) apart second.1 in
        subst (ClockAt (paths ++ ends x y) (sent x y) t) (sym n) (got x y, ap (slice_get (paths ++ ends x y)) p2 ∙ get_end2 paths (sent x y) (got x y), whole false e true f)
    go false e false f =
        let n : named t (map (marked one two) (merged ks js)) ≡ best (named t ks) (named t js) = named_marked one two t (merged ks js) (ap (nat_eq t) e1 ∙ e) (ap (nat_eq t) e2 ∙ f) ∙ j.named_best t in
        subst (ClockAt (paths ++ ends x y) (sent x y) t) (sym n)
        (clock_opt paths (ends x y) (sent x y) t (deeper (clock_of x t) (clock_of y t))
        (best (named t ks) (named t js)) (whole false e false f)
        (deeper_best paths g (clock_of x t) (clock_of y t) (named t ks) (named t js)
        (opt_clock paths x t (named t ks) (cx.clock t)) (opt_clock paths y t (named t js) (cy.clock t))
        (λ a b u w. ag.lines t a b u w)))

clock_other : (paths : List Path) (x y : Path) (t : ℕ) (o : Option ℕ) → ClockAt paths (sent x y) t o → ClockAt paths (got x y) t o
clock_other paths x y t None c = c
clock_other paths x y t (Some m) c = c

pub meet_new : (records : List PathRecord) (ticks : List Tick) → FitsAll records ticks
    → (spot1 spot2 : Spot) (e1 e2 p q : ℕ) (a b : PathRecord) (x y : Path) → slice_get records p ≡ Some a
    → slice_get (paths_of records) p ≡ Some x → slice_get records q ≡ Some b → slice_get (paths_of records) q ≡ Some y
    → Agrees x y → (one two : Tick) → one.thread ≡ a.thread → two.thread ≡ b.thread → one.path ≡ length records
    → two.path ≡ length records + 1
    → (c : Stretch) → c.at ≡ length ticks → c.len ≡ length (map (marked one two)
    (merged (ticks_of ticks a.clock) (ticks_of ticks b.clock))) → Missing (paths_of records) (sent x y)
    → Missing (paths_of records) (got x y)
    → AreNew records ticks (met_records (sender_record spot1 e1 a.thread p c) (receiver_record spot2 e2 b.thread q c))
    (ends x y) (map (marked one two) (merged (ticks_of ticks a.clock) (ticks_of ticks b.clock)))
meet_new records ticks kept spot1 spot2 e1 e2 p q a b x y ea ex eb ey ag one two t1 t2 p1 p2 c ca cl ms mg = record {
  trees_are = append_assoc (paths_of records) (sent (path_at (paths_of records) p) (path_at (paths_of records) q) ∷ [])
      (other_end (last_of (paths_of records ++ (sent (path_at (paths_of records) p) (path_at (paths_of records) q) ∷ [])))
      ∷ [])
      ∙ ap (λ r. paths_of records ++ (sent (path_at (paths_of records) p) (path_at (paths_of records) q)
      ∷ (other_end r ∷ []))) (end_append (paths_of records)
      (sent (path_at (paths_of records) p) (path_at (paths_of records) q)))
      ∙ ap₂ (λ u v. paths_of records ++ ends u v) (got_or (paths_of records) p x (planted 0) ex) (got_or (paths_of records) q y (planted 0) ey);
  shut = shut_append records ((sender_record spot1 e1 a.thread p c)) ((receiver_record spot2 e2 b.thread q c) ∷ []) refl;
  fits = fit;
  fresh = λ k z ez. new k z ez;
  once = λ i j z ei ej. one_of i j z ei ej;
}
  where
    fx : Fits (paths_of records) ticks p a x
    fx = kept.fits p a x ea ex

    fy : Fits (paths_of records) ticks q b y
    fy = kept.fits q b y eb ey

    cx : IsClocked (paths_of records) x (ticks_of ticks a.clock)
    cx = record { sound = fx.sound; rising = fx.rising; clock = fx.clock }

    cy : IsClocked (paths_of records) y (ticks_of ticks b.clock)
    cy = record { sound = fy.sound; rising = fy.rising; clock = fy.clock }

    last : ticks_of (ticks ++ map (marked one two) (merged (ticks_of ticks a.clock) (ticks_of ticks b.clock))) c ≡ map (marked one two) (merged (ticks_of ticks a.clock) (ticks_of ticks b.clock))
    last = stretch_last ticks (map (marked one two) (merged (ticks_of ticks a.clock) (ticks_of ticks b.clock))) c ca cl

    rise : AreRising (ticks_of (ticks ++ map (marked one two) (merged (ticks_of ticks a.clock) (ticks_of ticks b.clock))) c)
    rise = subst AreRising (sym last) (rising_marked one two (merged (ticks_of ticks a.clock) (ticks_of ticks b.clock))
        (merged_joins (ticks_of ticks a.clock) (ticks_of ticks b.clock) fx.rising fy.rising).rising)

    clk : (t : ℕ) → ClockAt (paths_of records ++ ends x y) (sent x y) t (named t (ticks_of (ticks ++ map (marked one two) (merged (ticks_of ticks a.clock) (ticks_of ticks b.clock))) c))
    clk t = subst (λ ks. ClockAt (paths_of records ++ ends x y) (sent x y) t (named t ks)) (sym last)
        (clock_meet (paths_of records) (tidy records ticks (paths_of records) kept refl) x y (ticks_of ticks a.clock)
        (ticks_of ticks b.clock) cx cy ag one two (t1 ∙ sym fx.thread) (t2 ∙ sym fy.thread)
        (p1 ∙ sym (length_paths records)) (p2 ∙ ap (λ k. k + 1) (sym (length_paths records))) t)

    s_fit : Fits (paths_of records ++ ends x y) (ticks ++ map (marked one two)
        (merged (ticks_of ticks a.clock) (ticks_of ticks b.clock))) (length records)
        ((sender_record spot1 e1 a.thread p c)) (sent x y)
    s_fit = record {
      kind = (x, y, refl);
      up = (
        get_low records a p ea,
        x,
        get_old (paths_of records) (ends x y) x p ex,
        refl,
      );
      thread = fx.thread;
      sound = (fx.sound, fy.sound, agree_by x y ag);
      within =
          within_last ticks (map (marked one two) (merged (ticks_of ticks a.clock) (ticks_of ticks b.clock))) c ca cl;
      rising = rise;
      clock = clk;
    }

    g_fit : Fits (paths_of records ++ ends x y) (ticks ++ map (marked one two)
        (merged (ticks_of ticks a.clock) (ticks_of ticks b.clock))) (length records + 1)
        ((receiver_record spot2 e2 b.thread q c)) (got x y)
    g_fit = record {
      kind = (x, y, refl);
      up = (
        omega (arith, get_low records b q eb),
        y,
        get_old (paths_of records) (ends x y) y q ey,
        refl,
      );
      thread = fy.thread;
      sound =
          (fx.sound, fy.sound, agree_by x y ag);
      within = within_last ticks
          (map (marked one two) (merged (ticks_of ticks a.clock) (ticks_of ticks b.clock))) c ca cl;
      rising = rise;
      clock =
          λ t. clock_other (paths_of records ++ ends x y) x y t (named t
          (ticks_of (ticks ++ map (marked one two) (merged (ticks_of ticks a.clock) (ticks_of ticks b.clock))) c)) (clk t);
    }

    fit : (k : ℕ) (n : PathRecord) (z : Path) → slice_get (met_records (sender_record spot1 e1 a.thread p c)
        (receiver_record spot2 e2 b.thread q c)) k ≡ Some n → slice_get (ends x y) k ≡ Some z
        → Fits (paths_of records ++ ends x y) (ticks ++ map (marked one two)
        (merged (ticks_of ticks a.clock) (ticks_of ticks b.clock))) (length records + k) n z
    fit zero n z en ez = let u : (sender_record spot1 e1 a.thread p c) ≡ n = cc in let v : sent x y ≡ z = cc in
        subst (λ j. Fits (paths_of records ++ ends x y) (ticks ++ map (marked one two)
        (merged (ticks_of ticks a.clock) (ticks_of ticks b.clock))) j n z)
        (let e : length records ≡ length records + 0 = omega arith in e)
        (subst (λ j. Fits (paths_of records ++ ends x y) (ticks ++ map (marked one two)
        (merged (ticks_of ticks a.clock) (ticks_of ticks b.clock))) (length records) j z) u
        (subst (λ j. Fits (paths_of records ++ ends x y) (ticks ++ map (marked one two)
        (merged (ticks_of ticks a.clock) (ticks_of ticks b.clock))) (length records)
        ((sender_record spot1 e1 a.thread p c)) j) v s_fit))
    fit (suc zero) n z en ez = let u : (receiver_record spot2 e2 b.thread q c) ≡ n = cc in let v : got x y ≡ z = cc in
        subst (λ j. Fits (paths_of records ++ ends x y) (ticks ++ map (marked one two)
        (merged (ticks_of ticks a.clock) (ticks_of ticks b.clock))) (length records + 1) j z) u
        (subst (λ j. Fits (paths_of records ++ ends x y) (ticks ++ map (marked one two)
        (merged (ticks_of ticks a.clock) (ticks_of ticks b.clock))) (length records + 1)
        ((receiver_record spot2 e2 b.thread q c)) j) v g_fit)
    fit (suc (suc k)) n z en ez = cc

    new : (k : ℕ) (z : Path) → slice_get (ends x y) k ≡ Some z → Missing (paths_of records) z
    new zero z ez = let v : sent x y ≡ z = cc in subst (Missing (paths_of records)) v ms
    new (suc zero) z ez = let v : got x y ≡ z = cc in subst (Missing (paths_of records)) v mg
    new (suc (suc k)) z ez = cc

    one_of : (i j : ℕ) (z : Path) → slice_get (ends x y) i ≡ Some z → slice_get (ends x y) j ≡ Some z → i ≡ j
    one_of zero zero z ei ej = refl
    one_of zero (suc zero) z ei ej = cc
    one_of zero (suc (suc j)) z ei ej = cc
    one_of (suc zero) zero z ei ej = cc
    one_of (suc zero) (suc zero) z ei ej = refl
    one_of (suc zero) (suc (suc j)) z ei ej = cc
    one_of (suc (suc i)) j z ei ej = cc
