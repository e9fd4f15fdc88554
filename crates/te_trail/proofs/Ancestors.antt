-- What a kept store tells of its paths.
use Rattle.std.proofs.Common.{◌≡◌, ◌⊎◌, ◌≤◌, ◌<◌, ◌↔◌, inl, inr, ℕ, zero, suc, ◌+◌, ◌-◌, Bool, true, false, ◌&&◌, not}
use Rattle.std.proofs.Common.{MatchBool, List, [], ◌∷◌, ◌++◌, length, map, get_or, take, drop, slice_get, Option, Some}
use Rattle.std.proofs.Common.{None, cond, ltb, nat_eq, IsTrue, refl, ap, ap₂, sym, ◌∙◌, subst, arith, append_assoc}
use Rattle.std.proofs.Common.{append-nil, length-append, eqb-true, eq-eqb, true≢false, eq-or-lt_of_le}
use Rattle.te_path.specs.declared.spot.Spot.{Spot}
use Rattle.te_trail.specs.declared.ticks.Tick.{Tick}
use Rattle.te_trail.specs.declared.ticks.Stretch.{Stretch}
use Rattle.te_trail.specs.declared.store.PathRecord.{PathRecord}
use Rattle.te_trail.specs.declared.store.StoreMark.{StoreMark}
use Rattle.te_trail.specs.declared.store.Last.{Last}
use Rattle.te_trail.specs.declared.store.Last.TheVariants.{Root, Left, Right, Sender, Receiver}
use Rattle.te_trail.specs.Paths.{Path, planted, branched, sent, got, thread_of, depth_of, parent_of, IsAbove, OnOneLine}
use Rattle.te_trail.specs.Clocks.{deeper, clock_of, Agree, IsSound}
use Rattle.te_trail.specs.Ticks.{named, between, ticks_of, StretchIsWithin, AreBeyond, AreRising, later, beside, merged, marked, Joins, Raises}
use Rattle.te_trail.specs.Trails.{TellsWhether, IsPathThread, ClockAt, IsClock}
use Rattle.te_trail.specs.Walks.{TellsParent, FitAt, AllFit, FittingFor, Misfit, TicksAreLow, TellsFit}
use Rattle.te_trail.specs.Records.{path_at, last_of, other_end, path_by, mate_of, paths_from, paths_of, is_sender, EndsAfter, EndsWhole, parent_number, HasParent, Fits, FitsAll}
use Rattle.te_trail.proofs.Lines.{above_self, above_depth, above_thread, above_trans, above_same, above_both}
use Rattle.te_trail.proofs.Lines.{above_line, line_flip, line_depth, ancestor, rests_move, rests_trans, above_rests}
use Rattle.te_trail.proofs.Lines.{rests_made}
use Rattle.te_trail.proofs.ClockLaws.{eq_apart, differ, deeper_left, deeper_right, deeper_either, clock_thread}
use Rattle.te_trail.proofs.ClockLaws.{clock_in, clock_self, Agrees, agrees_by, agree_by, made_planted, made_branched}
use Rattle.te_trail.proofs.ClockLaws.{made_met, clock_top, past_line, agree_line}
use Rattle.te_terms.proofs.Lists.{eq_same, get_taken, get_low, found_here, get_some}
use Rattle.te_trail.proofs.TicksMerge.{between_step, between_done, between_more, length_between, merged_nil, next_right}
use Rattle.te_trail.proofs.TicksMerge.{next_left, next_lower, next_higher, next_both, IsJoining, joining_start}
use Rattle.te_trail.proofs.TicksMerge.{joining_step, joining_end, IsRaising, raising_start, raising_step, raising_room}
use Rattle.te_trail.proofs.TicksMerge.{raising_end, named_skip, named_here}
use Rattle.te_trail.proofs.RecordsRead.{get_old, get_new, got_or, get_which, take_low, take_all, length_from, length_paths, trees_append, shut_append, end_append}

-- a list of paths as stores have them
pub record AreTidy (paths : List Path) : Type 0 where
  pub once : (i j : ℕ) (x : Path) → slice_get paths i ≡ Some x → slice_get paths j ≡ Some x → i ≡ j
  pub ups : (k : ℕ) (x y : Path) → slice_get paths k ≡ Some x → parent_of x ≡ Some y → (r : ℕ) × (r < k) × (slice_get paths r ≡ Some y)
  pub sounds : (k : ℕ) (x : Path) → slice_get paths k ≡ Some x → IsSound x

pub node_at : (records : List PathRecord) (k : ℕ) (x : Path) → slice_get (paths_of records) k ≡ Some x → (n : PathRecord) × (slice_get records k ≡ Some n)
node_at records k x e = get_some records k (omega (arith, get_low (paths_of records) x k e, length_paths records))

pub tidy : (records : List PathRecord) (ticks : List Tick) (paths : List Path) → FitsAll records ticks → paths_of records ≡ paths → AreTidy paths
tidy records ticks paths kept view = subst AreTidy view (record {
  once = kept.once;
  ups = λ k x y e f. (let n : (n : PathRecord) × (slice_get records k ≡ Some n) = node_at records k x e in up k x y f (parent_number n.0.last n.0.parent) (kept.fits k n.0 x n.1 e).up);
  sounds = λ k x e. (let n : (n : PathRecord) × (slice_get records k ≡ Some n) = node_at records k x e in (kept.fits k n.0 x n.1 e).sound);
})
  where
    up : (k : ℕ) (x y : Path) → parent_of x ≡ Some y → (o : Option ℕ) → HasParent (paths_of records) k x o → (r : ℕ) × (r < k) × (slice_get (paths_of records) r ≡ Some y)
    up k x y f None u = cc
    up k x y f (Some r) u = let one : u.1 ≡ y = (let g : parent_of x ≡ Some u.1 = u.3 in cc) in (r, u.0, subst (λ z. slice_get (paths_of records) r ≡ Some z) one u.2)

-- ---- numbers
pub above_up : (z x y : Path) → parent_of x ≡ Some y → IsAbove z x ↔ ((z ≡ x) ⊎ IsAbove z y)
above_up z (planted t) y e = cc
above_up z (branched p l) y e = let same : p ≡ y = cc in subst (λ q. IsAbove z (branched p l) ↔ ((z ≡ branched p l) ⊎ IsAbove z q)) same ((λ a. a), (λ a. a))
above_up z (sent s r) y e = let same : s ≡ y = cc in subst (λ q. IsAbove z (sent s r) ↔ ((z ≡ sent s r) ⊎ IsAbove z q)) same ((λ a. a), (λ a. a))
above_up z (got s r) y e = let same : r ≡ y = cc in subst (λ q. IsAbove z (got s r) ↔ ((z ≡ got s r) ⊎ IsAbove z q)) same ((λ a. a), (λ a. a))

pub above_top : (z x : Path) → parent_of x ≡ None → IsAbove z x → z ≡ x
above_top z (planted t) e a = a
above_top z (branched p l) e a = cc
above_top z (sent s r) e a = cc
above_top z (got s r) e a = cc

pub above_number : (paths : List Path) → AreTidy paths → (z x : Path) (k : ℕ) → slice_get paths k ≡ Some z → IsAbove x z → (i : ℕ) × (i ≤ k) × (slice_get paths i ≡ Some x)
above_number paths g (planted t) x k e a = (k, omega arith, e ∙ ap Some (sym a))
above_number paths g (branched p l) x k e (inl a) = (k, omega arith, e ∙ ap Some (sym a))
above_number paths g (branched p l) x k e (inr a) = let r : (r : ℕ) × (r < k) × (slice_get paths r ≡ Some p) =
    g.ups k (branched p l) p e refl in let i : (i : ℕ) × (i ≤ r.0) × (slice_get paths i ≡ Some x) =
    above_number paths g p x r.0 r.2 a in (i.0, omega (arith, i.1, r.1), i.2)
above_number paths g (sent s q) x k e (inl a) = (k, omega arith, e ∙ ap Some (sym a))
above_number paths g (sent s q) x k e (inr a) = let r : (r : ℕ) × (r < k) × (slice_get paths r ≡ Some s) =
    g.ups k (sent s q) s e refl in let i : (i : ℕ) × (i ≤ r.0) × (slice_get paths i ≡ Some x) =
    above_number paths g s x r.0 r.2 a in (i.0, omega (arith, i.1, r.1), i.2)
above_number paths g (got s q) x k e (inl a) = (k, omega arith, e ∙ ap Some (sym a))
above_number paths g (got s q) x k e (inr a) = let r : (r : ℕ) × (r < k) × (slice_get paths r ≡ Some q) =
    g.ups k (got s q) q e refl in let i : (i : ℕ) × (i ≤ r.0) × (slice_get paths i ≡ Some x) =
    above_number paths g q x r.0 r.2 a in (i.0, omega (arith, i.1, r.1), i.2)

-- an ancestor has no greater number
pub above_le : (paths : List Path) → AreTidy paths → (p k : ℕ) (x z : Path) → slice_get paths p ≡ Some x → slice_get paths k ≡ Some z → IsAbove x z → p ≤ k
above_le paths g p k x z e f a =
    let i : (i : ℕ) × (i ≤ k) × (slice_get paths i ≡ Some x) = above_number paths g z x k f a in
    let same : i.0 ≡ p = g.once i.0 p x i.2 e in
    omega (arith, i.1, same)

pub numbers_apart : (paths : List Path) → AreTidy paths → (p k : ℕ) (x z : Path) → slice_get paths p ≡ Some x → slice_get paths k ≡ Some z → p < k → x ≡ z → ⊥
numbers_apart paths g p k x z e f less same = let one : p ≡ k = g.once p k x e (f ∙ ap Some (sym same)) in omega (arith, one, less)

pub parent_known : (records : List PathRecord) (ticks : List Tick) (paths : List Path) (p : ℕ) (n : PathRecord)
    (o : Option ℕ) → FitsAll records ticks → paths_of records ≡ paths → p < length paths → n ≡ get_or records p n
    → parent_number n.last n.parent ≡ o → TellsParent paths p o
parent_known records ticks paths p n o kept view h e is = subst (λ q. TellsParent q p o) view (go o is)
  where
    low : p < length records
    low = omega (arith, h, length_paths records, ap length view)

    en : slice_get records p ≡ Some n
    en = found_here records p n low e

    up : (x : Path) → slice_get (paths_of records) p ≡ Some x → (o : Option ℕ) → parent_number n.last n.parent ≡ o → HasParent (paths_of records) p x o
    up x ex o is = subst (HasParent (paths_of records) p x) is (kept.fits p n x en ex).up

    go : (o : Option ℕ) → parent_number n.last n.parent ≡ o → TellsParent (paths_of records) p o
    go None is = λ x ex. up x ex None is
    go (Some r) is = (
      let x : (x : Path) × (slice_get (paths_of records) p ≡ Some x) =
          get_some (paths_of records) p (omega (arith, low, length_paths records)) in (up x.0 x.1 (Some r) is).0,
      λ x ex.
          (let u : (r < p) × (y : Path) × (slice_get (paths_of records) r ≡ Some y) × (parent_of x ≡ Some y) =
          up x ex (Some r) is in (u.1, u.2, u.3)),
    )

-- ---- the walk to an ancestor
abbrev pub AboveAlike : List Path → ℕ → ℕ → ℕ → Type 0
AboveAlike paths p q at = (x y z : Path) → slice_get paths p ≡ Some x → slice_get paths q ≡ Some y → slice_get paths at ≡ Some z → IsAbove x y ↔ IsAbove x z

pub above_start : (paths : List Path) (p q : ℕ) → AboveAlike paths p q q
above_start paths p q x y z ex ey ez = let one : y ≡ z = cc in subst (λ w. IsAbove x y ↔ IsAbove x w) one ((λ a. a), (λ a. a))

pub above_next : (paths : List Path) → AreTidy paths → (p q at r : ℕ) → at < length paths → AboveAlike paths p q at
    → p < at → TellsParent paths at (Some r) → (r < length paths) × AboveAlike paths p q r
above_next paths g p q at r within same less par = (omega (arith, par.0, within), λ x y z2 ex ey ez. go x y z2 ex ey ez (get_some paths at within))
  where
    go : (x y z2 : Path) → slice_get paths p ≡ Some x → slice_get paths q ≡ Some y → slice_get paths r ≡ Some z2 → (z : Path) × (slice_get paths at ≡ Some z) → IsAbove x y ↔ IsAbove x z2
    go x y z2 ex ey ez (z, e) =
        let up : (w : Path) × (slice_get paths r ≡ Some w) × (parent_of z ≡ Some w) = par.1 z e in
        let one : up.0 ≡ z2 = cc in
        let step : IsAbove x z ↔ ((x ≡ z) ⊎ IsAbove x z2) = above_up x z z2 (up.2 ∙ ap Some one) in
        let here : IsAbove x y ↔ IsAbove x z = same x y z ex ey e in
        ((λ a. elim (step.0 (here.0 a)) [ inl s ↦ absurd (numbers_apart paths g p at x z ex e less s) | inr b ↦ b ]), (λ b. here.1 (step.1 (inr b))))

pub above_none : (paths : List Path) → AreTidy paths → (p q at : ℕ) → at < length paths → AboveAlike paths p q at → p < at → TellsParent paths at None → TellsWhether paths p q IsAbove false
above_none paths g p q at within same less par x y ex ey = go (get_some paths at within)
  where
    go : (z : Path) × (slice_get paths at ≡ Some z) → IsTrue false ↔ IsAbove x y
    go (z, e) = ((λ f. absurd (true≢false (sym f))), (λ a. absurd (numbers_apart paths g p at x z ex e less (above_top x z (par z e) ((same x y z ex ey e).0 a)))))

pub above_end : (paths : List Path) → AreTidy paths → (p q at : ℕ) → at < length paths → AboveAlike paths p q at → at ≤ p → TellsWhether paths p q IsAbove (nat_eq at p)
above_end paths g p q at within same more x y ex ey = go (get_some paths at within) (nat_eq at p) refl
  where
    go : (z : Path) × (slice_get paths at ≡ Some z) → (o : Bool) → nat_eq at p ≡ o → IsTrue o ↔ IsAbove x y
    go (z, e) true n =
        let e2 : slice_get paths p ≡ Some z = subst (λ k. slice_get paths k ≡ Some z) (eqb-true at p n) e in
        let one : x ≡ z = cc in
        ((λ t. (same x y z ex ey e).1 (subst (λ v. IsAbove x v) one (above_self x))), (λ a. refl))
    go (z, e) false n = ((λ f. absurd (true≢false (sym f))), (λ a. absurd (omega (arith, above_le paths g p at x z ex e ((same x y z ex ey e).0 a), smaller n))))
      where
        smaller : nat_eq at p ≡ false → at < p
        smaller n = elim (eq-or-lt_of_le more) [ inl s ↦ (let t : nat_eq at p ≡ true = eq-eqb at p s in absurd (true≢false (sym t ∙ n))) | inr l ↦ l ]

-- ---- one line
pub fits_same : (paths : List Path) (p q : ℕ) (own other : Bool) → p ≡ q → TellsWhether paths p q (FitAt own other) true
fits_same paths p q own other e x y ex ey =
    let ey2 : slice_get paths p ≡ Some y = subst (λ k. slice_get paths k ≡ Some y) (sym e) ey in
    let one : x ≡ y = cc in
    ((λ t. (inl (subst (IsAbove x) one (above_self x)), (λ o. subst (λ z. IsAbove z x) one (above_self x)), (λ o. subst (IsAbove x) one (above_self x)))), (λ f. refl))

line_under : (paths : List Path) → AreTidy paths → (p q : ℕ) (x y : Path) → slice_get paths p ≡ Some x → slice_get paths q ≡ Some y → p < q → IsAbove y x → ⊥
line_under paths g p q x y ex ey h a = omega (arith, above_le paths g q p y x ey ex a, h)

pub fits_under : (paths : List Path) → AreTidy paths → (p q : ℕ) (own other r : Bool) → p < q → own ≡ false → TellsWhether paths p q IsAbove r → TellsWhether paths p q (FitAt own other) r
fits_under paths g p q own other r h e tell x y ex ey = (
  (λ t.
      (let a : IsAbove x y = (tell x y ex ey).0 t in (inl a, (λ o. absurd (true≢false (sym o ∙ e))), (λ o. a)))),
  (λ f. (tell x y ex ey).1 (elim f.0 [ inl a ↦ a | inr b ↦ absurd (line_under paths g p q x y ex ey h b) ])),
)

pub fits_own : (paths : List Path) → AreTidy paths → (p q : ℕ) (own other : Bool) → p < q → own ≡ true → TellsWhether paths p q (FitAt own other) false
fits_own paths g p q own other h e x y ex ey = ((λ t. absurd (true≢false (sym t))), (λ f. absurd (line_under paths g p q x y ex ey h (f.1 e))))

pub fits_over : (paths : List Path) → AreTidy paths → (p q : ℕ) (own other r : Bool) → q < p → other ≡ false → TellsWhether paths q p IsAbove r → TellsWhether paths p q (FitAt own other) r
fits_over paths g p q own other r h e tell x y ex ey = (
  (λ t.
      (let a : IsAbove y x = (tell y x ey ex).0 t in (inr a, (λ o. a), (λ o. absurd (true≢false (sym o ∙ e)))))),
  (λ f. (tell y x ey ex).1 (elim f.0 [ inl a ↦ absurd (line_under paths g q p y x ey ex h a) | inr b ↦ b ])),
)

pub fits_other : (paths : List Path) → AreTidy paths → (p q : ℕ) (own other : Bool) → q < p → other ≡ true → TellsWhether paths p q (FitAt own other) false
fits_other paths g p q own other h e x y ex ey = ((λ t. absurd (true≢false (sym t))), (λ f. absurd (line_under paths g q p y x ey ex h (f.2 e))))

pub line_fits : (paths : List Path) (p q : ℕ) (r : Bool) → TellsWhether paths p q (FitAt false false) r → TellsWhether paths p q OnOneLine r
line_fits paths p q r tell x y ex ey = ((λ t. ((tell x y ex ey).0 t).0), (λ l. (tell x y ex ey).1 (l, (λ o. absurd (true≢false (sym o))), (λ o. absurd (true≢false (sym o))))))
