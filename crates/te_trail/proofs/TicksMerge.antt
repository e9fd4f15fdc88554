-- Joined clocks.
use Rattle.std.proofs.Common.{◌≡◌, ◌⊎◌, ◌≤◌, ◌<◌, ◌↔◌, inl, inr, ℕ, zero, suc, ◌+◌, ◌-◌, Bool, true, false, ◌&&◌, not}
use Rattle.std.proofs.Common.{MatchBool, List, [], ◌∷◌, ◌++◌, length, map, get_or, take, drop, slice_get, Option, Some}
use Rattle.std.proofs.Common.{None, cond, ltb, nat_eq, IsTrue, refl, ap, ap₂, sym, ◌∙◌, subst, arith, append_assoc}
use Rattle.std.proofs.Common.{append-nil, length-append, eqb-true, eq-eqb, true≢false, eq-or-lt_of_le}
use Rattle.std.proofs.Math.Seq.{drop-cons, drop-append_seam, take-append_seam}
use Rattle.std.proofs.lemmas.List.{drop-append-le, take-append-le, map-append, length-map, length-drop, length-take}
use Rattle.std.proofs.Math.ListN.{get_or-append}
use Rattle.std.proofs.lemmas.Bool.{lt-ltb, le-ltb}
use Rattle.te_path.specs.declared.spot.Spot.{Spot}
use Rattle.te_trail.specs.declared.ticks.Tick.{Tick}
use Rattle.te_trail.specs.declared.ticks.Stretch.{Stretch}
use Rattle.te_trail.specs.declared.store.PathRecord.{PathRecord}
use Rattle.te_trail.specs.declared.store.StoreMark.{StoreMark}
use Rattle.te_trail.specs.declared.store.Last.{Last}
use Rattle.te_trail.specs.declared.store.Last.TheVariants.{Root, Left, Right, Sender, Receiver}
use Rattle.te_trail.specs.Paths.{Path, planted, branched, sent, got, thread_of, depth_of, parent_of, IsAbove, OnOneLine}
use Rattle.te_trail.specs.Clocks.{deeper, clock_of, Agree, IsSound}
use Rattle.te_trail.specs.Ticks.{named, between, ticks_of, StretchIsWithin, AreBeyond, AreRising, later, beside, merged, marked, Joins, Raises}
use Rattle.te_trail.specs.Trails.{TellsWhether, IsPathThread, ClockAt, IsClock}
use Rattle.te_trail.specs.Walks.{TellsParent, FitAt, AllFit, FittingFor, Misfit, TicksAreLow, TellsFit}
use Rattle.te_trail.specs.Records.{path_at, last_of, other_end, path_by, mate_of, paths_from, paths_of, is_sender, EndsAfter, EndsWhole, parent_number, HasParent, Fits, FitsAll}
use Rattle.te_trail.proofs.Lines.{above_self, above_depth, above_thread, above_trans, above_same, above_both}
use Rattle.te_trail.proofs.Lines.{above_line, line_flip, line_depth, ancestor, rests_move, rests_trans, above_rests}
use Rattle.te_trail.proofs.Lines.{rests_made}
use Rattle.te_trail.proofs.ClockLaws.{eq_apart, differ, deeper_left, deeper_right, deeper_either, clock_thread}
use Rattle.te_trail.proofs.ClockLaws.{clock_in, clock_self, Agrees, agrees_by, agree_by, made_planted, made_branched}
use Rattle.te_trail.proofs.ClockLaws.{made_met, clock_top, past_line, agree_line}
use Rattle.te_terms.proofs.Lists.{eq_same}

pub between_step : (ts : List Tick) (i e : ℕ) (d : Tick) → i < e → e ≤ length ts → between ts i e ≡ get_or ts i d ∷ between ts (i + 1) e
between_step ts i e d h k =
    let low : i < length ts = omega (arith, h, k) in
    let more : e - i ≡ suc (e - (i + 1)) = omega (arith, h) in
    let next : suc i ≡ i + 1 = omega arith in
    ap₂ take more (drop-cons ts i d low) ∙ ap (λ n. get_or ts i d ∷ take (e - (i + 1)) (drop n ts)) next

pub between_done : (ts : List Tick) (i e : ℕ) → e ≤ i → between ts i e ≡ []
between_done ts i e h = let z : e - i ≡ 0 = omega (arith, h) in ap (λ n. take n (drop i ts)) z

pub between_more : (ts ms : List Tick) (i e : ℕ) → e ≤ length ts → i ≤ e → between (ts ++ ms) i e ≡ between ts i e
between_more ts ms i e h k =
    let low : i ≤ length ts = omega (arith, h, k) in
    let fits : e - i ≤ length (drop i ts) = omega (arith, length-drop i ts, h, k) in
    ap (take (e - i)) (drop-append-le i ts ms low) ∙ take-append-le (e - i) (drop i ts) ms fits

pub length_between : (ts : List Tick) (i e : ℕ) → e ≤ length ts → i ≤ e → length (between ts i e) ≡ e - i
length_between ts i e h k = omega (arith, length-take (e - i) (drop i ts), length-drop i ts, h, k)

pub merged_nil : (ks : List Tick) → merged ks [] ≡ ks
merged_nil [] = refl
merged_nil (x ∷ xs) = refl

abbrev NextIs : List Tick → ℕ → ℕ → ℕ → ℕ → Tick → ℕ → ℕ → Type 0
NextIs ts i e j f t i2 j2 = merged (between ts i e) (between ts j f) ≡ t ∷ merged (between ts i2 e) (between ts j2 f)

pub next_right : (ts : List Tick) (i e j f : ℕ) (d : Tick) → i ≡ e → j < f → f ≤ length ts → NextIs ts i e j f (get_or ts j d) i (j + 1)
next_right ts i e j f d h k m = let z : between ts i e ≡ [] = between_done ts i e (omega (arith, h)) in rw (z, between_step ts j f d k m) refl

pub next_left : (ts : List Tick) (i e j f : ℕ) (d : Tick) → j ≡ f → i < e → e ≤ length ts → NextIs ts i e j f (get_or ts i d) (i + 1) j
next_left ts i e j f d h k m = let z : between ts j f ≡ [] = between_done ts j f (omega (arith, h)) in
    ap (merged (between ts i e)) z ∙ merged_nil (between ts i e) ∙ between_step ts i e d k m
    ∙ ap (λ r. get_or ts i d ∷ r) (sym (merged_nil (between ts (i + 1) e)) ∙ ap (merged (between ts (i + 1) e)) (sym z))

pub next_lower : (ts : List Tick) (i e j f : ℕ) (d : Tick) → i < e → e ≤ length ts → j < f → f ≤ length ts
    → (get_or ts i d).thread < (get_or ts j d).thread → NextIs ts i e j f (get_or ts i d) (i + 1) j
next_lower ts i e j f d h hl k kl less =
    let a : between ts i e ≡ get_or ts i d ∷ between ts (i + 1) e = between_step ts i e d h hl in
    let b : between ts j f ≡ get_or ts j d ∷ between ts (j + 1) f = between_step ts j f d k kl in
    let t : ltb (get_or ts i d).thread (get_or ts j d).thread ≡ true = lt-ltb (get_or ts i d).thread (get_or ts j d).thread less in
    rw (a, b, t) refl

pub next_higher : (ts : List Tick) (i e j f : ℕ) (d : Tick) → i < e → e ≤ length ts → j < f → f ≤ length ts
    → (get_or ts j d).thread < (get_or ts i d).thread → NextIs ts i e j f (get_or ts j d) i (j + 1)
next_higher ts i e j f d h hl k kl less =
    let a : between ts i e ≡ get_or ts i d ∷ between ts (i + 1) e = between_step ts i e d h hl in
    let b : between ts j f ≡ get_or ts j d ∷ between ts (j + 1) f = between_step ts j f d k kl in
    let s : ltb (get_or ts i d).thread (get_or ts j d).thread ≡ false = le-ltb (get_or ts i d).thread (get_or ts j d).thread (omega (arith, less)) in
    let t : ltb (get_or ts j d).thread (get_or ts i d).thread ≡ true = lt-ltb (get_or ts j d).thread (get_or ts i d).thread less in
    rw (a, b, s, t) refl

pub next_both : (ts : List Tick) (i e j f : ℕ) (d : Tick) → i < e → e ≤ length ts → j < f → f ≤ length ts
    → (get_or ts i d).thread ≤ (get_or ts j d).thread → (get_or ts j d).thread ≤ (get_or ts i d).thread → (o : Bool)
    → ltb (get_or ts i d).path (get_or ts j d).path ≡ o → NextIs ts i e j f (cond o (get_or ts j d) (get_or ts i d))
    (i + 1) (j + 1)
next_both ts i e j f d h hl k kl le ge o p =
    let a : between ts i e ≡ get_or ts i d ∷ between ts (i + 1) e = between_step ts i e d h hl in
    let b : between ts j f ≡ get_or ts j d ∷ between ts (j + 1) f = between_step ts j f d k kl in
    let s : ltb (get_or ts i d).thread (get_or ts j d).thread ≡ false = le-ltb (get_or ts i d).thread (get_or ts j d).thread ge in
    let t : ltb (get_or ts j d).thread (get_or ts i d).thread ≡ false = le-ltb (get_or ts j d).thread (get_or ts i d).thread le in
    rw (a, b, s, t, p) refl

-- ---- the loop of join
pub record IsJoining (old now : List Tick) (a b : Stretch) (one two : Tick) (i j room : ℕ) : Type 0 where
  pub built : List Tick
  pub is : now ≡ old ++ built
  pub all : map (marked one two) (merged (ticks_of old a) (ticks_of old b)) ≡ built ++ map (marked one two) (merged (between old i (a.at + a.len)) (between old j (b.at + b.len)))
  pub i_low : i ≤ a.at + a.len
  pub j_low : j ≤ b.at + b.len
  pub fits : length built + ((a.at + a.len) - i + ((b.at + b.len) - j)) ≤ a.len + b.len
  pub room_fits : length old + a.len + b.len ≤ room

pub joining_start : (old now : List Tick) (a b : Stretch) (one two : Tick) (room : ℕ) → now ≡ old → length old + a.len + b.len ≤ room → IsJoining old now a b one two a.at b.at room
joining_start old now a b one two room e h = record { built = []; is = e ∙ sym (append-nil old); all = refl; i_low = omega arith; j_low = omega arith; fits = omega arith; room_fits = h }

pub joining_step : (old now : List Tick) (a b : Stretch) (one two : Tick) (i j room : ℕ) (t : Tick) (i2 j2 : ℕ)
    (new : List Tick) (room2 : ℕ) → StretchIsWithin old a → StretchIsWithin old b
    → IsJoining old now a b one two i j room
    → NextIs now i (a.at + a.len) j (b.at + b.len) t i2 j2 → i2 ≤ a.at + a.len → j2 ≤ b.at + b.len → i + j < i2 + j2
    → i ≤ i2 → j ≤ j2 → new ≡ now ++ (marked one two t ∷ []) → room2 ≡ room
    → IsJoining old new a b one two i2 j2 room2
joining_step old now a b one two i j room t i2 j2 new room2 wa wb g n h2 k2 on hi hj e er =
    let at : merged (between old i (a.at + a.len)) (between old j (b.at + b.len)) ≡ t ∷ merged (between old i2 (a.at + a.len)) (between old j2 (b.at + b.len)) =
    ap₂ merged (sym (same i g.i_low)) (sym (other j g.j_low)) ∙ n ∙ ap (λ r. t ∷ r) (ap₂ merged (same i2 h2) (other j2 k2)) in
    record {
      built = g.built ++ (marked one two t ∷ []);
      is = e ∙ ap (λ x. x ++ (marked one two t ∷ [])) g.is ∙ append_assoc old g.built (marked one two t ∷ []);
      all = g.all ∙ ap (λ r. g.built ++ map (marked one two) r) at ∙ sym
          (append_assoc g.built (marked one two t ∷ []) (map (marked one two)
          (merged (between old i2 (a.at + a.len)) (between old j2 (b.at + b.len)))));
      i_low = h2;
      j_low = k2;
      fits = omega (arith, length-append g.built (marked one two t ∷ []), g.fits, on, hi, hj, h2, k2);
      room_fits = subst (λ r. length old + a.len + b.len ≤ r) (sym er) g.room_fits;
    }
  where
    same : (n : ℕ) → n ≤ a.at + a.len → between now n (a.at + a.len) ≡ between old n (a.at + a.len)
    same n h = ap (λ x. between x n (a.at + a.len)) g.is ∙ between_more old g.built n (a.at + a.len) wa h

    other : (n : ℕ) → n ≤ b.at + b.len → between now n (b.at + b.len) ≡ between old n (b.at + b.len)
    other n h = ap (λ x. between x n (b.at + b.len)) g.is ∙ between_more old g.built n (b.at + b.len) wb h

pub joining_end : (old now : List Tick) (a b : Stretch) (one two : Tick) (i j room : ℕ)
    → IsJoining old now a b one two i j room → (a.at + a.len) + (b.at + b.len) ≤ i + j → (n m : ℕ) → n ≡ length old
    → m ≡ length now - n → Joins old now a b one two (record { at = n; len = m })
joining_end old now a b one two i j room g h n m en em =
    let za : between old i (a.at + a.len) ≡ [] = between_done old i (a.at + a.len) (omega (arith, g.i_low, g.j_low, h)) in
    let zb : between old j (b.at + b.len) ≡ [] = between_done old j (b.at + b.len) (omega (arith, g.i_low, g.j_low, h)) in
    let whole : map (marked one two) (merged (ticks_of old a) (ticks_of old b)) ≡ g.built = g.all ∙ ap₂ (λ x y. g.built ++ map (marked one two) (merged x y)) za zb ∙ append-nil g.built in
    record {
      appended = g.is ∙ ap (λ x. old ++ x) (sym whole);
      at = en;
      len = (let l : length now ≡ length old + length g.built = ap length g.is ∙ length-append old g.built in omega (arith, em, en, l)) ∙ ap length (sym whole);
    }

-- ---- the loop of raise
pub record IsRaising (old now : List Tick) (a : Stretch) (own : Tick) (i room : ℕ) : Type 0 where
  pub is : now ≡ old ++ map (marked own own) (between old a.at i)
  pub low : a.at ≤ i
  pub room_fits : length old + a.len ≤ room

between_snoc : (ts : List Tick) (s i : ℕ) (d : Tick) → s ≤ i → i < length ts → between ts s (i + 1) ≡ between ts s i ++ (get_or ts i d ∷ [])
between_snoc ts zero i d h k = go ts i k
  where
    go : (ts : List Tick) (i : ℕ) → i < length ts → between ts 0 (i + 1) ≡ between ts 0 i ++ (get_or ts i d ∷ [])
    go [] i k = absurd (omega (arith, k))
    go (x ∷ ts) zero k = refl
    go (x ∷ ts) (suc i) k =
        let e : suc i + 1 ≡ suc (i + 1) = omega arith in
        let z : (n : ℕ) → n - 0 ≡ n = λ n. omega arith in
        ap (λ n. take n (x ∷ ts)) (z (suc i + 1) ∙ e) ∙ ap (λ r. x ∷ r)
        (ap (λ n. take n ts) (sym (z (i + 1))) ∙ go ts i (omega (arith, k))
        ∙ ap (λ n. take n ts ++ (get_or ts i d ∷ [])) (z i)) ∙ ap (λ n. take n (x ∷ ts) ++ (get_or ts i d ∷ []))
        (sym (z (suc i)))
between_snoc [] (suc s) i d h k = absurd (omega (arith, k))
between_snoc (x ∷ ts) (suc s) zero d h k = absurd (omega (arith, h))
between_snoc (x ∷ ts) (suc s) (suc i) d h k =
    let a : suc i + 1 - suc s ≡ (i + 1) - s = omega arith in
    let b : suc i - suc s ≡ i - s = omega arith in
    ap (λ n. take n (drop s ts)) a ∙ between_snoc ts s i d (omega (arith, h)) (omega (arith, k)) ∙ ap (λ n. take n (drop s ts) ++ (get_or ts i d ∷ [])) (sym b)

pub raising_start : (old now : List Tick) (a : Stretch) (own : Tick) (room : ℕ) → now ≡ old → length old + a.len ≤ room → IsRaising old now a own a.at room
raising_start old now a own room e h = record {
  is = e ∙ sym (append-nil old) ∙ ap (λ r. old ++ map (marked own own) r)
      (sym (between_done old a.at a.at (omega arith)));
  low = omega arith;
  room_fits = h;
}

pub raising_step : (old now : List Tick) (a : Stretch) (own : Tick) (i room : ℕ) (d : Tick) (new : List Tick)
    (room2 : ℕ) → StretchIsWithin old a → i < a.at + a.len → IsRaising old now a own i room
    → new ≡ now ++ (marked own own (get_or now i d) ∷ []) → room2 ≡ room → IsRaising old new a own (i + 1) room2
raising_step old now a own i room d new room2 w h g e er =
    let low : i < length old = omega (arith, w, h) in
    let at : get_or now i d ≡ get_or old i d = ap (λ x. get_or x i d) g.is ∙ get_or-append old (map (marked own own) (between old a.at i)) d i low in
    record {
      is = e ∙ ap₂ (λ x y. x ++ (marked own own y ∷ [])) g.is at ∙ append_assoc old
          (map (marked own own) (between old a.at i)) (marked own own (get_or old i d) ∷ []) ∙ ap (λ r. old ++ r)
          (sym (map-append (marked own own) (between old a.at i) (get_or old i d ∷ [])) ∙ ap (map (marked own own))
          (sym (between_snoc old a.at i d g.low low)));
      low = omega (arith, g.low);
      room_fits = subst (λ r. length old + a.len ≤ r) (sym er) g.room_fits;
    }

pub raising_room : (old now : List Tick) (a : Stretch) (own : Tick) (i room : ℕ) → StretchIsWithin old a → i < a.at + a.len → IsRaising old now a own i room → (i < length now) × (length now < room)
raising_room old now a own i room w h g =
    let l : length now ≡ length old + length (map (marked own own) (between old a.at i)) = ap length g.is ∙ length-append old (map (marked own own) (between old a.at i)) in
    let m : length (map (marked own own) (between old a.at i)) ≡ i - a.at = length-map (between old a.at i) (marked own own) ∙ length_between old a.at i (omega (arith, w, h)) g.low in
    (omega (arith, l, w, h), omega (arith, l, m, h, g.low, g.room_fits))

pub raising_end : (old now : List Tick) (a : Stretch) (own : Tick) (i room : ℕ) → StretchIsWithin old a
    → IsRaising old now a own i room → i ≡ a.at + a.len → (n : ℕ) → n ≡ length old
    → Raises old now a own (record { at = n; len = a.len })
raising_end old now a own i room w g e n en = record {
  appended = g.is ∙ ap (λ k. old ++ map (marked own own) (between old a.at k)) e;
  at = en;
  len = sym (length-map (ticks_of old a) (marked own own) ∙ length_between old a.at (a.at + a.len) w (omega arith) ∙ omega arith);
}

pub named_skip : (t : ℕ) (ts : List Tick) (i : ℕ) (d : Tick) → i < length ts → ((get_or ts i d).thread ≡ t → ⊥) → named t (drop i ts) ≡ named t (drop (i + 1) ts)
named_skip t ts i d h ne = ap (named t) (drop-cons ts i d h)
    ∙ ap (λ o. cond o (Some (get_or ts i d).path) (named t (drop (suc i) ts)))
    (off (nat_eq t (get_or ts i d).thread) refl) ∙ ap (λ n. named t (drop n ts))
    (let e : suc i ≡ i + 1 = omega arith in e)
  where
    off : (o : Bool) → nat_eq t (get_or ts i d).thread ≡ o → nat_eq t (get_or ts i d).thread ≡ false
    off true e = absurd (ne (sym (eqb-true t (get_or ts i d).thread e)))
    off false e = e

pub named_here : (t : ℕ) (ts : List Tick) (i : ℕ) (d : Tick) → i < length ts → (get_or ts i d).thread ≡ t → named t (drop i ts) ≡ Some (get_or ts i d).path
named_here t ts i d h e = ap (named t) (drop-cons ts i d h) ∙ ap (λ o. cond o (Some (get_or ts i d).path) (named t (drop (suc i) ts))) (eq-eqb t (get_or ts i d).thread (sym e))
