-- What assembly comes to commits, and is tight.
use Rattle.std.proofs.Common.{◌≡◌, ◌⊎◌, inl, inr, ℕ, List, [], ◌∷◌, ◌++◌, Bool, true, false, cond, ◌||◌, Some, refl, ap, sym, ◌∙◌, subst, nat_eq, eqb-true, eq-eqb}
use Rattle.te_terms.specs.Steps.{Member}
use Rattle.te_terms.specs.Joint.{choice, meeting, Action, member_of, after, labels, part}
use Rattle.te_trail.specs.Paths.{Path, planted, branched, sent, got, thread_of, move_of, RestsOn}
use Rattle.te_trail.specs.States.{path_state}
use Rattle.te_trail.specs.Stores.{Holds, with_moves, IsStore, labels_of_move, labels_of, any_rests_on}
use Rattle.te_trail.proofs.Lines.{rests_move, rests_made}
use Rattle.te_trail.proofs.MovesChain.{store_shut}
use Rattle.te_trail.proofs.PastsChain.{pasts_true, true_pasts, Agreeing, grown_has, PastsAre, one_chain, team_low}
use Rattle.te_search.specs.Assemblies.{Reaches, starts, takes}
use Rattle.te_search.proofs.ChainsSplit.{kept_to, Uncrossed, part_at, split_chain, side_labels, labels_kept}
use Rattle.te_search.proofs.AssemblyFinds.{past_side}
use Rattle.te_trail.proofs.CallsLeave.{moves_held}

-- the meetings below are on one side
abbrev Calm : (ℕ → Bool) → List Path → Type 0
Calm side ps = (s r : Path) → any_rests_on ps (sent s r) ≡ true → side (thread_of s) ≡ side (thread_of r)

pub connected : (start : Path) (ps : List Path) → Reaches start ps → (side : ℕ → Bool) → Calm side ps → (y : Path) → Holds ps y → side (thread_of y) ≡ side (thread_of start)
connected start ps (starts f) side calm y (inl e) = ap (λ q. side (thread_of q)) e
connected start ps (starts f) side calm y (inr n) = absurd n
connected start ps (takes start2 ps2 f x reach e hx) side calm y (inr h) = connected start ps2 reach side (λ s r k. calm s r (wide s r k)) y h
  where
    wide : (s r : Path) → any_rests_on ps2 (sent s r) ≡ true → any_rests_on (f ∷ ps2) (sent s r) ≡ true
    wide s r k = let a : (p : Path) × Holds ps2 p × RestsOn (sent s r) p = pasts_true ps2 (sent s r) k in true_pasts (f ∷ ps2) a.0 (sent s r) (inr a.1) a.2
connected start ps (takes start2 ps2 f x reach e hx) side calm y (inl same) = go (pasts_true ps2 (move_of x) hx) (λ p h. connected start ps2 reach side (λ s r k. calm s r (wide s r k)) p h)
  where
    wide : (s r : Path) → any_rests_on ps2 (sent s r) ≡ true → any_rests_on (f ∷ ps2) (sent s r) ≡ true
    wide s r k = let a : (p : Path) × Holds ps2 p × RestsOn (sent s r) p = pasts_true ps2 (sent s r) k in true_pasts (f ∷ ps2) a.0 (sent s r) (inr a.1) a.2

    go : (p : Path) × Holds ps2 p × RestsOn (move_of x) p → ((p : Path) → Holds ps2 p → side (thread_of p) ≡ side (thread_of start)) → side (thread_of y) ≡ side (thread_of start)
    go (p, hp, rp) ih = ap (λ q. side (thread_of q)) same ∙ ap side (sym e) ∙ past_side side p (λ s r k. calm s r (true_pasts (f ∷ ps2) p (sent s r) (inr hp) k)) x rp ∙ ih p hp

-- ---- the labels are of the threads of the any_rests_on
trail_sides : (ps : List Path) (side : ℕ → Bool) → ((x : Path) → any_rests_on ps (move_of x) ≡ true → side (thread_of x) ≡ true) → (store : List Path)
    → Uncrossed side (labels_of (any_rests_on ps) store) × (side_labels side (labels_of (any_rests_on ps) store) ≡ labels_of (any_rests_on ps) store)
trail_sides ps side all [] = (tt, refl)
trail_sides ps side all (m ∷ store) = go (trail_sides ps side all store) m (any_rests_on ps m) refl
  where
    go : Uncrossed side (labels_of (any_rests_on ps) store) × (side_labels side (labels_of (any_rests_on ps) store) ≡ labels_of (any_rests_on ps) store) → (m : Path) (o : Bool) → any_rests_on ps m ≡ o
        → Uncrossed side (cond o (labels_of_move m) [] ++ labels_of (any_rests_on ps) store) ×
        (side_labels side (cond o (labels_of_move m) [] ++ labels_of (any_rests_on ps) store) ≡ cond o (labels_of_move m) [] ++ labels_of (any_rests_on ps) store)
    go ih m false e = ih
    go ih (planted t) true e = ih
    go ih (branched p l) true e = (ih.0, rw (all (branched p l) e) (ap (λ r. choice (thread_of p) l ∷ r) ih.1))
    go ih (sent s r) true e = ((all (sent s r) e ∙ sym (all (got s r) e), ih.0), rw (all (sent s r) e) (ap (λ q. meeting (thread_of s) (thread_of r) ∷ q) ih.1))
    go ih (got s r) true e = ih

trail_calm : (ps : List Path) (side : ℕ → Bool) (store : List Path) → Uncrossed side (labels_of (any_rests_on ps) store) → (s r : Path) → Holds store (sent s r)
    → any_rests_on ps (sent s r) ≡ true → side (thread_of s) ≡ side (thread_of r)
trail_calm ps side [] u s r h k = absurd h
trail_calm ps side (m ∷ store) u s r (inl e) k = let u2 : Uncrossed side
    (cond (any_rests_on ps (sent s r)) (labels_of_move (sent s r)) [] ++ labels_of (any_rests_on ps) store) = subst
    (λ q. Uncrossed side (cond (any_rests_on ps q) (labels_of_move q) [] ++ labels_of (any_rests_on ps) store)) (sym e) u in
    (subst (λ o. Uncrossed side (cond o (labels_of_move (sent s r)) [] ++ labels_of (any_rests_on ps) store)) k u2).0
trail_calm ps side (m ∷ store) u s r (inr h) k = trail_calm ps side store (go m (any_rests_on ps m) u) s r h k
  where
    go : (m : Path) (o : Bool) → Uncrossed side (cond o (labels_of_move m) [] ++ labels_of (any_rests_on ps) store) → Uncrossed side (labels_of (any_rests_on ps) store)
    go m false u = u
    go (planted t) true u = u
    go (branched p l) true u = u
    go (sent a b) true u = u.1
    go (got a b) true u = u

-- ---- sound
-- whether a path of the list is of this thread
abbrev pub taken : List Path → ℕ → Bool
taken [] t = false
taken (p ∷ ps) t = nat_eq (thread_of p) t || taken ps t

pub taken_true : (ps : List Path) (t : ℕ) → taken ps t ≡ true → (y : Path) × Holds ps y × (thread_of y ≡ t)
taken_true [] t e = cc
taken_true (p ∷ ps) t e = go (taken_true ps t) (nat_eq (thread_of p) t) refl e
  where
    go : (taken ps t ≡ true → (y : Path) × Holds ps y × (thread_of y ≡ t)) → (o : Bool) → nat_eq (thread_of p) t ≡ o → o || taken ps t ≡ true → (y : Path) × Holds (p ∷ ps) y × (thread_of y ≡ t)
    go ih true w e = (p, inl refl, eqb-true (thread_of p) t w)
    go ih false w e = let r : (y : Path) × Holds ps y × (thread_of y ≡ t) = ih e in (r.0, inr r.1, r.2)

pub true_taken : (ps : List Path) (y : Path) → Holds ps y → taken ps (thread_of y) ≡ true
true_taken [] y h = absurd h
true_taken (p ∷ ps) y (inl e) = let z : nat_eq (thread_of p) (thread_of y) ≡ true = eq-eqb (thread_of p) (thread_of y) (ap thread_of (sym e)) in rw z refl
true_taken (p ∷ ps) y (inr h) = go (nat_eq (thread_of p) (thread_of y)) (true_taken ps y h)
  where
    go : (o : Bool) → taken ps (thread_of y) ≡ true → o || taken ps (thread_of y) ≡ true
    go true e = refl
    go false e = e

-- the part of the taken threads reduces, by the joined past, and can't be split
pub record GroupOf (g : List Member) (store ps : List Path) (start : Path) : Type 0 where
  pub actions : List Action
  pub end : List Member
  pub reached : after actions (part (taken ps) g) ≡ Some end
  pub labelled : labels actions ≡ labels_of (any_rests_on ps) store
  pub stands : (y : Path) → Holds ps y → member_of (thread_of y) end ≡ path_state g y
  pub tight : (side : ℕ → Bool) → Uncrossed side (labels_of (any_rests_on ps) store) → (t : ℕ) → taken ps t ≡ true → side t ≡ side (thread_of start)

pub sound : (g : List Member) (store : List Path) → IsStore g store → (start : Path) (ps : List Path) → Agreeing g ps → ((y : Path) → Holds ps y → Holds store y) → Reaches start ps
    → ((x : Path) → any_rests_on ps (move_of x) ≡ true → taken ps (thread_of x) ≡ true) → GroupOf g store ps start
sound g store good start ps team made reach all =
    let c : PastsAre g store ps = one_chain g store ps good.made team (λ p h. grown_has store [] p good.made (made p h)) in
    let t : Uncrossed (taken ps) (labels_of (any_rests_on ps) store) ×
    (side_labels (taken ps) (labels_of (any_rests_on ps) store) ≡ labels_of (any_rests_on ps) store) = trail_sides ps (taken ps) all store in
    record {
      actions = kept_to (taken ps) c.chain.actions;
      end = part (taken ps) c.chain.end;
      reached = split_chain (taken ps) c.chain.actions g c.chain.end (subst (Uncrossed (taken ps)) (sym c.chain.labels_are) t.0) c.chain.reaches;
      labelled = labels_kept (taken ps) c.chain.actions ∙ ap (side_labels (taken ps)) c.chain.labels_are ∙ t.1;
      stands = λ y h. part_at (taken ps) (thread_of y) c.chain.end (true_taken ps y h) ∙ (c.leaves y (true_pasts ps y (move_of y) h (rests_move y)) (λ z hz tz. team_low g ps team y h z hz tz)).0;
      tight = λ side u k hk. tighten side u k (taken_true ps k hk);
    }
  where
    calm : (side : ℕ → Bool) → Uncrossed side (labels_of (any_rests_on ps) store) → Calm side ps
    calm side u s r k = trail_calm ps side store u s r (there (pasts_true ps (sent s r) k)) k
      where
        there : (p : Path) × Holds ps p × RestsOn (sent s r) p → Holds store (sent s r)
        there (p, hp, rp) = elim (moves_held store [] (sent s r)
            (store_shut store good.made (move_of p) (sent s r) (grown_has store [] p good.made (made p hp)) (rests_made (sent s r) p rp))) [ inl n ↦ absurd n | inr h ↦ h ]

    tighten : (side : ℕ → Bool) → Uncrossed side (labels_of (any_rests_on ps) store) → (k : ℕ) → (y : Path) × Holds ps y × (thread_of y ≡ k) → side k ≡ side (thread_of start)
    tighten side u k (y, hy, ty) = ap side (sym ty) ∙ connected start ps reach side (calm side u) y hy
