-- Agreeing paths have one chain.
use Rattle.std.proofs.Common.{◌≡◌, ◌⊎◌, ◌≤◌, ◌<◌, inl, inr, ℕ, zero, suc, ◌+◌, List, [], ◌∷◌, ◌++◌, length, Bool, true}
use Rattle.std.proofs.Common.{false, cond, ltb, ◌||◌, ◌&&◌, Option, Some, None, option_map, IsTrue, refl, ap, ap₂, sym}
use Rattle.std.proofs.Common.{◌∙◌, subst, arith, rules, nat_eq, le_refl, le_of_lt, eq-or-lt_of_le, eqb-true, eq-eqb}
use Rattle.std.proofs.Common.{ltb-true, ltb-false, append_assoc, append-nil, length-append, true≢false}
use Rattle.std.specs.Option.{option_and_then}
use Rattle.te_terms.specs.Steps.{Member}
use Rattle.te_terms.specs.Settling.{settled}
use Rattle.te_terms.specs.Joint.{Label, choice, meeting, labels, member_of}
use Rattle.te_trail.specs.Paths.{Path, planted, branched, sent, got, thread_of, depth_of, own_labels, IsAbove, OnOneLine, move_of, RestsOn}
use Rattle.te_trail.specs.Clocks.{deeper, clock_of, Passes, Agree, IsSound}
use Rattle.te_trail.specs.States.{chosen, members_met, MovedEnds, path_state, HasState}
use Rattle.te_trail.specs.Stores.{Holds, IsNext, with_move, with_moves, AreMade, IsStore, labels_of_move, labels_of, same_side, same_path, rests_on, any_rests_on, trail_of, joint_trail}
use Rattle.te_trail.specs.Views.{Chain, touches, view_of, Begins, HasPast, LeavesAt, ChainOfBoth}
use Rattle.te_trail.proofs.Lines.{above_self, above_depth, above_thread, above_trans, above_same, above_both}
use Rattle.te_trail.proofs.Lines.{above_line, line_flip, line_depth, ancestor, rests_move, rests_trans, above_rests}
use Rattle.te_trail.proofs.Lines.{rests_made}
use Rattle.te_trail.proofs.ClockLaws.{eq_apart, differ, deeper_left, deeper_right, deeper_either, clock_thread}
use Rattle.te_trail.proofs.ClockLaws.{clock_in, clock_self, Agrees, agrees_by, agree_by, made_planted, made_branched}
use Rattle.te_trail.proofs.ClockLaws.{made_met, clock_top, past_line, agree_line}
use Rattle.te_terms.proofs.Lists.{eq_same, some_map, both}
use Rattle.te_trail.proofs.MembersMove.{found_thread, found_new, found_other, chain_append, labels_append, view_append}
use Rattle.te_trail.proofs.MembersMove.{no_chain, chain_on, Moves, quiets, settles_there, chooses, Meets, Handing}
use Rattle.te_trail.proofs.MembersMove.{handing, meets}
use Rattle.te_trail.proofs.MovesChain.{Together, stands_at, owned_by, PlaceAt, AreClosed, AllPlaced, state_branched}
use Rattle.te_trail.proofs.MovesChain.{state_after, state_met, view_choice, view_choice_other, view_sender}
use Rattle.te_trail.proofs.MovesChain.{view_receiver, view_other, Goes_on, shut_grow, runs, shut_grown, store_shut}
use Rattle.te_trail.proofs.MovesChain.{runs_all}

either : (a b : Bool) → a || b ≡ true → (a ≡ true) ⊎ (b ≡ true)
either true b e = inl refl
either false b e = inr e

in_left : (a b : Bool) → a ≡ true → a || b ≡ true
in_left true b e = refl
in_left false b e = cc

in_right : (a b : Bool) → b ≡ true → a || b ≡ true
in_right true b e = refl
in_right false b e = e

side_true : (a b : Bool) → same_side a b ≡ true → a ≡ b
side_true true b e = sym e
side_true false true e = cc
side_true false false e = refl

side_self : (a : Bool) → same_side a a ≡ true
side_self true = refl
side_self false = refl

pub same_true : (x y : Path) → same_path x y ≡ true → x ≡ y
same_true (planted t) (planted u) e = ap planted (eqb-true t u e)
same_true (branched p l) (branched q k) e = let b : (same_path p q ≡ true) × (same_side l k ≡ true) = both (same_path p q) (same_side l k) e in ap₂ branched (same_true p q b.0) (side_true l k b.1)
same_true (sent s r) (sent a c) e = let b : (same_path s a ≡ true) × (same_path r c ≡ true) = both (same_path s a) (same_path r c) e in ap₂ sent (same_true s a b.0) (same_true r c b.1)
same_true (got s r) (got a c) e = let b : (same_path s a ≡ true) × (same_path r c ≡ true) = both (same_path s a) (same_path r c) e in ap₂ got (same_true s a b.0) (same_true r c b.1)
same_true (planted t) (branched q k) e = cc
same_true (planted t) (sent a c) e = cc
same_true (planted t) (got a c) e = cc
same_true (branched p l) (planted u) e = cc
same_true (branched p l) (sent a c) e = cc
same_true (branched p l) (got a c) e = cc
same_true (sent s r) (planted u) e = cc
same_true (sent s r) (branched q k) e = cc
same_true (sent s r) (got a c) e = cc
same_true (got s r) (planted u) e = cc
same_true (got s r) (branched q k) e = cc
same_true (got s r) (sent a c) e = cc

pub same_self : (x : Path) → same_path x x ≡ true
same_self (planted t) = eq_same t
same_self (branched p l) = rw (same_self p, side_self l) refl
same_self (sent s r) = rw (same_self s, same_self r) refl
same_self (got s r) = rw (same_self s, same_self r) refl

same_is : (x y : Path) → x ≡ y → same_path x y ≡ true
same_is x y e = subst (λ q. same_path x q ≡ true) e (same_self x)

pub rests_true : (p m : Path) → rests_on p m ≡ true → RestsOn m p
rests_true (planted t) m e = same_true m (planted t) e
rests_true (branched p l) m e = elim (either (same_path m (branched p l)) (rests_on p m) e) [ inl h ↦ inl (same_true m (branched p l) h) | inr h ↦ inr (rests_true p m h) ]
rests_true (sent s r) m e = elim (either (same_path m (sent s r)) (rests_on s m || rests_on r m) e) [
  | inl h ↦ inl (same_true m (sent s r) h)
  | inr h ↦ inr (elim
      (either (rests_on s m) (rests_on r m) h) [ inl a ↦ inl (rests_true s m a) | inr b ↦ inr (rests_true r m b) ])
]
rests_true (got s r) m e = elim (either (same_path m (sent s r)) (rests_on s m || rests_on r m) e) [
  | inl h ↦ inl (same_true m (sent s r) h)
  | inr h ↦ inr (elim
      (either (rests_on s m) (rests_on r m) h) [ inl a ↦ inl (rests_true s m a) | inr b ↦ inr (rests_true r m b) ])
]

pub true_rests : (p m : Path) → RestsOn m p → rests_on p m ≡ true
true_rests (planted t) m e = same_is m (planted t) e
true_rests (branched p l) m (inl e) = in_left _ _ (same_is m (branched p l) e)
true_rests (branched p l) m (inr a) = in_right (same_path m (branched p l)) _ (true_rests p m a)
true_rests (sent s r) m (inl e) = in_left _ _ (same_is m (sent s r) e)
true_rests (sent s r) m (inr (inl a)) = in_right (same_path m (sent s r)) _ (in_left _ _ (true_rests s m a))
true_rests (sent s r) m (inr (inr b)) = in_right (same_path m (sent s r)) _ (in_right (rests_on s m) _ (true_rests r m b))
true_rests (got s r) m (inl e) = in_left _ _ (same_is m (sent s r) e)
true_rests (got s r) m (inr (inl a)) = in_right (same_path m (sent s r)) _ (in_left _ _ (true_rests s m a))
true_rests (got s r) m (inr (inr b)) = in_right (same_path m (sent s r)) _ (in_right (rests_on s m) _ (true_rests r m b))

pub pasts_true : (ps : List Path) (m : Path) → any_rests_on ps m ≡ true → (p : Path) × Holds ps p × RestsOn m p
pasts_true [] m e = cc
pasts_true (p ∷ ps) m e = elim (either (rests_on p m) (any_rests_on ps m) e) [
  | inl h ↦ (p, inl refl, rests_true p m h)
  | inr h ↦ (let a : (q : Path) × Holds ps q × RestsOn m q =
      pasts_true ps m h in (a.0, inr a.1, a.2))
]

pub true_pasts : (ps : List Path) (p m : Path) → Holds ps p → RestsOn m p → any_rests_on ps m ≡ true
true_pasts [] p m h r = absurd (h)
true_pasts (q ∷ ps) p m (inl e) r = in_left _ _ (true_rests q m (subst (λ x. RestsOn m x) e r))
true_pasts (q ∷ ps) p m (inr h) r = in_right (rests_on q m) _ (true_pasts ps p m h r)

pub then_some : {A B : Type 0} (f : A → Option B) (o : Option A) (y : B) → option_and_then f o ≡ Some y → (x : A) × (o ≡ Some x) × (f x ≡ Some y)
then_some f None y e = cc
then_some f (Some x) y e = (x, refl, e)

pub parts_of : (g : List Member) (s r : Path) (f : MovedEnds → Member) (v : Member)
    → option_and_then (λ a. option_and_then (λ b. option_map f (members_met a b)) (path_state g r))
    (path_state g s) ≡ Some v → (a : Member) × (b : Member) × (p : MovedEnds) × (path_state g s ≡ Some a)
    × (path_state g r ≡ Some b) × (members_met a b ≡ Some p)
parts_of g s r f v e =
    let a : (x : Member) × (path_state g s ≡ Some x) × (option_and_then (λ b. option_map f (members_met x b))
    (path_state g r) ≡ Some v) = then_some (λ a. option_and_then (λ b. option_map f (members_met a b))
    (path_state g r)) (path_state g s) v e in
    let b : (x : Member) × (path_state g r ≡ Some x) × (option_map f (members_met a.0 x) ≡ Some v) = then_some (λ b. option_map f (members_met a.0 b)) (path_state g r) v a.2 in
    let m : (x : MovedEnds) × (members_met a.0 b.0 ≡ Some x) × (f x ≡ v) = some_map f (members_met a.0 b.0) v b.2 in
    (a.0, b.0, m.0, a.1, b.1, m.1)

pub fits_past : (g : List Member) (p x : Path) → HasState g p → RestsOn (move_of x) p → HasState g x
fits_past g (planted t) x f r = subst (λ q. HasState g q) (sym (made_planted x t r)) f
fits_past g (branched p l) x f (inl e) = subst (λ q. HasState g q) (sym (made_branched x p l e)) f
fits_past g (branched p l) x f (inr a) = let b : (e : Member) × (path_state g p ≡ Some e)
    × (option_map settled (chosen l e) ≡ Some f.0) = then_some (λ m. option_map settled (chosen l m))
    (path_state g p) f.0 f.1 in fits_past g p x (b.0, b.1) a
fits_past g (sent s r) x f h = meet_fits (parts_of g s r (λ p. settled p.sender) f.0 f.1) (fits_past g s x) (fits_past g r x) h
  where
    meet_fits : (a : Member) × (b : Member) × (p : MovedEnds) × (path_state g s ≡ Some a) × (path_state g r ≡ Some b)
        × (members_met a b ≡ Some p) → (HasState g s → RestsOn (move_of x) s → HasState g x)
        → (HasState g r → RestsOn (move_of x) r → HasState g x) → RestsOn (move_of x) (sent s r) → HasState g x
    meet_fits (a, b, p, sa, sb, m) ihs ihr (inl e) = elim (made_met x s r e) [
      | inl one ↦ subst (λ q. HasState g q) (sym one) (settled p.sender, (state_after g s r a b p sa sb m).0)
      | inr one ↦ subst (λ q. HasState g q) (sym one) (settled p.receiver, (state_after g s r a b p sa sb m).1)
    ]
    meet_fits (a, b, p, sa, sb, m) ihs ihr (inr (inl k)) = ihs (a, sa) k
    meet_fits (a, b, p, sa, sb, m) ihs ihr (inr (inr k)) = ihr (b, sb) k
fits_past g (got s r) x f h = meet_fits (parts_of g s r (λ p. settled p.receiver) f.0 f.1) (fits_past g s x) (fits_past g r x) h
  where
    meet_fits : (a : Member) × (b : Member) × (p : MovedEnds) × (path_state g s ≡ Some a) × (path_state g r ≡ Some b)
        × (members_met a b ≡ Some p) → (HasState g s → RestsOn (move_of x) s → HasState g x)
        → (HasState g r → RestsOn (move_of x) r → HasState g x) → RestsOn (move_of x) (sent s r) → HasState g x
    meet_fits (a, b, p, sa, sb, m) ihs ihr (inl e) = elim (made_met x s r e) [
      | inl one ↦ subst (λ q. HasState g q) (sym one) (settled p.sender, (state_after g s r a b p sa sb m).0)
      | inr one ↦ subst (λ q. HasState g q) (sym one) (settled p.receiver, (state_after g s r a b p sa sb m).1)
    ]
    meet_fits (a, b, p, sa, sb, m) ihs ihr (inr (inl k)) = ihs (a, sa) k
    meet_fits (a, b, p, sa, sb, m) ihs ihr (inr (inr k)) = ihr (b, sb) k

pub sound_past : (p m : Path) → IsSound p → RestsOn m p → IsSound m
sound_past (planted t) m h e = subst IsSound (sym e) h
sound_past (branched p l) m h (inl e) = subst IsSound (sym e) h
sound_past (branched p l) m h (inr a) = sound_past p m h a
sound_past (sent s r) m h (inl e) = subst IsSound (sym e) h
sound_past (sent s r) m h (inr (inl a)) = sound_past s m h.0 a
sound_past (sent s r) m h (inr (inr b)) = sound_past r m h.1 b
sound_past (got s r) m h (inl e) = subst IsSound (sym e) h
sound_past (got s r) m h (inr (inl a)) = sound_past s m h.0 a
sound_past (got s r) m h (inr (inr b)) = sound_past r m h.1 b

-- a list of sound paths that fit and agree, each pair that differs
pub record Agreeing (g : List Member) (ps : List Path) : Type 0 where
  pub sounds : (x : Path) → Holds ps x → IsSound x
  pub states : (x : Path) → Holds ps x → HasState g x
  pub agrees : (x y : Path) → Holds ps x → Holds ps y → (x ≡ y) ⊎ Agrees x y

pub team_line : (g : List Member) (ps : List Path) → Agreeing g ps → (x y : Path) → any_rests_on ps (move_of x) ≡ true → any_rests_on ps (move_of y) ≡ true → thread_of x ≡ thread_of y → OnOneLine x y
team_line g ps team x y hx hy t = go (pasts_true ps (move_of x) hx) (pasts_true ps (move_of y) hy)
  where
    go : (p : Path) × Holds ps p × RestsOn (move_of x) p → (p : Path) × Holds ps p × RestsOn (move_of y) p → OnOneLine x y
    go (p, hp, rp) (q, hq, rq) = elim (team.agrees p q hp hq) [
      | inl one ↦ past_line q (team.sounds q hq) x y (subst (λ z. RestsOn (move_of x) z) one rp) rq t
      | inr a ↦
          agree_line p q (team.sounds p hp) (team.sounds q hq) a x y rp rq t
    ]

abbrev pub joined : (g : List Member) (ps : List Path) → Agreeing g ps → Together g
joined g ps team = record {
  has = any_rests_on ps;
  closed = λ m k h r. (let a : (p : Path) × Holds ps p × RestsOn m p = pasts_true ps m h in true_pasts ps a.0 k a.1 (rests_trans k m a.0 r a.2));
  lines = λ x y hx hy t. team_line g ps team x y hx hy t;
  fits = λ x h. fitting x (pasts_true ps (move_of x) h);
  sound = λ m h. (let a : (p : Path) × Holds ps p × RestsOn m p = pasts_true ps m h in sound_past a.0 m (team.sounds a.0 a.1) a.2);
}
  where
    fitting : (x : Path) → (p : Path) × Holds ps p × RestsOn (move_of x) p → (e : Member) × (path_state g x ≡ Some e)
    fitting x a = fits_past g a.0 x (team.states a.0 a.1) a.2

grown_keeps : (rest done : List Path) (y : Path) → Holds done y → Holds (with_moves done rest) y
grown_keeps [] done y h = h
grown_keeps (planted t ∷ rest) done y h = grown_keeps rest (planted t ∷ done) y (inr h)
grown_keeps (branched p l ∷ rest) done y h = grown_keeps rest (branched p l ∷ done) y (inr h)
grown_keeps (sent s r ∷ rest) done y h = grown_keeps rest (sent s r ∷ done) y (inr h)
grown_keeps (got s r ∷ rest) done y h = grown_keeps rest done y h

next_has : (done : List Path) (x : Path) → IsNext done x → Holds (with_move done x) (move_of x)
next_has done (planted t) n = inl refl
next_has done (branched p l) n = inl refl
next_has done (sent s r) n = inl refl
next_has done (got s r) n = n

-- the moves of all paths of the store are made
pub grown_has : (rest done : List Path) (x : Path) → AreMade done rest → Holds rest x → Holds (with_moves done rest) (move_of x)
grown_has [] done x made h = absurd (h)
grown_has (y ∷ rest) done x made (inl e) = subst (λ q. Holds (with_moves (with_move done y) rest) (move_of q)) (sym e) (grown_keeps rest (with_move done y) (move_of y) (next_has done y made.0))
grown_has (y ∷ rest) done x made (inr h) = grown_has rest (with_move done y) x made.1 h

pub above_own : (x y : Path) → IsAbove x y → (c : List Label) × (own_labels y ≡ own_labels x ++ c)
above_own x (planted t) e = ([], ap own_labels (sym e) ∙ sym (append-nil (own_labels x)))
above_own x (branched p l) (inl e) = ([], ap own_labels (sym e) ∙ sym (append-nil (own_labels x)))
above_own x (branched p l) (inr a) = let b : (c : List Label) × (own_labels p ≡ own_labels x ++ c) = above_own x p a in (
  b.0 ++ (choice (thread_of p) l ∷ []),
  ap (λ q. q ++ (choice (thread_of p) l ∷ [])) b.1 ∙ append_assoc
      (own_labels x) b.0 (choice (thread_of p) l ∷ []),
)
above_own x (sent s r) (inl e) = ([], ap own_labels (sym e) ∙ sym (append-nil (own_labels x)))
above_own x (sent s r) (inr a) = let b : (c : List Label) × (own_labels s ≡ own_labels x ++ c) = above_own x s a in (
  b.0 ++ (meeting (thread_of s) (thread_of r) ∷ []),
  ap (λ q. q ++ (meeting (thread_of s) (thread_of r) ∷ [])) b.1
      ∙ append_assoc (own_labels x) b.0 (meeting (thread_of s) (thread_of r) ∷ []),
)
above_own x (got s r) (inl e) = ([], ap own_labels (sym e) ∙ sym (append-nil (own_labels x)))
above_own x (got s r) (inr a) = let b : (c : List Label) × (own_labels r ≡ own_labels x ++ c) = above_own x r a in (
  b.0 ++ (meeting (thread_of s) (thread_of r) ∷ []),
  ap (λ q. q ++ (meeting (thread_of s) (thread_of r) ∷ [])) b.1
      ∙ append_assoc (own_labels x) b.0 (meeting (thread_of s) (thread_of r) ∷ []),
)

-- statement 1
pub record PastsAre (g : List Member) (store ps : List Path) : Type 0 where
  pub chain : Chain g (labels_of (any_rests_on ps) store)
  pub leaves : (x : Path) → any_rests_on ps (move_of x) ≡ true
      → ((z : Path) → any_rests_on ps (move_of z) ≡ true → thread_of z ≡ thread_of x → IsAbove z x)
      → (member_of (thread_of x) chain.end ≡ path_state g x) × (view_of (thread_of x)
      (labels_of (any_rests_on ps) store) ≡ own_labels x)
  pub untouched : (t : ℕ) → ((x : Path) → thread_of x ≡ t → any_rests_on ps (move_of x) ≡ true → ⊥) → member_of t chain.end ≡ member_of t g
  pub within : (x : Path) → any_rests_on ps (move_of x) ≡ true → (c : List Label) × (view_of (thread_of x) (labels_of (any_rests_on ps) store) ≡ own_labels x ++ c)
  pub shape : (t : ℕ) → (view_of t (labels_of (any_rests_on ps) store) ≡ [])
      ⊎ ((z : Path) × (thread_of z ≡ t) × (any_rests_on ps (move_of z) ≡ true)
      × (view_of t (labels_of (any_rests_on ps) store) ≡ own_labels z))

pub one_chain : (g : List Member) (store ps : List Path) → AreMade [] store → Agreeing g ps → ((p : Path) → Holds ps p → Holds (with_moves [] store) (move_of p)) → PastsAre g store ps
one_chain g store ps made team there =
    let all : Goes_on g (joined g ps team) (with_moves [] store) g [] (labels_of (any_rests_on ps) store) = runs_all g (joined g ps team) store made in
    record {
      chain = all.chain;
      leaves = λ x hx low. leaving all x (placed all x hx low ((all.ats (thread_of x)).top x refl hx (old x (pasts_true ps (move_of x) hx))));
      untouched = λ t free. rest all t free (all.ats t).place refl;
      within = λ x hx. deep all x (all.ats (thread_of x)).place refl ((all.ats (thread_of x)).top x refl hx (old x (pasts_true ps (move_of x) hx)));
      shape = λ t. shaped all t (all.ats t).place refl;
    }
  where
    placed : (all : Goes_on g (joined g ps team) (with_moves [] store) g [] (labels_of (any_rests_on ps) store))
        (x : Path) → any_rests_on ps (move_of x) ≡ true → ((z : Path) → any_rests_on ps (move_of z) ≡ true
        → thread_of z ≡ thread_of x → IsAbove z x) → (z : Path) × ((all.ats (thread_of x)).place ≡ Some z) × IsAbove x z
        → (all.ats (thread_of x)).place ≡ Some x
    placed all x hx low (z, e, up) = e ∙ ap Some (above_both z x (low z ((all.ats (thread_of x)).sits z e).1 ((all.ats (thread_of x)).sits z e).0) up)

    leaving : (all : Goes_on g (joined g ps team) (with_moves [] store) g [] (labels_of (any_rests_on ps) store))
        (p : Path) → (all.ats (thread_of p)).place ≡ Some p → (member_of (thread_of p) all.chain.end ≡ path_state g p)
        × (view_of (thread_of p) (labels_of (any_rests_on ps) store) ≡ own_labels p)
    leaving all p e = ((all.ats (thread_of p)).stands ∙ ap (stands_at g (thread_of p)) e, (all.ats (thread_of p)).told ∙ ap owned_by e)

    rest : (all : Goes_on g (joined g ps team) (with_moves [] store) g [] (labels_of (any_rests_on ps) store)) (t : ℕ)
        → ((x : Path) → thread_of x ≡ t → any_rests_on ps (move_of x) ≡ true → ⊥) → (o : Option Path)
        → (all.ats t).place ≡ o → member_of t all.chain.end ≡ member_of t g
    rest all t free None e = (all.ats t).stands ∙ ap (stands_at g t) e
    rest all t free (Some z) e = absurd ((free z ((all.ats t).sits z e).0 ((all.ats t).sits z e).1))

    deep : (all : Goes_on g (joined g ps team) (with_moves [] store) g [] (labels_of (any_rests_on ps) store))
        (x : Path) (o : Option Path) → (all.ats (thread_of x)).place ≡ o
        → (z : Path) × ((all.ats (thread_of x)).place ≡ Some z) × IsAbove x z
        → (c : List Label) × (view_of (thread_of x) (labels_of (any_rests_on ps) store) ≡ own_labels x ++ c)
    deep all x o e (z, k, up) = let b : (c : List Label) × (own_labels z ≡ own_labels x ++ c) = above_own x z up in (b.0, (all.ats (thread_of x)).told ∙ ap owned_by k ∙ b.1)

    old : (x : Path) → (p : Path) × Holds ps p × RestsOn (move_of x) p → Holds (with_moves [] store) (move_of x)
    old x (p, hp, r) = store_shut store made (move_of p) (move_of x) (there p hp) (rests_made (move_of x) p r)

    shaped : (all : Goes_on g (joined g ps team) (with_moves [] store) g [] (labels_of (any_rests_on ps) store)) (t : ℕ)
        (o : Option Path) → (all.ats t).place ≡ o → (view_of t (labels_of (any_rests_on ps) store) ≡ [])
        ⊎ ((z : Path) × (thread_of z ≡ t) × (any_rests_on ps (move_of z) ≡ true)
        × (view_of t (labels_of (any_rests_on ps) store) ≡ own_labels z))
    shaped all t None e = inl ((all.ats t).told ∙ ap owned_by e)
    shaped all t (Some z) e = inr (z, ((all.ats t).sits z e).0, ((all.ats t).sits z e).1, (all.ats t).told ∙ ap owned_by e)

-- no path of a team's pasts is deeper in a member's thread
pub team_low : (g : List Member) (ps : List Path) → Agreeing g ps → (p : Path) → Holds ps p → (z : Path) → any_rests_on ps (move_of z) ≡ true → thread_of z ≡ thread_of p → IsAbove z p
team_low g ps team p hp z hz tz = on (pasts_true ps (move_of z) hz)
  where
    on : (q : Path) × Holds ps q × RestsOn (move_of z) q → IsAbove z p
    on (q, hq, rq) = fin (clock_top q (team.sounds q hq) z rq)
      where
        fin : (c : Path) × (clock_of q (thread_of z) ≡ Some c) × IsAbove z c → IsAbove z p
        fin (c, k, vp) =
            let at : clock_of q (thread_of p) ≡ Some c = subst (λ n. clock_of q n ≡ Some c) tz k in
            elim (team.agrees p q hp hq) [
              | inl one ↦ (let self : clock_of q (thread_of p) ≡ Some q =
                  subst (λ n. clock_of q n ≡ Some q) (sym (ap thread_of one)) (clock_self q (team.sounds q hq)) in
                  let same_path : c ≡ q = cc in subst (λ x. IsAbove z x) (same_path ∙ sym one) vp)
              | inr ag ↦
                  above_trans z c p vp (ag.first c at)
            ]
