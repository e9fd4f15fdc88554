-- A clock names the deepest path of each thread in the past.
use Rattle.std.proofs.Common.{◌≡◌, ◌⊎◌, ◌≤◌, ◌<◌, inl, inr, ℕ, zero, suc, ◌+◌, List, [], ◌∷◌, ◌++◌, length, Bool, true}
use Rattle.std.proofs.Common.{false, cond, ltb, ◌||◌, ◌&&◌, Option, Some, None, option_map, IsTrue, refl, ap, ap₂, sym}
use Rattle.std.proofs.Common.{◌∙◌, subst, arith, rules, nat_eq, le_refl, le_of_lt, eq-or-lt_of_le, eqb-true, eq-eqb}
use Rattle.std.proofs.Common.{ltb-true, ltb-false, append_assoc, append-nil, length-append, true≢false}
use Rattle.std.specs.Option.{option_and_then}
use Rattle.te_terms.specs.Steps.{Member}
use Rattle.te_terms.specs.Settling.{settled}
use Rattle.te_terms.specs.Joint.{Label, choice, meeting, labels, member_of}
use Rattle.te_trail.specs.Paths.{Path, planted, branched, sent, got, thread_of, depth_of, own_labels, IsAbove, OnOneLine, move_of, RestsOn}
use Rattle.te_trail.specs.Clocks.{deeper, clock_of, Passes, Agree, IsSound}
use Rattle.te_trail.specs.States.{chosen, members_met, MovedEnds, path_state, HasState}
use Rattle.te_trail.specs.Stores.{Holds, IsNext, with_move, with_moves, AreMade, IsStore, labels_of_move, labels_of, same_side, same_path, rests_on, any_rests_on, trail_of, joint_trail}
use Rattle.te_trail.specs.Views.{Chain, touches, view_of, Begins, HasPast, LeavesAt, ChainOfBoth}
use Rattle.te_trail.proofs.Lines.{above_self, above_depth, above_thread, above_trans, above_same, above_both}
use Rattle.te_trail.proofs.Lines.{above_line, line_flip, line_depth, ancestor, rests_move, rests_trans, above_rests}
use Rattle.te_trail.proofs.Lines.{rests_made}
use Rattle.te_terms.proofs.Lists.{eq_same}

pub eq_apart : (a b : ℕ) → nat_eq a b ≡ false → nat_eq b a ≡ false
eq_apart a b ne = go (nat_eq b a) refl
  where
    go : (o : Bool) → nat_eq b a ≡ o → o ≡ false
    go false e = refl
    go true e = let z : nat_eq a b ≡ true = eq-eqb a b (sym (eqb-true b a e)) in cc

-- threads that differ
pub differ : {p q : Path} → Agree p q → nat_eq (thread_of p) (thread_of q) ≡ false
differ {p = p} {q = q} a = go (nat_eq (thread_of p) (thread_of q)) refl
  where
    go : (o : Bool) → nat_eq (thread_of p) (thread_of q) ≡ o → o ≡ false
    go true e = absurd (a.apart (eqb-true (thread_of p) (thread_of q) e))
    go false e = refl

-- of two paths that stand on one line, the deeper is below both
pub deeper_left : (oa ob : Option Path) (a : Path) → oa ≡ Some a → ((b : Path) → ob ≡ Some b → OnOneLine a b) → (c : Path) × (deeper oa ob ≡ Some c) × IsAbove a c
deeper_left None ob a e l = cc
deeper_left (Some x) None a e l = let same : x ≡ a = cc in (x, refl, subst (λ q. IsAbove q x) same (above_self x))
deeper_left (Some x) (Some b) a e l = let same : x ≡ a = cc in go (ltb (depth_of x) (depth_of b)) refl (subst (λ q. OnOneLine q b) (sym same) (l b refl)) same
  where
    go : (o : Bool) → ltb (depth_of x) (depth_of b) ≡ o → OnOneLine x b → x ≡ a → (c : Path) × (Some (cond o b x) ≡ Some c) × IsAbove a c
    go true t n same = (b, refl, subst (λ q. IsAbove q b) same (line_depth x b n (le_of_lt (ltb-true (depth_of x) (depth_of b) t))))
    go false t n same = (x, refl, subst (λ q. IsAbove q x) same (above_self x))

pub deeper_right : (oa ob : Option Path) (b : Path) → ob ≡ Some b → ((a : Path) → oa ≡ Some a → OnOneLine a b) → (c : Path) × (deeper oa ob ≡ Some c) × IsAbove b c
deeper_right None ob b e l = (b, e, above_self b)
deeper_right (Some x) None b e l = cc
deeper_right (Some x) (Some y) b e l = let same : y ≡ b = cc in go (ltb (depth_of x) (depth_of y)) refl (subst (λ q. OnOneLine x q) (sym same) (l x refl)) same
  where
    go : (o : Bool) → ltb (depth_of x) (depth_of y) ≡ o → OnOneLine x y → y ≡ b → (c : Path) × (Some (cond o y x) ≡ Some c) × IsAbove b c
    go true t n same = (y, refl, subst (λ q. IsAbove q y) same (above_self y))
    go false t n same = (x, refl, subst (λ q. IsAbove q x) same (line_depth y x (line_flip x y n) (ltb-false (depth_of x) (depth_of y) t)))

pub deeper_either : (oa ob : Option Path) (c : Path) → deeper oa ob ≡ Some c → (oa ≡ Some c) ⊎ (ob ≡ Some c)
deeper_either None ob c e = inr e
deeper_either (Some a) None c e = inl e
deeper_either (Some a) (Some b) c e = go (ltb (depth_of a) (depth_of b)) e
  where
    go : (o : Bool) → Some (cond o b a) ≡ Some c → (Some a ≡ Some c) ⊎ (Some b ≡ Some c)
    go true e = inr e
    go false e = inl e

meet_thread : (s r : Path) (t : ℕ) (c : Path) → (clock_of s t ≡ Some c → thread_of c ≡ t) → (clock_of r t ≡ Some c → thread_of c ≡ t) → clock_of (sent s r) t ≡ Some c → thread_of c ≡ t
meet_thread s r t c ihs ihr e = go (nat_eq t (thread_of s)) refl (nat_eq t (thread_of r)) refl e
  where
    go : (o : Bool) → nat_eq t (thread_of s) ≡ o → (u : Bool) → nat_eq t (thread_of r) ≡ u
        → cond o (Some (sent s r)) (cond u (Some (got s r)) (deeper (clock_of s t) (clock_of r t))) ≡ Some c
        → thread_of c ≡ t
    go true w u v e = let same : sent s r ≡ c = cc in ap thread_of (sym same) ∙ sym (eqb-true t (thread_of s) w)
    go false w true v e = let same : got s r ≡ c = cc in ap thread_of (sym same) ∙ sym (eqb-true t (thread_of r) v)
    go false w false v e = elim (deeper_either (clock_of s t) (clock_of r t) c e) [ inl h ↦ ihs h | inr h ↦ ihr h ]

-- what a clock says: the own thread, another end of a meeting, or below
pub clock_thread : (p : Path) (t : ℕ) (c : Path) → clock_of p t ≡ Some c → thread_of c ≡ t
clock_thread (planted s) t c e = go (nat_eq t s) refl e
  where
    go : (o : Bool) → nat_eq t s ≡ o → cond o (Some (planted s)) None ≡ Some c → thread_of c ≡ t
    go true w e = let same : planted s ≡ c = cc in ap thread_of (sym same) ∙ sym (eqb-true t s w)
    go false w e = cc
clock_thread (branched p l) t c e = go (clock_thread p t c) (nat_eq t (thread_of p)) refl e
  where
    go : (clock_of p t ≡ Some c → thread_of c ≡ t) → (o : Bool) → nat_eq t (thread_of p) ≡ o → cond o (Some (branched p l)) (clock_of p t) ≡ Some c → thread_of c ≡ t
    go ih true w e = let same : branched p l ≡ c = cc in ap thread_of (sym same) ∙ sym (eqb-true t (thread_of p) w)
    go ih false w e = ih e
clock_thread (sent s r) t c e = meet_thread s r t c (clock_thread s t c) (clock_thread r t c) e
clock_thread (got s r) t c e = meet_thread s r t c (clock_thread s t c) (clock_thread r t c) e

meet_in : (s r : Path) (t : ℕ) (c m : Path) → (clock_of s t ≡ Some c → RestsOn m c → RestsOn m s)
    → (clock_of r t ≡ Some c → RestsOn m c → RestsOn m r) → clock_of (sent s r) t ≡ Some c → RestsOn m c
    → RestsOn m (sent s r)
meet_in s r t c m ihs ihr e a = go (nat_eq t (thread_of s)) (nat_eq t (thread_of r)) e
  where
    go : (o u : Bool) → cond o (Some (sent s r)) (cond u (Some (got s r)) (deeper (clock_of s t) (clock_of r t))) ≡ Some c → RestsOn m (sent s r)
    go true u e = let same : sent s r ≡ c = cc in subst (λ q. RestsOn m q) (sym same) a
    go false true e = let same : got s r ≡ c = cc in let b : RestsOn m (got s r) = subst (λ q. RestsOn m q) (sym same) a in b
    go false false e = elim (deeper_either (clock_of s t) (clock_of r t) c e) [ inl h ↦ inr (inl (ihs h a)) | inr h ↦ inr (inr (ihr h a)) ]

-- what a clock names is in the past
pub clock_in : (p : Path) (t : ℕ) (c m : Path) → clock_of p t ≡ Some c → RestsOn m c → RestsOn m p
clock_in (planted s) t c m e a = go (nat_eq t s) e
  where
    go : (o : Bool) → cond o (Some (planted s)) None ≡ Some c → RestsOn m (planted s)
    go true e = let same : planted s ≡ c = cc in subst (λ q. RestsOn m q) (sym same) a
    go false e = cc
clock_in (branched p l) t c m e a = go (clock_in p t c m) (nat_eq t (thread_of p)) e
  where
    go : (clock_of p t ≡ Some c → RestsOn m c → RestsOn m p) → (o : Bool) → cond o (Some (branched p l)) (clock_of p t) ≡ Some c → RestsOn m (branched p l)
    go ih true e = let same : branched p l ≡ c = cc in subst (λ q. RestsOn m q) (sym same) a
    go ih false e = inr (ih e a)
clock_in (sent s r) t c m e a = meet_in s r t c m (clock_in s t c m) (clock_in r t c m) e a
clock_in (got s r) t c m e a = meet_in s r t c m (clock_in s t c m) (clock_in r t c m) e a

-- the clock names the path itself for its own thread
pub clock_self : (p : Path) → IsSound p → clock_of p (thread_of p) ≡ Some p
clock_self (planted t) h = rw (eq_same t) refl
clock_self (branched p l) h = rw (eq_same (thread_of p)) refl
clock_self (sent s r) h = rw (eq_same (thread_of s)) refl
clock_self (got s r) h = rw (eq_apart (thread_of s) (thread_of r) (differ h.2), eq_same (thread_of r)) refl

-- agreement as proofs use it: what the clock of one names for the thread of the other is the other or an ancestor of it
pub record Agrees (p q : Path) : Type 0 where
  pub apart : nat_eq (thread_of p) (thread_of q) ≡ false
  pub lines : (t : ℕ) (a b : Path) → clock_of p t ≡ Some a → clock_of q t ≡ Some b → OnOneLine a b
  pub first : (b : Path) → clock_of q (thread_of p) ≡ Some b → IsAbove b p
  pub second : (a : Path) → clock_of p (thread_of q) ≡ Some a → IsAbove a q

-- on one line with p, and not below it
not_below : (p q b : Path) → (¬ Passes q p) → clock_of q (thread_of p) ≡ Some b → OnOneLine b p → IsAbove b p
not_below p q b free e (inl up) = up
not_below p q b free e (inr down) = elim (eq-or-lt_of_le (above_depth p b down)) [
  | inl same ↦ subst (λ x. IsAbove b x) (sym (above_same p b down same)) (above_self b)
  | inr less ↦ absurd (free (b, e, down, (λ is. omega (arith, less, ap depth_of is))))
]

pub agrees_by : (p q : Path) → IsSound p → IsSound q → Agree p q → Agrees p q
agrees_by p q hp hq a = record {
  apart = differ a;
  lines = a.lines;
  first = λ b e. not_below p q b a.not_passed e (line_flip p b (a.lines (thread_of p) p b (clock_self p hp) e));
  second = λ b e. not_below q p b a.not_passing e (a.lines (thread_of q) b q e (clock_self q hq));
}

passes_none : (p q : Path) → ((b : Path) → clock_of q (thread_of p) ≡ Some b → IsAbove b p) → ¬ Passes q p
passes_none p q up (c, e, down, apart) = apart (above_both c p (up c e) down)

pub agree_by : (p q : Path) → Agrees p q → Agree p q
agree_by p q a = record {
  apart = λ same. (let yes : nat_eq (thread_of p) (thread_of q) ≡ true = eq-eqb (thread_of p) (thread_of q) same in let no : nat_eq (thread_of p) (thread_of q) ≡ false = a.apart in cc);
  lines = a.lines;
  not_passed = passes_none p q a.first;
  not_passing = passes_none q p a.second;
}

-- which paths a move makes
pub made_planted : (x : Path) (t : ℕ) → move_of x ≡ planted t → x ≡ planted t
made_planted (planted s) t e = e
made_planted (branched p l) t e = cc
made_planted (sent s r) t e = cc
made_planted (got s r) t e = cc

pub made_branched : (x p : Path) (l : Bool) → move_of x ≡ branched p l → x ≡ branched p l
made_branched (planted s) p l e = cc
made_branched (branched q k) p l e = e
made_branched (sent s r) p l e = cc
made_branched (got s r) p l e = cc

pub made_met : (x s r : Path) → move_of x ≡ sent s r → (x ≡ sent s r) ⊎ (x ≡ got s r)
made_met (planted t) s r e = cc
made_met (branched q k) s r e = cc
made_met (sent a b) s r e = inl e
made_met (got a b) s r e = let e1 : a ≡ s = cc in let e2 : b ≡ r = cc in inr (rw (e1, e2) refl)

meet_top : (s r : Path) → IsSound (sent s r) → (x : Path) → (RestsOn (move_of x) s
    → (c : Path) × (clock_of s (thread_of x) ≡ Some c) × IsAbove x c)
    → (RestsOn (move_of x) r → (c : Path) × (clock_of r (thread_of x) ≡ Some c) × IsAbove x c)
    → RestsOn (move_of x) (sent s r) → (c : Path) × (clock_of (sent s r) (thread_of x) ≡ Some c) × IsAbove x c
meet_top s r h x ihs ihr (inl a) = on (made_met x s r a)
  where
    on : (x ≡ sent s r) ⊎ (x ≡ got s r) → (c : Path) × (clock_of (sent s r) (thread_of x) ≡ Some c) × IsAbove x c
    on (inl same) = (sent s r, rw (ap thread_of same, eq_same (thread_of s)) refl, inl same)
    on (inr same) = (got s r, rw (ap thread_of same, eq_apart (thread_of s) (thread_of r) (differ h.2), eq_same (thread_of r)) refl, inl same)
meet_top s r h x ihs ihr (inr (inl a)) = go (ihs a) (nat_eq (thread_of x) (thread_of s)) refl (nat_eq (thread_of x) (thread_of r)) refl
  where
    go : (c : Path) × (clock_of s (thread_of x) ≡ Some c) × IsAbove x c → (o : Bool)
        → nat_eq (thread_of x) (thread_of s) ≡ o → (u : Bool) → nat_eq (thread_of x) (thread_of r) ≡ u
        → (c : Path) × (cond o (Some (sent s r)) (cond u (Some (got s r))
        (deeper (clock_of s (thread_of x)) (clock_of r (thread_of x)))) ≡ Some c) × IsAbove x c
    go (c, e, up) true w u v =
        let at : clock_of s (thread_of x) ≡ Some s = rw (eqb-true (thread_of x) (thread_of s) w) (clock_self s h.0) in
        let same : c ≡ s = cc in
        (sent s r, refl, inr (subst (λ q. IsAbove x q) same up))
    go (c, e, up) false w true v =
        let at : clock_of s (thread_of r) ≡ Some c = subst (λ n. clock_of s n ≡ Some c) (eqb-true (thread_of x) (thread_of r) v) e in
        (got s r, refl, inr (above_trans x c r up ((agrees_by s r h.0 h.1 h.2).second c at)))
    go (c, e, up) false w false v =
        let d : (b : Path) × (deeper (clock_of s (thread_of x)) (clock_of r (thread_of x)) ≡ Some b) × IsAbove c b =
        deeper_left (clock_of s (thread_of x)) (clock_of r (thread_of x)) c e
        (λ b f. (agrees_by s r h.0 h.1 h.2).lines (thread_of x) c b e f) in
        (d.0, d.1, above_trans x c d.0 up d.2)
meet_top s r h x ihs ihr (inr (inr a)) = go (ihr a) (nat_eq (thread_of x) (thread_of s)) refl (nat_eq (thread_of x) (thread_of r)) refl
  where
    go : (c : Path) × (clock_of r (thread_of x) ≡ Some c) × IsAbove x c → (o : Bool)
        → nat_eq (thread_of x) (thread_of s) ≡ o → (u : Bool) → nat_eq (thread_of x) (thread_of r) ≡ u
        → (c : Path) × (cond o (Some (sent s r)) (cond u (Some (got s r))
        (deeper (clock_of s (thread_of x)) (clock_of r (thread_of x)))) ≡ Some c) × IsAbove x c
    go (c, e, up) true w u v =
        let at : clock_of r (thread_of s) ≡ Some c = subst (λ n. clock_of r n ≡ Some c) (eqb-true (thread_of x) (thread_of s) w) e in
        (sent s r, refl, inr (above_trans x c s up ((agrees_by s r h.0 h.1 h.2).first c at)))
    go (c, e, up) false w true v =
        let at : clock_of r (thread_of x) ≡ Some r = rw (eqb-true (thread_of x) (thread_of r) v) (clock_self r h.1) in
        let same : c ≡ r = cc in
        (got s r, refl, inr (subst (λ q. IsAbove x q) same up))
    go (c, e, up) false w false v =
        let d : (b : Path) × (deeper (clock_of s (thread_of x)) (clock_of r (thread_of x)) ≡ Some b) × IsAbove c b =
        deeper_right (clock_of s (thread_of x)) (clock_of r (thread_of x)) c e
        (λ b f. (agrees_by s r h.0 h.1 h.2).lines (thread_of x) b c f e) in
        (d.0, d.1, above_trans x c d.0 up d.2)

-- each path of a past is above the clock's path of its thread
pub clock_top : (p : Path) → IsSound p → (x : Path) → RestsOn (move_of x) p → (c : Path) × (clock_of p (thread_of x) ≡ Some c) × IsAbove x c
clock_top (planted t) h x a = let same : x ≡ planted t = made_planted x t a in (planted t, rw (ap thread_of same, eq_same t) refl, same)
clock_top (branched p l) h x (inl a) = let same : x ≡ branched p l = made_branched x p l a in (branched p l, rw (ap thread_of same, eq_same (thread_of p)) refl, inl same)
clock_top (branched p l) h x (inr a) = go (clock_top p h x a) (nat_eq (thread_of x) (thread_of p)) refl
  where
    go : (c : Path) × (clock_of p (thread_of x) ≡ Some c) × IsAbove x c → (o : Bool)
        → nat_eq (thread_of x) (thread_of p) ≡ o → (c : Path) × (cond o (Some (branched p l))
        (clock_of p (thread_of x)) ≡ Some c) × IsAbove x c
    go (c, e, up) true w =
        let at : clock_of p (thread_of x) ≡ Some p = rw (eqb-true (thread_of x) (thread_of p) w) (clock_self p h) in
        let same : c ≡ p = cc in
        (branched p l, refl, inr (subst (λ q. IsAbove x q) same up))
    go (c, e, up) false w = (c, e, up)
clock_top (sent s r) h x a = meet_top s r h x (clock_top s h.0 x) (clock_top r h.1 x) a
clock_top (got s r) h x a = meet_top s r h x (clock_top s h.0 x) (clock_top r h.1 x) a

-- two paths of one thread whose moves are in agreeing pasts stand on one line
pub past_line : (p : Path) → IsSound p → (x y : Path) → RestsOn (move_of x) p → RestsOn (move_of y) p → thread_of x ≡ thread_of y → OnOneLine x y
past_line p h x y a b e = go (clock_top p h x a) (clock_top p h y b)
  where
    go : (c : Path) × (clock_of p (thread_of x) ≡ Some c) × IsAbove x c → (c : Path) × (clock_of p (thread_of y) ≡ Some c) × IsAbove y c → OnOneLine x y
    go (c, i, up) (d, j, vp) =
        let k : clock_of p (thread_of x) ≡ Some d = rw e j in
        let same : d ≡ c = cc in
        above_line x y c up (subst (λ q. IsAbove y q) same vp)

pub agree_line : (p q : Path) → IsSound p → IsSound q → Agrees p q → (x y : Path) → RestsOn (move_of x) p → RestsOn (move_of y) q → thread_of x ≡ thread_of y → OnOneLine x y
agree_line p q hp hq g x y a b e = go (clock_top p hp x a) (clock_top q hq y b)
  where
    go : (c : Path) × (clock_of p (thread_of x) ≡ Some c) × IsAbove x c → (c : Path) × (clock_of q (thread_of y) ≡ Some c) × IsAbove y c → OnOneLine x y
    go (c, i, up) (d, j, vp) =
        elim (g.lines (thread_of x) c d i (rw e j)) [ inl h ↦ above_line x y d (above_trans x c d up h) vp | inr h ↦ above_line x y c up (above_trans y d c vp h) ]
