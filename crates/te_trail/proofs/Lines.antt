-- Lines of paths.
use Rattle.std.proofs.Common.{◌≡◌, ◌⊎◌, ◌≤◌, ◌<◌, inl, inr, ℕ, zero, suc, ◌+◌, List, [], ◌∷◌, ◌++◌, length, Bool, true}
use Rattle.std.proofs.Common.{false, cond, ltb, ◌||◌, ◌&&◌, Option, Some, None, option_map, IsTrue, refl, ap, ap₂, sym}
use Rattle.std.proofs.Common.{◌∙◌, subst, arith, rules, nat_eq, le_refl, le_of_lt, eq-or-lt_of_le, eqb-true, eq-eqb}
use Rattle.std.proofs.Common.{ltb-true, ltb-false, append_assoc, append-nil, length-append, true≢false}
use Rattle.te_trail.specs.Paths.{Path, planted, branched, sent, got, thread_of, depth_of, own_labels, IsAbove, OnOneLine, move_of, RestsOn}
use Rattle.te_trail.specs.Clocks.{deeper, clock_of, Passes, Agree, IsSound}
use Rattle.te_trail.specs.States.{chosen, members_met, MovedEnds, path_state, HasState}
use Rattle.te_trail.specs.Stores.{Holds, IsNext, with_move, with_moves, AreMade, IsStore, labels_of_move, labels_of, same_side, same_path, rests_on, any_rests_on, trail_of, joint_trail}
use Rattle.te_trail.specs.Views.{Chain, touches, view_of, Begins, HasPast, LeavesAt, ChainOfBoth}

pub above_self : (x : Path) → IsAbove x x
above_self (planted t) = refl
above_self (branched p l) = inl refl
above_self (sent s r) = inl refl
above_self (got s r) = inl refl

pub above_depth : (x y : Path) → IsAbove x y → depth_of x ≤ depth_of y
above_depth x (planted t) e = rw e (le_refl 0)
above_depth x (branched p l) (inl e) = rw e (le_refl _)
above_depth x (branched p l) (inr a) = omega (arith, above_depth x p a)
above_depth x (sent s r) (inl e) = rw e (le_refl _)
above_depth x (sent s r) (inr a) = omega (arith, above_depth x s a)
above_depth x (got s r) (inl e) = rw e (le_refl _)
above_depth x (got s r) (inr a) = omega (arith, above_depth x r a)

pub above_thread : (x y : Path) → IsAbove x y → thread_of x ≡ thread_of y
above_thread x (planted t) e = ap thread_of e
above_thread x (branched p l) (inl e) = ap thread_of e
above_thread x (branched p l) (inr a) = above_thread x p a
above_thread x (sent s r) (inl e) = ap thread_of e
above_thread x (sent s r) (inr a) = above_thread x s a
above_thread x (got s r) (inl e) = ap thread_of e
above_thread x (got s r) (inr a) = above_thread x r a

pub above_trans : (x y z : Path) → IsAbove x y → IsAbove y z → IsAbove x z
above_trans x y (planted t) a e = subst (λ q. IsAbove x q) e a
above_trans x y (branched p l) a (inl e) = subst (λ q. IsAbove x q) e a
above_trans x y (branched p l) a (inr b) = inr (above_trans x y p a b)
above_trans x y (sent s r) a (inl e) = subst (λ q. IsAbove x q) e a
above_trans x y (sent s r) a (inr b) = inr (above_trans x y s a b)
above_trans x y (got s r) a (inl e) = subst (λ q. IsAbove x q) e a
above_trans x y (got s r) a (inr b) = inr (above_trans x y r a b)

-- on one line the depth decides
pub above_same : (x y : Path) → IsAbove x y → depth_of x ≡ depth_of y → x ≡ y
above_same x (planted t) e d = e
above_same x (branched p l) (inl e) d = e
above_same x (branched p l) (inr a) d = absurd (omega (arith, above_depth x p a))
above_same x (sent s r) (inl e) d = e
above_same x (sent s r) (inr a) d = absurd (omega (arith, above_depth x s a))
above_same x (got s r) (inl e) d = e
above_same x (got s r) (inr a) d = absurd (omega (arith, above_depth x r a))

pub above_both : (x y : Path) → IsAbove x y → IsAbove y x → x ≡ y
above_both x y a b = above_same x y a (omega (arith, above_depth x y a, above_depth y x b))

-- two ancestors of one path stand on one line
pub above_line : (x y z : Path) → IsAbove x z → IsAbove y z → OnOneLine x y
above_line x y (planted t) a b = inl (subst (λ q. IsAbove x q) (sym b) a)
above_line x y (branched p l) (inl e) b = inr (subst (λ q. IsAbove y q) (sym e) b)
above_line x y (branched p l) (inr a) (inl e) = inl (subst (λ q. IsAbove x q) (sym e) (inr a))
above_line x y (branched p l) (inr a) (inr b) = above_line x y p a b
above_line x y (sent s r) (inl e) b = inr (subst (λ q. IsAbove y q) (sym e) b)
above_line x y (sent s r) (inr a) (inl e) = inl (subst (λ q. IsAbove x q) (sym e) (inr a))
above_line x y (sent s r) (inr a) (inr b) = above_line x y s a b
above_line x y (got s r) (inl e) b = inr (subst (λ q. IsAbove y q) (sym e) b)
above_line x y (got s r) (inr a) (inl e) = inl (subst (λ q. IsAbove x q) (sym e) (inr a))
above_line x y (got s r) (inr a) (inr b) = above_line x y r a b

pub line_flip : (x y : Path) → OnOneLine x y → OnOneLine y x
line_flip x y (inl a) = inr a
line_flip x y (inr b) = inl b

pub line_depth : (x y : Path) → OnOneLine x y → depth_of x ≤ depth_of y → IsAbove x y
line_depth x y (inl a) d = a
line_depth x y (inr b) d = let e : y ≡ x = above_same y x b (omega (arith, above_depth y x b)) in subst (λ q. IsAbove x q) (sym e) (above_self x)

split : (d n : ℕ) → d ≤ suc n → (d ≡ suc n) ⊎ (d ≤ n)
split d n h = elim (eq-or-lt_of_le h) [ inl e ↦ inl e | inr less ↦ inr (omega (arith, less)) ]

under : (y p : Path) (d : ℕ) → depth_of y ≡ suc (depth_of p) → IsAbove y y → ((x : Path) → IsAbove x p → IsAbove x y)
    → (d ≤ depth_of p → (x : Path) × IsAbove x p × (depth_of x ≡ d)) → ((d ≡ suc (depth_of p)) ⊎ (d ≤ depth_of p))
    → (x : Path) × IsAbove x y × (depth_of x ≡ d)
under y p d e self wide ih (inl same) = (y, self, e ∙ sym same)
under y p d e self wide ih (inr less) = let a : (x : Path) × IsAbove x p × (depth_of x ≡ d) = ih less in (a.0, wide a.0 a.1, a.2)

-- the ancestor at a depth
pub ancestor : (y : Path) (d : ℕ) → d ≤ depth_of y → (x : Path) × IsAbove x y × (depth_of x ≡ d)
ancestor (planted t) d h = (planted t, refl, omega (arith, h))
ancestor (branched p l) d h = under (branched p l) p d refl (inl refl) (λ x a. inr a) (ancestor p d) (split d (depth_of p) h)
ancestor (sent s r) d h = under (sent s r) s d refl (inl refl) (λ x a. inr a) (ancestor s d) (split d (depth_of s) h)
ancestor (got s r) d h = under (got s r) r d refl (inl refl) (λ x a. inr a) (ancestor r d) (split d (depth_of r) h)

-- the past
pub rests_move : (x : Path) → RestsOn (move_of x) x
rests_move (planted t) = refl
rests_move (branched p l) = inl refl
rests_move (sent s r) = inl refl
rests_move (got s r) = inl refl

pub rests_trans : (k m y : Path) → RestsOn k m → RestsOn m y → RestsOn k y
rests_trans k m (planted t) a e = subst (λ q. RestsOn k q) e a
rests_trans k m (branched p l) a (inl e) = subst (λ q. RestsOn k q) e a
rests_trans k m (branched p l) a (inr b) = inr (rests_trans k m p a b)
rests_trans k m (sent s r) a (inl e) = subst (λ q. RestsOn k q) e a
rests_trans k m (sent s r) a (inr (inl b)) = inr (inl (rests_trans k m s a b))
rests_trans k m (sent s r) a (inr (inr b)) = inr (inr (rests_trans k m r a b))
rests_trans k m (got s r) a (inl e) = subst (λ q. RestsOn k q) e a
rests_trans k m (got s r) a (inr (inl b)) = inr (inl (rests_trans k m s a b))
rests_trans k m (got s r) a (inr (inr b)) = inr (inr (rests_trans k m r a b))

-- an ancestor's past is in the past
pub above_rests : (x y m : Path) → IsAbove x y → RestsOn m x → RestsOn m y
above_rests x (planted t) m e b = subst (λ q. RestsOn m q) e b
above_rests x (branched p l) m (inl e) b = subst (λ q. RestsOn m q) e b
above_rests x (branched p l) m (inr a) b = inr (above_rests x p m a b)
above_rests x (sent s r) m (inl e) b = subst (λ q. RestsOn m q) e b
above_rests x (sent s r) m (inr a) b = inr (inl (above_rests x s m a b))
above_rests x (got s r) m (inl e) b = subst (λ q. RestsOn m q) e b
above_rests x (got s r) m (inr a) b = inr (inr (above_rests x r m a b))

pub rests_made : (m z : Path) → RestsOn m z → RestsOn m (move_of z)
rests_made m (planted t) a = a
rests_made m (branched p l) a = a
rests_made m (sent s r) a = a
rests_made m (got s r) a = a
