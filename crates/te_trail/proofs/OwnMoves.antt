-- A path of a store is known by the views of its past.
use Rattle.std.proofs.Common.{◌≡◌, ◌⊎◌, ◌≤◌, ◌<◌, inl, inr, ℕ, zero, suc, ◌+◌, List, [], ◌∷◌, ◌++◌, length, Bool, true}
use Rattle.std.proofs.Common.{false, cond, ltb, ◌||◌, ◌&&◌, Option, Some, None, option_map, IsTrue, refl, ap, ap₂, sym}
use Rattle.std.proofs.Common.{◌∙◌, subst, arith, rules, nat_eq, le_refl, le_of_lt, eq-or-lt_of_le, eqb-true, eq-eqb}
use Rattle.std.proofs.Common.{ltb-true, ltb-false, append_assoc, append-nil, length-append, true≢false}
use Rattle.std.specs.Option.{option_and_then}
use Rattle.te_terms.specs.Steps.{Member}
use Rattle.te_terms.specs.Settling.{settled}
use Rattle.te_terms.specs.Joint.{Label, choice, meeting, labels, member_of}
use Rattle.te_trail.specs.Paths.{Path, planted, branched, sent, got, thread_of, depth_of, own_labels, IsAbove, OnOneLine, move_of, RestsOn}
use Rattle.te_trail.specs.Clocks.{deeper, clock_of, Passes, Agree, IsSound}
use Rattle.te_trail.specs.States.{chosen, members_met, MovedEnds, path_state, HasState}
use Rattle.te_trail.specs.Stores.{Holds, IsNext, with_move, with_moves, AreMade, IsStore, labels_of_move, labels_of, same_side, same_path, rests_on, any_rests_on, trail_of, joint_trail}
use Rattle.te_trail.specs.Views.{Chain, touches, view_of, Begins, HasPast, LeavesAt, ChainOfBoth}
use Rattle.te_trail.proofs.Lines.{above_self, above_depth, above_thread, above_trans, above_same, above_both}
use Rattle.te_trail.proofs.Lines.{above_line, line_flip, line_depth, ancestor, rests_move, rests_trans, above_rests}
use Rattle.te_trail.proofs.Lines.{rests_made}
use Rattle.te_trail.proofs.ClockLaws.{eq_apart, differ, deeper_left, deeper_right, deeper_either, clock_thread}
use Rattle.te_trail.proofs.ClockLaws.{clock_in, clock_self, Agrees, agrees_by, agree_by, made_planted, made_branched}
use Rattle.te_trail.proofs.ClockLaws.{made_met, clock_top, past_line, agree_line}
use Rattle.te_terms.proofs.Lists.{eq_same, some_map}
use Rattle.te_trail.proofs.MembersMove.{found_thread, found_new, found_other, chain_append, labels_append, view_append}
use Rattle.te_trail.proofs.MembersMove.{no_chain, chain_on, Moves, quiets, settles_there, chooses, Meets, Handing}
use Rattle.te_trail.proofs.MembersMove.{handing, meets}
use Rattle.te_trail.proofs.MovesChain.{Together, stands_at, owned_by, PlaceAt, AreClosed, AllPlaced, state_branched}
use Rattle.te_trail.proofs.MovesChain.{state_after, state_met, view_choice, view_choice_other, view_sender}
use Rattle.te_trail.proofs.MovesChain.{view_receiver, view_other, Goes_on, shut_grow, runs, shut_grown, store_shut}
use Rattle.te_trail.proofs.MovesChain.{runs_all}
use Rattle.te_trail.proofs.PastsChain.{same_true, same_self, rests_true, true_rests, pasts_true, true_pasts, then_some}
use Rattle.te_trail.proofs.PastsChain.{parts_of, fits_past, sound_past, Agreeing, team_line, joined, grown_has}
use Rattle.te_trail.proofs.PastsChain.{above_own, PastsAre, one_chain, team_low}

pub own_depth : (x : Path) → length (own_labels x) ≡ depth_of x
own_depth (planted t) = refl
own_depth (branched p l) = omega (arith, length-append (own_labels p) (choice (thread_of p) l ∷ []), own_depth p)
own_depth (sent s r) = omega (arith, length-append (own_labels s) (meeting (thread_of s) (thread_of r) ∷ []), own_depth s)
own_depth (got s r) = omega (arith, length-append (own_labels r) (meeting (thread_of s) (thread_of r) ∷ []), own_depth r)

starts_same : (a b c d : List Label) → a ++ c ≡ b ++ d → length a ≡ length b → a ≡ b
starts_same [] [] c d e l = refl
starts_same [] (y ∷ b) c d e l = absurd (omega (arith, l))
starts_same (x ∷ a) [] c d e l = absurd (omega (arith, l))
starts_same (x ∷ a) (y ∷ b) c d e l =
    let one : x ≡ y = cc in
    let more : a ++ c ≡ b ++ d = cc in
    ap₂ (λ h t. h ∷ t) one (starts_same a b c d more (omega (arith, l)))

pub prefix_same : (a b c : List Label) → Begins a c → Begins b c → length a ≡ length b → a ≡ b
prefix_same a b c (x, e) (y, f) l = starts_same a b x y (sym e ∙ f) l

last_same : (a b : List Label) (l m : Label) → a ++ (l ∷ []) ≡ b ++ (m ∷ []) → (a ≡ b) × (l ≡ m)
last_same [] [] l m e = (refl, cc)
last_same [] (y ∷ []) l m e = cc
last_same [] (y ∷ z ∷ b) l m e = cc
last_same (x ∷ []) [] l m e = cc
last_same (x ∷ z ∷ a) [] l m e = cc
last_same (x ∷ a) (y ∷ b) l m e =
    let one : x ≡ y = cc in
    let more : a ++ (l ∷ []) ≡ b ++ (m ∷ []) = cc in
    let rest : (a ≡ b) × (l ≡ m) = last_same a b l m more in
    (ap₂ (λ h t. h ∷ t) one rest.0, rest.1)

-- of two places in a list at labels of a thread, with as many of its labels before them
place_same : (t : ℕ) (a b c d : List Label) (l m : Label) → a ++ (l ∷ c) ≡ b ++ (m ∷ d) → touches t l ≡ true → touches t m ≡ true → length (view_of t a) ≡ length (view_of t b) → a ≡ b
place_same t [] [] c d l m e tl tm n = refl
place_same t [] (y ∷ b) c d l m e tl tm n =
    let one : y ≡ l = cc in
    let ty : touches t y ≡ true = rw one tl in
    let v : length (view_of t (y ∷ b)) ≡ suc (length (view_of t b)) = rw ty refl in
    absurd (omega (arith, n, v))
place_same t (x ∷ a) [] c d l m e tl tm n =
    let one : x ≡ m = cc in
    let tx : touches t x ≡ true = rw one tm in
    let v : length (view_of t (x ∷ a)) ≡ suc (length (view_of t a)) = rw tx refl in
    absurd (omega (arith, n, v))
place_same t (x ∷ a) (y ∷ b) c d l m e tl tm n =
    let one : x ≡ y = cc in
    let more : a ++ (l ∷ c) ≡ b ++ (m ∷ d) = cc in
    ap₂ (λ h k. h ∷ k) one (go (place_same t a b c d l m more tl tm) (touches t x) refl (subst (λ h. length (view_of t (x ∷ a)) ≡ length (view_of t (h ∷ b))) (sym one) n))
  where
    go : (length (view_of t a) ≡ length (view_of t b) → a ≡ b) → (o : Bool) → touches t x ≡ o
        → length (cond (touches t x) (x ∷ view_of t a) (view_of t a)) ≡ length
        (cond (touches t x) (x ∷ view_of t b) (view_of t b)) → a ≡ b
    go ih true w n = let k : length (x ∷ view_of t a) ≡ length (x ∷ view_of t b) =
        subst (λ o. length (cond o (x ∷ view_of t a) (view_of t a)) ≡ length (cond o (x ∷ view_of t b) (view_of t b))) w
        n in ih (omega (arith, k))
    go ih false w n = ih (subst (λ o. length (cond o (x ∷ view_of t a) (view_of t a)) ≡ length (cond o (x ∷ view_of t b) (view_of t b))) w n)

pub view_view : (s t : ℕ) (w : List Label) → view_of s (view_of t w) ≡ view_of t (view_of s w)
view_view s t [] = refl
view_view s t (l ∷ w) = go (touches s l) refl (touches t l) refl (view_view s t w)
  where
    go : (a : Bool) → touches s l ≡ a → (b : Bool) → touches t l ≡ b → view_of s (view_of t w) ≡ view_of t (view_of s w)
        → view_of s (cond b (l ∷ view_of t w) (view_of t w)) ≡ view_of t (cond a (l ∷ view_of s w) (view_of s w))
    go true e true f ih = rw (e, f) (ap (λ r. l ∷ r) ih)
    go true e false f ih = rw f ih
    go false e true f ih = rw e ih
    go false e false f ih = ih

-- the two threads of a meeting have told of as many meetings with each other
abbrev pub AreEven : Path → Path → Type 0
AreEven s r = view_of (thread_of r) (own_labels (sent s r)) ≡ view_of (thread_of s) (own_labels (got s r))

abbrev pub HasEvenMeetings : Path → Type 0
HasEvenMeetings x = (s r : Path) → RestsOn (sent s r) x → AreEven s r

told : (t : ℕ) (a : List Label) (l : Label) → touches t l ≡ true → length (view_of t (a ++ (l ∷ []))) ≡ suc (length (view_of t a))
told t a l e = ap length (view_append t a (l ∷ [])) ∙ length-append (view_of t a) (view_of t (l ∷ [])) ∙ rw e (omega arith)

touch_first : (i j : ℕ) → touches i (meeting i j) ≡ true
touch_first i j = rw (eq_same i) refl

touch_second : (i j : ℕ) → touches j (meeting i j) ≡ true
touch_second i j = go (nat_eq i j)
  where
    go : (o : Bool) → o || nat_eq j j ≡ true
    go true = refl
    go false = eq_same j

-- the partner's path of a meeting is at one depth
partner : (w : List Label) (s r a b : Path) → HasPast (sent s r) w → HasPast (sent a b) w → AreEven s r → AreEven a b
    → thread_of s ≡ thread_of a → thread_of r ≡ thread_of b → own_labels (sent s r) ≡ own_labels (sent a b)
    → own_labels r ≡ own_labels b
partner w s r a b rx ry es eb ts tr e =
    let px : Begins (own_labels (got s r)) (view_of (thread_of r) w) = rx (got s r) (inl refl) in
    let py : Begins (own_labels (got a b)) (view_of (thread_of b) w) = ry (got a b) (inl refl) in
    let seen : own_labels r ++ (meeting (thread_of s) (thread_of r) ∷ px.0) ≡ own_labels b ++ (meeting (thread_of a) (thread_of b) ∷ py.0) =
    sym (append_assoc (own_labels r) (meeting (thread_of s) (thread_of r) ∷ []) px.0) ∙ sym px.1
    ∙ ap (λ n. view_of n w) tr ∙ py.1 ∙ append_assoc (own_labels b) (meeting (thread_of a) (thread_of b) ∷ []) py.0 in
    let first : touches (thread_of s) (meeting (thread_of s) (thread_of r)) ≡ true = touch_first (thread_of s) (thread_of r) in
    let second : touches (thread_of s) (meeting (thread_of a) (thread_of b)) ≡ true =
    subst (λ n. touches n (meeting (thread_of a) (thread_of b)) ≡ true) (sym ts)
    (touch_first (thread_of a) (thread_of b)) in
    let n1 : length (view_of (thread_of s) (own_labels (got s r))) ≡ suc
    (length (view_of (thread_of s) (own_labels r))) = told (thread_of s) (own_labels r)
    (meeting (thread_of s) (thread_of r)) first in
    let n2 : length (view_of (thread_of s) (own_labels (got a b))) ≡ suc
    (length (view_of (thread_of s) (own_labels b))) = told (thread_of s) (own_labels b)
    (meeting (thread_of a) (thread_of b)) second in
    let m : view_of (thread_of s) (own_labels (got s r)) ≡ view_of (thread_of s) (own_labels (got a b)) =
    sym es ∙ ap₂ (λ n v. view_of n v) tr e ∙ eb ∙ ap (λ n. view_of n (own_labels (got a b))) (sym ts) in
    let ml : length (view_of (thread_of s) (own_labels (got s r))) ≡ length (view_of (thread_of s) (own_labels (got a b))) = ap length m in
    place_same (thread_of s) (own_labels r) (own_labels b) px.0 py.0 (meeting (thread_of s) (thread_of r)) (meeting (thread_of a) (thread_of b)) seen first second (omega (arith, n1, n2, ml))

partner_back : (w : List Label) (s r a b : Path) → HasPast (got s r) w → HasPast (got a b) w → AreEven s r → AreEven a b
    → thread_of s ≡ thread_of a → thread_of r ≡ thread_of b → own_labels (got s r) ≡ own_labels (got a b)
    → own_labels s ≡ own_labels a
partner_back w s r a b rx ry es eb ts tr e =
    let px : Begins (own_labels (sent s r)) (view_of (thread_of s) w) = rx (sent s r) (inl refl) in
    let py : Begins (own_labels (sent a b)) (view_of (thread_of a) w) = ry (sent a b) (inl refl) in
    let seen : own_labels s ++ (meeting (thread_of s) (thread_of r) ∷ px.0) ≡ own_labels a ++ (meeting (thread_of a) (thread_of b) ∷ py.0) =
    sym (append_assoc (own_labels s) (meeting (thread_of s) (thread_of r) ∷ []) px.0) ∙ sym px.1
    ∙ ap (λ n. view_of n w) ts ∙ py.1 ∙ append_assoc (own_labels a) (meeting (thread_of a) (thread_of b) ∷ []) py.0 in
    let first : touches (thread_of r) (meeting (thread_of s) (thread_of r)) ≡ true = touch_second (thread_of s) (thread_of r) in
    let second : touches (thread_of r) (meeting (thread_of a) (thread_of b)) ≡ true =
    subst (λ n. touches n (meeting (thread_of a) (thread_of b)) ≡ true) (sym tr)
    (touch_second (thread_of a) (thread_of b)) in
    let n1 : length (view_of (thread_of r) (own_labels (sent s r))) ≡ suc
    (length (view_of (thread_of r) (own_labels s))) = told (thread_of r) (own_labels s)
    (meeting (thread_of s) (thread_of r)) first in
    let n2 : length (view_of (thread_of r) (own_labels (sent a b))) ≡ suc
    (length (view_of (thread_of r) (own_labels a))) = told (thread_of r) (own_labels a)
    (meeting (thread_of a) (thread_of b)) second in
    let m : view_of (thread_of r) (own_labels (sent s r)) ≡ view_of (thread_of r) (own_labels (sent a b)) =
    es ∙ ap₂ (λ n v. view_of n v) ts e ∙ sym eb ∙ ap (λ n. view_of n (own_labels (sent a b))) (sym tr) in
    let ml : length (view_of (thread_of r) (own_labels (sent s r))) ≡ length (view_of (thread_of r) (own_labels (sent a b))) = ap length m in
    place_same (thread_of r) (own_labels s) (own_labels a) px.0 py.0 (meeting (thread_of s) (thread_of r)) (meeting (thread_of a) (thread_of b)) seen first second (omega (arith, n1, n2, ml))

-- two paths of one thread and one depth whose pasts one list of labels has are one path
pub unique : (w : List Label) (x y : Path) → IsSound x → IsSound y → HasEvenMeetings x → HasEvenMeetings y → HasPast x w → HasPast y w → thread_of x ≡ thread_of y → own_labels x ≡ own_labels y → x ≡ y
unique w (planted t) (planted u) sx sy kx ky rx ry e o = ap planted e
unique w (planted t) (branched q m) sx sy kx ky rx ry e o = absurd (omega (arith, ap length o, length-append (own_labels q) (choice (thread_of q) m ∷ [])))
unique w (planted t) (sent a b) sx sy kx ky rx ry e o = absurd (omega (arith, ap length o, length-append (own_labels a) (meeting (thread_of a) (thread_of b) ∷ [])))
unique w (planted t) (got a b) sx sy kx ky rx ry e o = absurd (omega (arith, ap length o, length-append (own_labels b) (meeting (thread_of a) (thread_of b) ∷ [])))
unique w (branched p l) (planted u) sx sy kx ky rx ry e o = absurd (omega (arith, ap length o, length-append (own_labels p) (choice (thread_of p) l ∷ [])))
unique w (branched p l) (branched q m) sx sy kx ky rx ry e o =
    let last : (own_labels p ≡ own_labels q) × (choice (thread_of p) l ≡ choice (thread_of q) m) = last_same (own_labels p) (own_labels q) (choice (thread_of p) l) (choice (thread_of q) m) o in
    let side : l ≡ m = let h : choice (thread_of p) l ≡ choice (thread_of q) m = last.1 in cc in
    ap₂ branched (unique w p q sx sy (λ s r h. kx s r (inr h)) (λ s r h. ky s r (inr h)) (λ z h. rx z (inr h)) (λ z h. ry z (inr h)) e last.0) side
unique w (branched p l) (sent a b) sx sy kx ky rx ry e o = let h : choice (thread_of p) l ≡ meeting (thread_of a)
    (thread_of b) = (last_same (own_labels p) (own_labels a) (choice (thread_of p) l)
    (meeting (thread_of a) (thread_of b)) o).1 in cc
unique w (branched p l) (got a b) sx sy kx ky rx ry e o = let h : choice (thread_of p) l ≡ meeting (thread_of a)
    (thread_of b) = (last_same (own_labels p) (own_labels b) (choice (thread_of p) l)
    (meeting (thread_of a) (thread_of b)) o).1 in cc
unique w (sent s r) (planted u) sx sy kx ky rx ry e o = absurd (omega (arith, ap length o, length-append (own_labels s) (meeting (thread_of s) (thread_of r) ∷ [])))
unique w (sent s r) (branched q m) sx sy kx ky rx ry e o = let h : meeting (thread_of s) (thread_of r) ≡ choice
    (thread_of q) m = (last_same (own_labels s) (own_labels q) (meeting (thread_of s) (thread_of r))
    (choice (thread_of q) m) o).1 in cc
unique w (sent s r) (sent a b) sx sy kx ky rx ry e o =
    let last : (own_labels s ≡ own_labels a) × (meeting (thread_of s) (thread_of r) ≡ meeting (thread_of a)
    (thread_of b)) = last_same (own_labels s) (own_labels a) (meeting (thread_of s) (thread_of r))
    (meeting (thread_of a) (thread_of b)) o in
    let tr : thread_of r ≡ thread_of b = let h : meeting (thread_of s) (thread_of r) ≡ meeting (thread_of a) (thread_of b) = last.1 in cc in
    let or : own_labels r ≡ own_labels b = partner w s r a b rx ry (kx s r (inl refl)) (ky a b (inl refl)) e tr o in
    ap₂ sent (unique w s a sx.0 sy.0 (λ i j h. kx i j (inr (inl h))) (λ i j h. ky i j (inr (inl h))) (λ z h. rx z (inr (inl h))) (λ z h. ry z (inr (inl h))) e last.0)
    (unique w r b sx.1 sy.1 (λ i j h. kx i j (inr (inr h))) (λ i j h. ky i j (inr (inr h))) (λ z h. rx z (inr (inr h))) (λ z h. ry z (inr (inr h))) tr or)
unique w (sent s r) (got a b) sx sy kx ky rx ry e o =
    let h : meeting (thread_of s) (thread_of r) ≡ meeting (thread_of a) (thread_of b) =
    (last_same (own_labels s) (own_labels b) (meeting (thread_of s) (thread_of r))
    (meeting (thread_of a) (thread_of b)) o).1 in
    let ts : thread_of s ≡ thread_of a = cc in
    absurd (sy.2.apart (sym ts ∙ e))
unique w (got s r) (planted u) sx sy kx ky rx ry e o = absurd (omega (arith, ap length o, length-append (own_labels r) (meeting (thread_of s) (thread_of r) ∷ [])))
unique w (got s r) (branched q m) sx sy kx ky rx ry e o = let h : meeting (thread_of s) (thread_of r) ≡ choice
    (thread_of q) m = (last_same (own_labels r) (own_labels q) (meeting (thread_of s) (thread_of r))
    (choice (thread_of q) m) o).1 in cc
unique w (got s r) (sent a b) sx sy kx ky rx ry e o =
    let h : meeting (thread_of s) (thread_of r) ≡ meeting (thread_of a) (thread_of b) =
    (last_same (own_labels r) (own_labels a) (meeting (thread_of s) (thread_of r))
    (meeting (thread_of a) (thread_of b)) o).1 in
    let ts : thread_of s ≡ thread_of a = cc in
    absurd (sx.2.apart (ts ∙ sym e))
unique w (got s r) (got a b) sx sy kx ky rx ry e o =
    let last : (own_labels r ≡ own_labels b) × (meeting (thread_of s) (thread_of r) ≡ meeting (thread_of a)
    (thread_of b)) = last_same (own_labels r) (own_labels b) (meeting (thread_of s) (thread_of r))
    (meeting (thread_of a) (thread_of b)) o in
    let ts : thread_of s ≡ thread_of a = let h : meeting (thread_of s) (thread_of r) ≡ meeting (thread_of a) (thread_of b) = last.1 in cc in
    let os : own_labels s ≡ own_labels a = partner_back w s r a b rx ry (kx s r (inl refl)) (ky a b (inl refl)) ts e o in
    ap₂ got (unique w s a sx.0 sy.0 (λ i j h. kx i j (inr (inl h))) (λ i j h. ky i j (inr (inl h))) (λ z h. rx z (inr (inl h))) (λ z h. ry z (inr (inl h))) ts os)
    (unique w r b sx.1 sy.1 (λ i j h. kx i j (inr (inr h))) (λ i j h. ky i j (inr (inr h))) (λ z h. rx z (inr (inr h))) (λ z h. ry z (inr (inr h))) e last.0)
