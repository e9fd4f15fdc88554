-- agree is exact, and the views of a path's past name it.
use Rattle.std.proofs.Common.{◌≡◌, ◌⊎◌, ◌≤◌, ◌<◌, inl, inr, ℕ, zero, suc, ◌+◌, List, [], ◌∷◌, ◌++◌, length, Bool, true}
use Rattle.std.proofs.Common.{false, cond, ltb, ◌||◌, ◌&&◌, Option, Some, None, option_map, IsTrue, refl, ap, ap₂, sym}
use Rattle.std.proofs.Common.{◌∙◌, subst, arith, rules, nat_eq, le_refl, le_of_lt, eq-or-lt_of_le, eqb-true, eq-eqb}
use Rattle.std.proofs.Common.{ltb-true, ltb-false, append_assoc, append-nil, length-append, true≢false}
use Rattle.std.specs.Option.{option_and_then}
use Rattle.te_terms.specs.Steps.{Member}
use Rattle.te_terms.specs.Settling.{settled}
use Rattle.te_terms.specs.Joint.{Label, choice, meeting, labels, member_of}
use Rattle.te_trail.specs.Paths.{Path, planted, branched, sent, got, thread_of, depth_of, own_labels, IsAbove, OnOneLine, move_of, RestsOn}
use Rattle.te_trail.specs.Clocks.{deeper, clock_of, Passes, Agree, IsSound}
use Rattle.te_trail.specs.States.{chosen, members_met, MovedEnds, path_state, HasState}
use Rattle.te_trail.specs.Stores.{Holds, IsNext, with_move, with_moves, AreMade, IsStore, labels_of_move, labels_of, same_side, same_path, rests_on, any_rests_on, trail_of, joint_trail}
use Rattle.te_trail.specs.Views.{Chain, touches, view_of, Begins, HasPast, LeavesAt, ChainOfBoth}
use Rattle.te_trail.proofs.Lines.{above_self, above_depth, above_thread, above_trans, above_same, above_both}
use Rattle.te_trail.proofs.Lines.{above_line, line_flip, line_depth, ancestor, rests_move, rests_trans, above_rests}
use Rattle.te_trail.proofs.Lines.{rests_made}
use Rattle.te_trail.proofs.ClockLaws.{eq_apart, differ, deeper_left, deeper_right, deeper_either, clock_thread}
use Rattle.te_trail.proofs.ClockLaws.{clock_in, clock_self, Agrees, agrees_by, agree_by, made_planted, made_branched}
use Rattle.te_trail.proofs.ClockLaws.{made_met, clock_top, past_line, agree_line}
use Rattle.te_terms.proofs.Lists.{eq_same, some_map}
use Rattle.te_trail.proofs.MembersMove.{found_thread, found_new, found_other, chain_append, labels_append, view_append}
use Rattle.te_trail.proofs.MembersMove.{no_chain, chain_on, Moves, quiets, settles_there, chooses, Meets, Handing}
use Rattle.te_trail.proofs.MembersMove.{handing, meets}
use Rattle.te_trail.proofs.MovesChain.{Together, stands_at, owned_by, PlaceAt, AreClosed, AllPlaced, state_branched}
use Rattle.te_trail.proofs.MovesChain.{state_after, state_met, view_choice, view_choice_other, view_sender}
use Rattle.te_trail.proofs.MovesChain.{view_receiver, view_other, Goes_on, shut_grow, runs, shut_grown, store_shut}
use Rattle.te_trail.proofs.MovesChain.{runs_all}
use Rattle.te_trail.proofs.PastsChain.{same_true, same_self, rests_true, true_rests, pasts_true, true_pasts, then_some}
use Rattle.te_trail.proofs.PastsChain.{parts_of, fits_past, sound_past, Agreeing, team_line, joined, grown_has}
use Rattle.te_trail.proofs.PastsChain.{above_own, PastsAre, one_chain, team_low}
use Rattle.te_trail.proofs.OwnMoves.{own_depth, prefix_same, view_view, AreEven, HasEvenMeetings, unique}

-- one path alone
one_team : (g : List Member) (p : Path) → IsSound p → HasState g p → Agreeing g (p ∷ [])
one_team g p h f = record {
  sounds = λ x a. subst IsSound (sym (only x a)) h;
  states = λ x a. subst (λ q. HasState g q) (sym (only x a)) f;
  agrees = λ x y a b. inl (only x a ∙ sym (only y b));
}
  where
    only : (x : Path) → Holds (p ∷ []) x → x ≡ p
    only x (inl e) = e
    only x (inr n) = absurd (n)

pub agree_flip : (p q : Path) → Agrees p q → Agrees q p
agree_flip p q a = record {
  apart = eq_apart (thread_of p) (thread_of q) a.apart;
  lines = λ t x y e f. line_flip y x (a.lines t y x f e);
  first = λ b e. a.second b e;
  second = λ b e. a.first b e;
}

two_team : (g : List Member) (p q : Path) → IsSound p → IsSound q → HasState g p → HasState g q → Agrees p q → Agreeing g (p ∷ q ∷ [])
two_team g p q hp hq fp fq a = record {
  sounds = λ x h. elim (which x h) [ inl e ↦ subst IsSound (sym e) hp | inr e ↦ subst IsSound (sym e) hq ];
  states = λ x h. elim (which x h) [ inl e ↦ subst (λ z. HasState g z) (sym e) fp | inr e ↦ subst (λ z. HasState g z) (sym e) fq ];
  agrees = λ x y h k. pair x y (which x h) (which y k);
}
  where
    which : (x : Path) → Holds (p ∷ q ∷ []) x → (x ≡ p) ⊎ (x ≡ q)
    which x (inl e) = inl e
    which x (inr (inl e)) = inr e
    which x (inr (inr n)) = absurd (n)

    pair : (x y : Path) → (x ≡ p) ⊎ (x ≡ q) → (y ≡ p) ⊎ (y ≡ q) → (x ≡ y) ⊎ Agrees x y
    pair x y (inl e) (inl f) = inl (e ∙ sym f)
    pair x y (inl e) (inr f) = inr (subst (λ z. Agrees z y) (sym e) (subst (λ z. Agrees p z) (sym f) a))
    pair x y (inr e) (inl f) = inr (subst (λ z. Agrees z y) (sym e) (subst (λ z. Agrees q z) (sym f) (agree_flip p q a)))
    pair x y (inr e) (inr f) = inl (e ∙ sym f)

pub alone : (g : List Member) (store : List Path) (p : Path) → AreMade [] store → IsSound p → HasState g p → Holds (with_moves [] store) (move_of p) → PastsAre g store (p ∷ [])
alone g store p made h f there = one_chain g store (p ∷ []) made (one_team g p h f) (λ x a. elim a [ inl e ↦ subst (λ z. Holds (with_moves [] store) (move_of z)) (sym e) there | inr n ↦ absurd (n) ])

trail_alone : (store : List Path) (p : Path) → labels_of (any_rests_on (p ∷ [])) store ≡ trail_of store p
trail_alone [] p = refl
trail_alone (x ∷ store) p = ap₂ (λ o r. cond o (labels_of_move x) [] ++ r) (no_more (rests_on p x)) (trail_alone store p)
  where
    no_more : (o : Bool) → o || false ≡ o
    no_more true = refl
    no_more false = refl

-- the two ends of a meeting of the store have told of as many meetings with each other
even_in : (g : List Member) (store : List Path) → AreMade [] store → (s r : Path) → IsSound (sent s r) → HasState g (sent s r) → Holds (with_moves [] store) (sent s r) → AreEven s r
even_in g store made s r h f there =
    let c : PastsAre g store (sent s r ∷ []) = alone g store (sent s r) made h f there in
    let w : List Label = labels_of (any_rests_on (sent s r ∷ [])) store in
    let hold : any_rests_on (sent s r ∷ []) (sent s r) ≡ true = true_pasts (sent s r ∷ []) (sent s r) (sent s r) (inl refl) (inl refl) in
    let a : view_of (thread_of s) w ≡ own_labels (sent s r) = (c.leaves (sent s r) hold (λ z hz tz. low (sent s r) (clock_self (sent s r) h) z hz tz)).1 in
    let b : view_of (thread_of r) w ≡ own_labels (got s r) = (c.leaves (got s r) hold (λ z hz tz. low (got s r) (clock_self (got s r) h) z hz tz)).1 in
    ap (view_of (thread_of r)) (sym a) ∙ view_view (thread_of r) (thread_of s) w ∙ ap (view_of (thread_of s)) b
  where
    low : (x : Path) → clock_of (sent s r) (thread_of x) ≡ Some x → (z : Path) → any_rests_on (sent s r ∷ []) (move_of z) ≡ true → thread_of z ≡ thread_of x → IsAbove z x
    low x k z hz tz = on (pasts_true (sent s r ∷ []) (move_of z) hz)
      where
        on : (q : Path) × Holds (sent s r ∷ []) q × RestsOn (move_of z) q → IsAbove z x
        on (q, inr n, rq) = absurd (n)
        on (q, inl e, rq) = fin (clock_top (sent s r) h z (subst (λ y. RestsOn (move_of z) y) e rq))
          where
            fin : (c : Path) × (clock_of (sent s r) (thread_of z) ≡ Some c) × IsAbove z c → IsAbove z x
            fin (c, i, up) = let at : clock_of (sent s r) (thread_of x) ≡ Some c = subst (λ n. clock_of (sent s r) n ≡ Some c) tz i in let one : c ≡ x = cc in subst (λ y. IsAbove z y) one up

pub known_in : (g : List Member) (store : List Path) → AreMade [] store → (x : Path) → IsSound x → HasState g x → Holds (with_moves [] store) (move_of x) → HasEvenMeetings x
known_in g store made x h f there s r k = even_in g store made s r (sound_past x (sent s r) h k)
    (fits_past g x (sent s r) f k) (store_shut store made (move_of x) (sent s r) there (rests_made (sent s r) x k))

-- the trail of a path has its past
pub trail_has_past : (g : List Member) (store : List Path) (p : Path) → AreMade [] store → IsSound p → HasState g p → Holds (with_moves [] store) (move_of p) → HasPast p (trail_of store p)
trail_has_past g store p made h f there z k =
    let c : PastsAre g store (p ∷ []) = alone g store p made h f there in
    subst (λ w. Begins (own_labels z) (view_of (thread_of z) w)) (trail_alone store p) (c.within z (true_pasts (p ∷ []) p (move_of z) (inl refl) k))

-- a path's own moves are its thread's view of its trail
pub own_trail : (g : List Member) (store : List Path) (p : Path) → AreMade [] store → IsSound p → HasState g p
    → Holds (with_moves [] store) (move_of p) → view_of (thread_of p) (trail_of store p) ≡ own_labels p
own_trail g store p made h f there =
    let c : PastsAre g store (p ∷ []) = alone g store p made h f there in
    ap (view_of (thread_of p)) (sym (trail_alone store p)) ∙ (c.leaves p
    (true_pasts (p ∷ []) p (move_of p) (inl refl) (rests_move p))
    (λ z hz tz. team_low g (p ∷ []) (one_team g p h f) p (inl refl) z hz tz)).1

-- agreeing paths have one chain
pub agree_together : (g : List Member) (store : List Path) → IsStore g store → (p q : Path) → Holds store p → Holds store q → Agrees p q → ChainOfBoth g p q
agree_together g store good p q hp hq a =
    let team : Agreeing g (p ∷ q ∷ []) = two_team g p q (good.sound p hp) (good.sound q hq) (good.state p hp) (good.state q hq) a in
    let tp : Holds (with_moves [] store) (move_of p) = grown_has store [] p good.made hp in
    let tq : Holds (with_moves [] store) (move_of q) = grown_has store [] q good.made hq in
    let c : PastsAre g store (p ∷ q ∷ []) = one_chain g store (p ∷ q ∷ []) good.made team
    (λ x h. elim h [
      | inl e ↦ subst (λ z. Holds (with_moves [] store) (move_of z)) (sym e) tp
      | inr k ↦
          elim k [ inl e ↦ subst (λ z. Holds (with_moves [] store) (move_of z)) (sym e) tq | inr n ↦ absurd n ]
    ]) in
    let lp : (member_of (thread_of p) c.chain.end ≡ path_state g p)
    × (view_of (thread_of p) (joint_trail store (p ∷ q ∷ [])) ≡ own_labels p) =
    c.leaves p (true_pasts (p ∷ q ∷ []) p (move_of p) (inl refl) (rests_move p))
    (λ z hz tz. team_low g (p ∷ q ∷ []) team p (inl refl) z hz tz) in
    let lq : (member_of (thread_of q) c.chain.end ≡ path_state g q)
    × (view_of (thread_of q) (joint_trail store (p ∷ q ∷ [])) ≡ own_labels q) =
    c.leaves q (true_pasts (p ∷ q ∷ []) q (move_of q) (inr (inl refl)) (rests_move q))
    (λ z hz tz. team_low g (p ∷ q ∷ []) team q (inr (inl refl)) z hz tz) in
    record {
      word = joint_trail store (p ∷ q ∷ []);
      chain = c.chain;
      past_first = λ z k. c.within z (true_pasts (p ∷ q ∷ []) p (move_of z) (inl refl) k);
      past_second = λ z k. c.within z (true_pasts (p ∷ q ∷ []) q (move_of z) (inr (inl refl)) k);
      leaves_first = record { moves = lp.1; member = lp.0 };
      leaves_second = record { moves = lq.1; member = lq.0 };
    }

-- of two paths of one thread in a chain's pasts, the one that is no deeper is above
pub near : (w : List Label) (a b : Path) → IsSound a → IsSound b → HasEvenMeetings a → HasEvenMeetings b → HasPast a w → HasPast b w → thread_of a ≡ thread_of b → depth_of a ≤ depth_of b → IsAbove a b
near w a b ha hb ka kb ra rb e d =
    let x : (x : Path) × IsAbove x b × (depth_of x ≡ depth_of a) = ancestor b (depth_of a) d in
    let tx : thread_of x.0 ≡ thread_of b = above_thread x.0 b x.1 in
    let rx : HasPast x.0 w = λ z k. rb z (above_rests x.0 b (move_of z) x.1 k) in
    let sx : IsSound x.0 = sound_above x.0 b x.1 hb in
    let kx : HasEvenMeetings x.0 = λ s r k. kb s r (above_rests x.0 b (sent s r) x.1 k) in
    let oa : Begins (own_labels a) (view_of (thread_of a) w) = ra a (rests_move a) in
    let ox : Begins (own_labels x.0) (view_of (thread_of x.0) w) = rx x.0 (rests_move x.0) in
    let same : own_labels x.0 ≡ own_labels a = prefix_same (own_labels x.0) (own_labels a) (view_of (thread_of a) w)
    (subst (λ n. Begins (own_labels x.0) (view_of n w)) (tx ∙ sym e) ox) oa
    (own_depth x.0 ∙ x.2 ∙ sym (own_depth a)) in
    let one : x.0 ≡ a = unique w x.0 a sx ha kx ka rx ra (tx ∙ sym e) same in
    subst (λ q. IsAbove q b) one x.1
  where
    sound_above : (x y : Path) → IsAbove x y → IsSound y → IsSound x
    sound_above x (planted t) e h = subst IsSound (sym e) h
    sound_above x (branched p l) (inl e) h = subst IsSound (sym e) h
    sound_above x (branched p l) (inr k) h = sound_above x p k h
    sound_above x (sent s r) (inl e) h = subst IsSound (sym e) h
    sound_above x (sent s r) (inr k) h = sound_above x s k h.0
    sound_above x (got s r) (inl e) h = subst IsSound (sym e) h
    sound_above x (got s r) (inr k) h = sound_above x r k h.1

made_sound : (c : Path) → IsSound (move_of c) → IsSound c
made_sound (planted t) h = h
made_sound (branched p l) h = h
made_sound (sent s r) h = h
made_sound (got s r) h = h

either_way : (m n : ℕ) → (m ≤ n) ⊎ (n ≤ m)
either_way m n = go (ltb m n) refl
  where
    go : (o : Bool) → ltb m n ≡ o → (m ≤ n) ⊎ (n ≤ m)
    go true e = inl (le_of_lt (ltb-true m n e))
    go false e = inr (ltb-false m n e)

-- what a clock names
clocked : (w : List Label) (p c : Path) (t : ℕ) → IsSound p → HasEvenMeetings p → HasPast p w → clock_of p t ≡ Some c → IsSound c × HasEvenMeetings c × HasPast c w × (thread_of c ≡ t)
clocked w p c t h k r e = (
  made_sound c (sound_past p (move_of c) h (clock_in p t c (move_of c) e (rests_move c))),
  (λ s q x. k s q (clock_in p t c (sent s q) e x)),
  (λ z x. r z (clock_in p t c (move_of z) e x)),
  clock_thread p t c e,
)

pub share : (w : List Label) (p q : Path) → IsSound p → IsSound q → HasEvenMeetings p → HasEvenMeetings q → HasPast p w
    → HasPast q w → nat_eq (thread_of p) (thread_of q) ≡ false → view_of (thread_of p) w ≡ own_labels p
    → view_of (thread_of q) w ≡ own_labels q → Agrees p q
share w p q hp hq kp kq rp rq ne vp vq = record {
  apart = ne;
  lines = λ t a b e f. line a b (clocked w p a t hp kp rp e) (clocked w q b t hq kq rq f);
  first = λ b e. low p b hp kp rp vp (clocked w q b (thread_of p) hq kq rq e);
  second = λ a e. low q a hq kq rq vq (clocked w p a (thread_of q) hp kp rp e);
}
  where
    line : {t : ℕ} (a b : Path) → IsSound a × HasEvenMeetings a × HasPast a w × (thread_of a ≡ t) → IsSound b × HasEvenMeetings b × HasPast b w × (thread_of b ≡ t) → OnOneLine a b
    line a b (sa, ka, ra, ta) (sb, kb, rb, tb) = elim (either_way (depth_of a) (depth_of b)) [
      | inl d ↦ inl (near w a b sa sb ka kb ra rb (ta ∙ sym tb) d)
      | inr d ↦
          inr (near w b a sb sa kb ka rb ra (tb ∙ sym ta) d)
    ]

    low : (x c : Path) → IsSound x → HasEvenMeetings x → HasPast x w → view_of (thread_of x) w ≡ own_labels x → IsSound c × HasEvenMeetings c × HasPast c w × (thread_of c ≡ thread_of x) → IsAbove c x
    low x c sx kx rx vx (sc, kc, rc, tc) =
        let pc : Begins (own_labels c) (view_of (thread_of c) w) = rc c (rests_move c) in
        let whole : own_labels x ≡ own_labels c ++ pc.0 = sym vx ∙ ap (λ n. view_of n w) (sym tc) ∙ pc.1 in
        let size : depth_of x ≡ depth_of c + length pc.0 = sym (own_depth x) ∙ ap length whole ∙ length-append (own_labels c) pc.0 ∙ ap (λ n. n + length pc.0) (own_depth c) in
        near w c x sc sx kc kx rc rx tc (omega (arith, size))

-- paths that one chain has together agree
pub together_agree : (g : List Member) (store : List Path) → IsStore g store → (p q : Path) → Holds store p
    → Holds store q → nat_eq (thread_of p) (thread_of q) ≡ false → ChainOfBoth g p q → Agrees p q
together_agree g store good p q hp hq ne to =
    let tp : Holds (with_moves [] store) (move_of p) = grown_has store [] p good.made hp in
    let tq : Holds (with_moves [] store) (move_of q) = grown_has store [] q good.made hq in
    let sp : IsSound p = good.sound p hp in
    let sq : IsSound q = good.sound q hq in
    let fp : HasState g p = good.state p hp in
    let fq : HasState g q = good.state q hq in
    share to.word p q sp sq (known_in g store good.made p sp fp tp) (known_in g store good.made q sq fq tq) to.past_first to.past_second ne to.leaves_first.moves to.leaves_second.moves

-- no two paths of a store have one name: a member and the view_of of a past
pub names_apart : (g : List Member) (store : List Path) → IsStore g store → (p q : Path) → Holds store p → Holds store q
    → thread_of p ≡ thread_of q → ((t : ℕ) → view_of t (trail_of store p) ≡ view_of t (trail_of store q)) → p ≡ q
names_apart g store good p q hp hq e same =
    let tp : Holds (with_moves [] store) (move_of p) = grown_has store [] p good.made hp in
    let tq : Holds (with_moves [] store) (move_of q) = grown_has store [] q good.made hq in
    let sp : IsSound p = good.sound p hp in
    let sq : IsSound q = good.sound q hq in
    let fp : HasState g p = good.state p hp in
    let fq : HasState g q = good.state q hq in
    let past : HasPast q (trail_of store q) = trail_has_past g store q good.made sq fq tq in
    unique (trail_of store p) p q sp sq (known_in g store good.made p sp fp tp) (known_in g store good.made q sq fq tq)
    (trail_has_past g store p good.made sp fp tp)
    (λ z k. subst (Begins (own_labels z)) (sym (same (thread_of z))) (past z k)) e
    (sym (own_trail g store p good.made sp fp tp) ∙ same (thread_of p) ∙ ap (λ n. view_of n (trail_of store q)) e ∙ own_trail g store q good.made sq fq tq)

-- a path's trail is a chain that leaves its thread at its state
pub path_played : (g : List Member) (store : List Path) → IsStore g store → (p : Path) → Holds store p → (chain : Chain g (trail_of store p)) × (member_of (thread_of p) chain.end ≡ path_state g p)
path_played g store good p hp =
    let there : Holds (with_moves [] store) (move_of p) = grown_has store [] p good.made hp in
    let c : PastsAre g store (p ∷ []) = alone g store p good.made (good.sound p hp) (good.state p hp) there in
    let left : (member_of (thread_of p) c.chain.end ≡ path_state g p)
    × (view_of (thread_of p) (joint_trail store (p ∷ [])) ≡ own_labels p) =
    c.leaves p (true_pasts (p ∷ []) p (move_of p) (inl refl) (rests_move p))
    (λ z hz tz. team_low g (p ∷ []) (one_team g p (good.sound p hp) (good.state p hp)) p (inl refl) z hz tz) in
    (record { actions = c.chain.actions; end = c.chain.end; reaches = c.chain.reaches; labels_are = c.chain.labels_are ∙ trail_alone store p }, left.0)
