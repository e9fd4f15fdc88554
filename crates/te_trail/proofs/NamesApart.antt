-- Pasts together, and the names of paths.
use Rattle.std.proofs.Common.{◌≡◌, ◌⊎◌, inl, inr, ℕ, zero, suc, List, [], ◌∷◌, ◌++◌, map, Bool, true, false, cond, ◌||◌, Option, Some, None, refl, ap, ap₂, sym, ◌∙◌, subst, nat_eq, eqb-true, eq-eqb}
use Rattle.std.specs.Option.{option_map, option_and_then}
use Rattle.te_terms.specs.Terms.{Term}
use Rattle.te_terms.specs.Steps.{Member, quiet_step, at_term, giving, with_head}
use Rattle.te_terms.specs.Joint.{Label, choice, meeting, Action, quiet, labelled, member_of, with_member, joint_step}
use Rattle.te_terms.specs.Joint.{after, labels, after_choice, with_term, meeting_of, handed, Message, sending}
use Rattle.te_terms.specs.Joint.{receiving}
use Rattle.te_trail.specs.Paths.{Path, thread_of, own_labels, IsAbove, move_of, RestsOn}
use Rattle.te_trail.specs.Clocks.{clock_of, Agree, IsSound}
use Rattle.te_trail.specs.States.{path_state, HasState}
use Rattle.te_trail.specs.Stores.{Holds, with_moves, AreMade, IsStore, trail_of, joint_trail, any_rests_on}
use Rattle.te_trail.specs.Views.{Chain, touches, view_of, HasPast, LeavesAt, Name, path_name_of, IsPathName}
use Rattle.te_trail.specs.Together.{ChainOfAll, AllAgree, AreAmong, NamesDeepest}
use Rattle.te_trail.proofs.Lines.{rests_move}
use Rattle.te_trail.proofs.ClockLaws.{Agrees, agrees_by, clock_thread, clock_in, clock_top}
use Rattle.te_terms.proofs.Lists.{eq_same, some_map}
use Rattle.te_trail.proofs.PastsChain.{then_some, Agreeing, PastsAre, one_chain, true_pasts, grown_has, team_low}
use Rattle.te_trail.proofs.OwnMoves.{unique}
use Rattle.te_trail.proofs.AgreeIsExact.{known_in, names_apart, path_played}

pub pasts_together : (g : List Member) (paths ps : List Path) → IsStore g paths → AreAmong ps paths → AllAgree ps → ChainOfAll g (joint_trail paths ps) ps
pasts_together g paths ps store among agree = record {
  chain = c.chain;
  leaves = λ p h. left p h;
  pasts = λ p h z k. c.within z (true_pasts ps p (move_of z) h k);
}
  where
    agrees : (p q : Path) → Holds ps p → Holds ps q → (p ≡ q) ⊎ Agree p q → (p ≡ q) ⊎ Agrees p q
    agrees p q hp hq (inl e) = inl e
    agrees p q hp hq (inr a) = inr (agrees_by p q (store.sound p (among p hp)) (store.sound q (among q hq)) a)

    team : Agreeing g ps
    team = record { sounds = λ x h. store.sound x (among x h); states = λ x h. store.state x (among x h); agrees = λ x y hx hy. agrees x y hx hy (agree x y hx hy) }

    c : PastsAre g paths ps
    c = one_chain g paths ps store.made team (λ x h. grown_has paths [] x store.made (among x h))

    left : (p : Path) → Holds ps p → LeavesAt g (joint_trail paths ps) c.chain.end p
    left p h =
        let l : (member_of (thread_of p) c.chain.end ≡ path_state g p)
        × (view_of (thread_of p) (joint_trail paths ps) ≡ own_labels p) =
        c.leaves p (true_pasts ps p (move_of p) h (rests_move p)) (λ z hz tz. team_low g ps team p h z hz tz) in
        record { moves = l.1; member = l.0 }

pub names_deepest : (p : Path) → IsSound p → NamesDeepest p
names_deepest p h = record {
  in_past = λ t c e. (clock_thread p t c e, clock_in p t c (move_of c) e (rests_move c));
  deepest = λ x r. clock_top p h x r;
}

-- ---- names

pub known_by_own : (g : List Member) (paths : List Path) (p q : Path) (word : List Label) → IsStore g paths
    → Holds paths p → Holds paths q → HasPast p word → HasPast q word → thread_of p ≡ thread_of q
    → own_labels p ≡ own_labels q → p ≡ q
known_by_own g paths p q word store hp hq pp pq t o =
    unique word p q (store.sound p hp) (store.sound q hq)
    (known_in g paths store.made p (store.sound p hp) (store.state p hp) (grown_has paths [] p store.made hp))
    (known_in g paths store.made q (store.sound q hq) (store.state q hq) (grown_has paths [] q store.made hq)) pp pq t o

pub has_name : (g : List Member) (paths : List Path) (p : Path) (m : Member) → IsStore g paths → Holds paths p
    → member_of (thread_of p) g ≡ Some m → IsPathName g (path_name_of g (thread_of p) (trail_of paths p))
has_name g paths p m store hp e = record { word = trail_of paths p; chain = (path_played g paths store p hp).0; member = m; is_member = e; views = refl }

-- who has no member takes no step

absent_with : (t : ℕ) (n : Member) (g : List Member) → member_of t g ≡ None → member_of t (with_member n g) ≡ None
absent_with t n [] e = refl
absent_with t n (x ∷ g) e = go (absent_with t n g) (nat_eq x.thread t) refl (nat_eq x.thread n.thread) refl e
  where
    go : (member_of t g ≡ None → member_of t (with_member n g) ≡ None) → (o : Bool) → nat_eq x.thread t ≡ o → (v : Bool)
        → nat_eq x.thread n.thread ≡ v → cond o (Some x) (member_of t g) ≡ None
        → member_of t (cond v (n ∷ g) (x ∷ with_member n g)) ≡ None
    go ih true w v u e = cc
    go ih false w true u e = let same : nat_eq n.thread t ≡ false = subst (λ k. nat_eq k t ≡ false) (eqb-true x.thread n.thread u) w in rw same e
    go ih false w false u e = rw w (ih e)

step_absent : (t : ℕ) (a : Action) (g h : List Member) → joint_step a g ≡ Some h → member_of t g ≡ None → member_of t h ≡ None
step_absent t (quiet i) g h e none =
    let a : (n : Member) × (option_and_then quiet_step (member_of i g) ≡ Some n) × (with_member n g ≡ h) = some_map (λ m. with_member m g) (option_and_then quiet_step (member_of i g)) h e in
    subst (λ x. member_of t x ≡ None) a.2 (absent_with t a.0 g none)
step_absent t (labelled (choice i left)) g h e none =
    let a : (m : Member) × (member_of i g ≡ Some m) × (option_map (with_term g m) (after_choice left m.term) ≡ Some h) =
    then_some (λ m. option_map (with_term g m) (after_choice left m.term)) (member_of i g) h e in
    let b : (u : Term) × (after_choice left a.0.term ≡ Some u) × (with_term g a.0 u ≡ h) = some_map (with_term g a.0) (after_choice left a.0.term) h a.2 in
    subst (λ x. member_of t x ≡ None) b.2 (absent_with t (at_term a.0 b.0) g none)
step_absent t (labelled (meeting i j)) g h e none = go (nat_eq i j) e
  where
    both : (a b : Member) (sent : Message) (c : ℕ) (o : Bool)
        → cond o (Some (with_term (with_term g a (with_head (giving []) a.term)) b
        (with_head (giving sent.value) b.term))) None ≡ Some h → member_of t h ≡ None
    both a b sent c false f = cc
    both a b sent c true f =
        let is : with_term (with_term g a (with_head (giving []) a.term)) b (with_head (giving sent.value) b.term) ≡ h = cc in
        subst (λ x. member_of t x ≡ None) is (absent_with t (at_term b (with_head (giving sent.value) b.term))
        (with_term g a (with_head (giving []) a.term)) (absent_with t
        (at_term a (with_head (giving []) a.term)) g none))

    go : (o : Bool) → cond o None (option_and_then (λ a. option_and_then (meeting_of g a) (member_of j g)) (member_of i g)) ≡ Some h → member_of t h ≡ None
    go true f = cc
    go false f =
        let a : (m : Member) × (member_of i g ≡ Some m) × (option_and_then (meeting_of g m) (member_of j g) ≡ Some h) =
        then_some (λ a. option_and_then (meeting_of g a) (member_of j g)) (member_of i g) h f in
        let b : (m : Member) × (member_of j g ≡ Some m) × (meeting_of g a.0 m ≡ Some h) = then_some (meeting_of g a.0) (member_of j g) h a.2 in
        let c : (s : Message) × (sending a.0.term ≡ Some s) × (option_and_then (handed g a.0 b.0 s)
        (receiving b.0.term) ≡ Some h) = then_some (λ s.
        option_and_then (handed g a.0 b.0 s) (receiving b.0.term)) (sending a.0.term) h b.2 in
        let d : (k : ℕ) × (receiving b.0.term ≡ Some k) × (handed g a.0 b.0 c.0 k ≡ Some h) = then_some (handed g a.0 b.0 c.0) (receiving b.0.term) h c.2 in
        both a.0 b.0 c.0 d.0 (nat_eq c.0.channel d.0) d.2

apart_from : (g : List Member) (i t : ℕ) (m : Member) → member_of i g ≡ Some m → member_of t g ≡ None → nat_eq i t ≡ false
apart_from g i t m e none = go (nat_eq i t) refl
  where
    go : (o : Bool) → nat_eq i t ≡ o → o ≡ false
    go false w = refl
    go true w = let same : member_of t g ≡ Some m = subst (λ k. member_of k g ≡ Some m) (eqb-true i t w) e in cc

not_touched : (t : ℕ) (l : Label) (g h : List Member) → joint_step (labelled l) g ≡ Some h → member_of t g ≡ None → touches t l ≡ false
not_touched t (choice i left) g h e none =
    let a : (m : Member) × (member_of i g ≡ Some m) × (option_map (with_term g m) (after_choice left m.term) ≡ Some h) =
    then_some (λ m. option_map (with_term g m) (after_choice left m.term)) (member_of i g) h e in
    apart_from g i t a.0 a.1 none
not_touched t (meeting i j) g h e none = go (nat_eq i j) e
  where
    go : (o : Bool) → cond o None (option_and_then (λ a. option_and_then (meeting_of g a) (member_of j g)) (member_of i g)) ≡ Some h → nat_eq i t || nat_eq j t ≡ false
    go true f = cc
    go false f =
        let a : (m : Member) × (member_of i g ≡ Some m) × (option_and_then (meeting_of g m) (member_of j g) ≡ Some h) =
        then_some (λ a. option_and_then (meeting_of g a) (member_of j g)) (member_of i g) h f in
        let b : (m : Member) × (member_of j g ≡ Some m) × (meeting_of g a.0 m ≡ Some h) = then_some (meeting_of g a.0) (member_of j g) h a.2 in
        ap₂ (λ x y. x || y) (apart_from g i t a.0 a.1 none) (apart_from g j t b.0 b.1 none)

no_moves : (t : ℕ) (actions : List Action) (g h : List Member) → after actions g ≡ Some h → member_of t g ≡ None → view_of t (labels actions) ≡ []
no_moves t [] g h e none = refl
no_moves t (quiet i ∷ rest) g h e none = go (λ x f n. no_moves t rest x h f n) (joint_step (quiet i) g) refl e
  where
    go : ((x : List Member) → after rest x ≡ Some h → member_of t x ≡ None → view_of t (labels rest) ≡ [])
        → (o : Option (List Member)) → joint_step (quiet i) g ≡ o → option_and_then (after rest) o ≡ Some h
        → view_of t (labels rest) ≡ []
    go ih None w f = cc
    go ih (Some x) w f = ih x f (step_absent t (quiet i) g x w none)
no_moves t (labelled l ∷ rest) g h e none = go (λ x f n. no_moves t rest x h f n) (joint_step (labelled l) g) refl e
  where
    go : ((x : List Member) → after rest x ≡ Some h → member_of t x ≡ None → view_of t (labels rest) ≡ [])
        → (o : Option (List Member)) → joint_step (labelled l) g ≡ o → option_and_then (after rest) o ≡ Some h
        → view_of t (l ∷ labels rest) ≡ []
    go ih None w f = cc
    go ih (Some x) w f = ap (λ o. cond o (l ∷ view_of t (labels rest)) (view_of t (labels rest))) (not_touched t l g x w none) ∙ ih x f (step_absent t (labelled l) g x w none)

no_view : (t : ℕ) (g : List Member) (word : List Label) → Chain g word → member_of t g ≡ None → view_of t word ≡ []
no_view t g word chain none = ap (view_of t) (sym chain.labels_are) ∙ no_moves t chain.actions g chain.end chain.reaches none

same_view : (v w : List Label) (g : List Member) → map (λ m. view_of m.thread v) g ≡ map (λ m. view_of m.thread w) g → (t : ℕ) (m : Member) → member_of t g ≡ Some m → view_of t v ≡ view_of t w
same_view v w [] e t m f = cc
same_view v w (x ∷ g) e t m f = go (same_view v w g rest t m) first (nat_eq x.thread t) refl f
  where
    first : view_of x.thread v ≡ view_of x.thread w
    first = cc

    rest : map (λ m. view_of m.thread v) g ≡ map (λ m. view_of m.thread w) g
    rest = cc

    go : (member_of t g ≡ Some m → view_of t v ≡ view_of t w) → view_of x.thread v ≡ view_of x.thread w → (o : Bool)
        → nat_eq x.thread t ≡ o → cond o (Some x) (member_of t g) ≡ Some m → view_of t v ≡ view_of t w
    go ih here true u f = subst (λ k. view_of k v ≡ view_of k w) (eqb-true x.thread t u) here
    go ih here false u f = ih f

pub apart_by_name : (g : List Member) (paths : List Path) (p q : Path) → IsStore g paths → Holds paths p → Holds paths q
    → path_name_of g (thread_of p) (trail_of paths p) ≡ path_name_of g (thread_of q) (trail_of paths q) → p ≡ q
apart_by_name g paths p q store hp hq e = names_apart g paths store p q hp hq (ap (λ n. n.thread) e) (λ t. views t (member_of t g) refl)
  where
    views : (t : ℕ) (o : Option Member) → member_of t g ≡ o → view_of t (trail_of paths p) ≡ view_of t (trail_of paths q)
    views t None f = no_view t g (trail_of paths p) (path_played g paths store p hp).0 f ∙ sym (no_view t g (trail_of paths q) (path_played g paths store q hq).0 f)
    views t (Some m) f = same_view (trail_of paths p) (trail_of paths q) g (ap (λ n. n.views) e) t m f
