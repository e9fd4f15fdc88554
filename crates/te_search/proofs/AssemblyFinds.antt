-- In a store that covers every chain, assembly finds a group inside each set that commits.
use Rattle.std.proofs.Common.{◌≡◌, ◌⊎◌, inl, inr, ℕ, List, [], ◌∷◌, ◌++◌, Bool, true, false, cond, ◌&&◌, Option, Some, None, is_some, refl, ap, ap₂, sym, ◌∙◌, subst, nat_eq, eqb-true, append_assoc}
use Rattle.std.specs.Option.{option_and_then}
use Rattle.te_terms.specs.declared.event.Outcome.{Outcome}
use Rattle.te_terms.specs.Steps.{Member, quiet_step, outcome_of}
use Rattle.te_terms.specs.Joint.{Label, choice, meeting, Action, quiet, labelled, member_of, with_member, joint_step, after, labels, part}
use Rattle.te_terms.specs.Settling.{settled}
use Rattle.te_terms.proofs.Settles.{settled_already}
use Rattle.te_terms.proofs.OneThing.{end_is_alone}
use Rattle.te_trail.specs.Paths.{Path, planted, branched, sent, got, thread_of, own_labels, IsAbove, move_of, RestsOn}
use Rattle.te_trail.specs.Clocks.{clock_of, Agree}
use Rattle.te_trail.specs.States.{chosen, path_state}
use Rattle.te_trail.specs.Stores.{Holds, same_path}
use Rattle.te_trail.specs.Views.{touches, view_of}
use Rattle.te_trail.proofs.Lines.{above_trans}
use Rattle.te_trail.proofs.ClockLaws.{Agrees, agree_by, clock_self, clock_top, made_planted, made_branched, made_met}
use Rattle.te_terms.proofs.Lists.{eq_same, both}
use Rattle.te_trail.proofs.PastsChain.{pasts_true, above_own, same_true, same_self}
use Rattle.te_search.specs.Groups.{IsFinal}
use Rattle.te_search.specs.Searching.{Fails, wanting, AllFail}
use Rattle.te_search.proofs.StepsTaken.{Stepping, stepped_quietly, stepped_by_choice, Joining, stepped_by_meeting, steps_quietly, steps_by_choice, steps_by_meeting}
use Rattle.te_search.proofs.EveryChainCovered.{Full, Covers, covers}
use Rattle.te_search.proofs.ChainsSplit.{Uncrossed, part_at, part_put, class_of, class_uncrossed, side_of, side_uncrossed, side_labels}

-- ---- a side of the whole list that is tight
weave : (side s2 : ℕ → Bool) (w : List Label) → Uncrossed side w → Uncrossed s2 (side_labels side w) → Uncrossed (λ k. cond (side k) (s2 k) false) w
weave side s2 [] u v = tt
weave side s2 (choice i l ∷ w) u v = go (λ x. weave side s2 w u x) (side i) v
  where
    go : (Uncrossed s2 (side_labels side w) → Uncrossed (λ k. cond (side k) (s2 k) false) w) → (o : Bool)
        → Uncrossed s2 (cond o (choice i l ∷ side_labels side w) (side_labels side w)) → Uncrossed (λ k. cond (side k) (s2 k) false) w
    go ih true v = ih v
    go ih false v = ih v
weave side s2 (meeting i j ∷ w) u v = go (λ x. weave side s2 w u.1 x) (side i) refl v
  where
    go : (Uncrossed s2 (side_labels side w) → Uncrossed (λ k. cond (side k) (s2 k) false) w) → (o : Bool) → side i ≡ o
        → Uncrossed s2 (cond o (meeting i j ∷ side_labels side w) (side_labels side w)) → (cond (side i) (s2 i) false ≡ cond (side j) (s2 j) false) × Uncrossed
        (λ k. cond (side k) (s2 k) false) w
    go ih true e v = (let f : side j ≡ true = sym u.0 ∙ e in rw (e, f) v.0, ih v.1)
    go ih false e v = (let f : side j ≡ false = sym u.0 ∙ e in rw (e, f) refl, ih v)

-- no split of this side's labels has two parts
pub side_tight : (w : List Label) (t k : ℕ) → side_of w t k ≡ true → (s2 : ℕ → Bool) → Uncrossed s2 (side_labels (side_of w t) w) → s2 k ≡ s2 t
side_tight w t k e s2 u =
    let one : cond (side_of w t k) (s2 k) false ≡ cond (side_of w t t) (s2 t) false = class_uncrossed w k t (eqb-true (class_of w k) (class_of w t) e)
    (λ n. cond (side_of w t n) (s2 n) false) (weave (side_of w t) s2 w (side_uncrossed w t) u) in
    let self : side_of w t t ≡ true = eq_same (class_of w t) in
    sym (ap (λ o. cond o (s2 k) false) e) ∙ one ∙ ap (λ o. cond o (s2 t) false) self

-- ---- a chain of a part is a chain of the whole

pub part_get : (side : ℕ → Bool) (t : ℕ) (g : List Member) (e : Member) → member_of t (part side g) ≡ Some e → (side t ≡ true) × (member_of t g ≡ Some e)
part_get side t [] e h = cc
part_get side t (m ∷ ms) e h = go (part_get side t ms e) (side m.thread) refl h
  where
    go : (member_of t (part side ms) ≡ Some e → (side t ≡ true) × (member_of t ms ≡ Some e)) → (o : Bool) → side m.thread ≡ o
        → member_of t (cond o (m ∷ part side ms) (part side ms)) ≡ Some e → (side t ≡ true) × (cond (nat_eq m.thread t) (Some m) (member_of t ms) ≡ Some e)
    go ih true w h = on (nat_eq m.thread t) refl h
      where
        on : (o : Bool) → nat_eq m.thread t ≡ o → cond o (Some m) (member_of t (part side ms)) ≡ Some e → (side t ≡ true) × (cond o (Some m) (member_of t ms) ≡ Some e)
        on true f h = (ap side (sym (eqb-true m.thread t f)) ∙ w, h)
        on false f h = ih h
    go ih false w h = let a : (side t ≡ true) × (member_of t ms ≡ Some e) = ih h in on a (nat_eq m.thread t) refl
      where
        on : (side t ≡ true) × (member_of t ms ≡ Some e) → (o : Bool) → nat_eq m.thread t ≡ o → (side t ≡ true) × (cond o (Some m) (member_of t ms) ≡ Some e)
        on a true f = let one : side m.thread ≡ side t = ap side (eqb-true m.thread t f) in let s : side t ≡ true = a.0 in cc
        on a false f = a

-- what each step of a part says of the whole
pub record Up (side : ℕ → Bool) (actions : List Action) (g k : List Member) : Type 0 where
  pub end : List Member
  pub reached : after actions g ≡ Some end
  pub parts : part side end ≡ k
  pub members : (n : ℕ) → is_some (member_of n end) ≡ is_some (member_of n g)
  pub inside : (i j : ℕ) (u v : List Label) → labels actions ≡ u ++ (meeting i j ∷ v) → (side i ≡ true) × (side j ≡ true) × (is_some (member_of i g) ≡ true) × (is_some (member_of j g) ≡ true)

some_put : (k : ℕ) (u : Member) (g : List Member) → is_some (member_of k (with_member u g)) ≡ is_some (member_of k g)
some_put k u [] = refl
some_put k u (m ∷ ms) = go (some_put k u ms) (nat_eq m.thread u.thread) refl
  where
    go : is_some (member_of k (with_member u ms)) ≡ is_some (member_of k ms) → (o : Bool) → nat_eq m.thread u.thread ≡ o
        → is_some (member_of k (cond o (u ∷ ms) (m ∷ with_member u ms))) ≡ is_some (cond (nat_eq m.thread k) (Some m) (member_of k ms))
    go ih true w = ap (λ n. is_some (cond (nat_eq n k) (Some u) (member_of k ms))) (sym (eqb-true m.thread u.thread w)) ∙ on (nat_eq m.thread k)
      where
        on : (o : Bool) → is_some (cond o (Some u) (member_of k ms)) ≡ is_some (cond o (Some m) (member_of k ms))
        on true = refl
        on false = refl
    go ih false w = on (nat_eq m.thread k)
      where
        on : (o : Bool) → is_some (cond o (Some m) (member_of k (with_member u ms))) ≡ is_some (cond o (Some m) (member_of k ms))
        on true = refl
        on false = ih

no_label : (i j : ℕ) (u v : List Label) → [] ≡ u ++ (meeting i j ∷ v) → ⊥
no_label i j [] v e = cc
no_label i j (l ∷ u) v e = cc

-- one step of a part is one of the whole
record StepUp (side : ℕ → Bool) (a : Action) (g x : List Member) : Type 0 where
  whole : List Member
  steps : joint_step a g ≡ Some whole
  parts : part side whole ≡ x
  members : (k : ℕ) → is_some (member_of k whole) ≡ is_some (member_of k g)

up_quietly : (side : ℕ → Bool) (i : ℕ) (g x : List Member) → joint_step (quiet i) (part side g) ≡ Some x → StepUp side (quiet i) g x
up_quietly side i g x e =
    let a : Stepping quiet_step i (part side g) x = stepped_quietly i (part side g) x e in
    let b : (side i ≡ true) × (member_of i g ≡ Some a.before) = part_get side i g a.before a.at in
    record { whole = with_member a.next g; steps = steps_quietly i g a.before a.next b.1 a.steps; parts = part_put side a.next g (ap side a.thread ∙ b.0) ∙ a.is; members = λ k. some_put k a.next g }

up_by_choice : (side : ℕ → Bool) (i : ℕ) (l : Bool) (g x : List Member) → joint_step (labelled (choice i l)) (part side g) ≡ Some x → StepUp side (labelled (choice i l)) g x
up_by_choice side i l g x e =
    let a : Stepping (chosen l) i (part side g) x = stepped_by_choice i l (part side g) x e in
    let b : (side i ≡ true) × (member_of i g ≡ Some a.before) = part_get side i g a.before a.at in
    record {
      whole = with_member a.next g;
      steps = steps_by_choice i l g a.before a.next b.1 a.steps;
      parts = part_put side a.next g (ap side a.thread ∙ b.0)
          ∙ a.is;
      members = λ k. some_put k a.next g;
    }

pub up_chain : (side : ℕ → Bool) (actions : List Action) (g k : List Member) → after actions (part side g) ≡ Some k → Up side actions g k
up_chain side [] g k e = record { end = g; reached = refl; parts = cc; members = λ n. refl; inside = λ i j u v e. absurd (no_label i j u v e) }
up_chain side (quiet i ∷ rest) g k e = go (λ x f. up_chain side rest x k f) (joint_step (quiet i) (part side g)) refl e
  where
    go : ((x : List Member) → after rest (part side x) ≡ Some k → Up side rest x k) → (o : Option (List Member)) → joint_step (quiet i) (part side g) ≡ o
        → option_and_then (after rest) o ≡ Some k → Up side (quiet i ∷ rest) g k
    go ih None s e = cc
    go ih (Some x) s e =
        let a : StepUp side (quiet i) g x = up_quietly side i g x s in
        let r : Up side rest a.whole k = ih a.whole (subst (λ z. after rest z ≡ Some k) (sym a.parts) e) in
        record {
          end = r.end;
          reached = rw a.steps r.reached;
          parts = r.parts;
          members = λ n. r.members n
              ∙ a.members n;
          inside = λ i2 j u v e2. (let q : (side i2 ≡ true) × (side j ≡ true) × (is_some (member_of i2 a.whole) ≡ true) ×
              (is_some (member_of j a.whole) ≡ true) = r.inside i2 j u v e2 in (q.0, q.1, sym (a.members i2) ∙ q.2, sym (a.members j) ∙ q.3));
        }
up_chain side (labelled (choice i l) ∷ rest) g k e = go (λ x f. up_chain side rest x k f) (joint_step (labelled (choice i l)) (part side g)) refl e
  where
    later : (x : List Member) → ((k : ℕ) → is_some (member_of k x) ≡ is_some (member_of k g)) → Up side rest x k → (i2 j : ℕ) (u v : List Label)
        → choice i l ∷ labels rest ≡ u ++ (meeting i2 j ∷ v) → (side i2 ≡ true) × (side j ≡ true) × (is_some (member_of i2 g) ≡ true) × (is_some (member_of j g) ≡ true)
    later x h r i2 j [] v e2 = cc
    later x h r i2 j (m ∷ u) v e2 = let f : labels rest ≡ u ++ (meeting i2 j ∷ v) = cc in let q : (side i2 ≡ true) × (side j ≡ true) × (is_some (member_of i2 x) ≡ true) ×
        (is_some (member_of j x) ≡ true) = r.inside i2 j u v f in (q.0, q.1, sym (h i2) ∙ q.2, sym (h j) ∙ q.3)

    go : ((x : List Member) → after rest (part side x) ≡ Some k → Up side rest x k) → (o : Option (List Member)) → joint_step (labelled (choice i l)) (part side g) ≡ o
        → option_and_then (after rest) o ≡ Some k → Up side (labelled (choice i l) ∷ rest) g k
    go ih None s e = cc
    go ih (Some x) s e =
        let a : StepUp side (labelled (choice i l)) g x = up_by_choice side i l g x s in
        let r : Up side rest a.whole k = ih a.whole (subst (λ z. after rest z ≡ Some k) (sym a.parts) e) in
        record { end = r.end; reached = rw a.steps r.reached; parts = r.parts; members = λ n. r.members n ∙ a.members n; inside = later a.whole a.members r }
up_chain side (labelled (meeting i j) ∷ rest) g k e = go (λ x f. up_chain side rest x k f) (joint_step (labelled (meeting i j)) (part side g)) refl e
  where
    now : (x : List Member) → Joining i j (part side g) x → (side i ≡ true) × (side j ≡ true) × (is_some (member_of i g) ≡ true) × (is_some (member_of j g) ≡ true)
    now x a = let p : (side i ≡ true) × (member_of i g ≡ Some a.sender) = part_get side i g a.sender a.at_i in let q : (side j ≡ true) ×
        (member_of j g ≡ Some a.receiver) = part_get side j g a.receiver a.at_j in (p.0, q.0, ap is_some p.1, ap is_some q.1)

    later : (x : List Member) → ((k : ℕ) → is_some (member_of k x) ≡ is_some (member_of k g)) → Up side rest x k
        → (side i ≡ true) × (side j ≡ true) × (is_some (member_of i g) ≡ true) × (is_some (member_of j g) ≡ true) → (i2 j2 : ℕ) (u v : List Label)
        → meeting i j ∷ labels rest ≡ u ++ (meeting i2 j2 ∷ v) → (side i2 ≡ true) × (side j2 ≡ true) × (is_some (member_of i2 g) ≡ true) × (is_some (member_of j2 g) ≡ true)
    later x h r now i2 j2 [] v e2 = let a : i ≡ i2 = cc in let b : j ≡ j2 = cc in subst
        (λ n. (side n ≡ true) × (side j2 ≡ true) × (is_some (member_of n g) ≡ true) × (is_some (member_of j2 g) ≡ true)) a
        (subst (λ n. (side i ≡ true) × (side n ≡ true) × (is_some (member_of i g) ≡ true) × (is_some (member_of n g) ≡ true)) b now)
    later x h r now i2 j2 (m ∷ u) v e2 = let f : labels rest ≡ u ++ (meeting i2 j2 ∷ v) = cc in let q : (side i2 ≡ true) × (side j2 ≡ true) × (is_some (member_of i2 x) ≡ true) ×
        (is_some (member_of j2 x) ≡ true) = r.inside i2 j2 u v f in (q.0, q.1, sym (h i2) ∙ q.2, sym (h j2) ∙ q.3)

    go : ((x : List Member) → after rest (part side x) ≡ Some k → Up side rest x k) → (o : Option (List Member)) → joint_step (labelled (meeting i j)) (part side g) ≡ o
        → option_and_then (after rest) o ≡ Some k → Up side (labelled (meeting i j) ∷ rest) g k
    go ih None s e = cc
    go ih (Some x) s e =
        let a : Joining i j (part side g) x = stepped_by_meeting i j (part side g) x s in
        let p : (side i ≡ true) × (member_of i g ≡ Some a.sender) = part_get side i g a.sender a.at_i in
        let q : (side j ≡ true) × (member_of j g ≡ Some a.receiver) = part_get side j g a.receiver a.at_j in
        let whole : joint_step (labelled (meeting i j)) g ≡ Some
        (with_member a.ends.receiver (with_member a.ends.sender g)) = steps_by_meeting i j g a.sender a.receiver a.ends a.apart p.1 q.1 a.meet in
        let there : part side (with_member a.ends.receiver (with_member a.ends.sender g)) ≡ x = part_put side a.ends.receiver (with_member a.ends.sender g)
        (ap side a.receiver_thread ∙ q.0) ∙ ap (with_member a.ends.receiver) (part_put side a.ends.sender g (ap side a.sender_thread ∙ p.0)) ∙ a.is in
        let r : Up side rest (with_member a.ends.receiver (with_member a.ends.sender g)) k = ih (with_member a.ends.receiver (with_member a.ends.sender g))
        (subst (λ z. after rest z ≡ Some k) (sym there) e) in
        record {
          end = r.end;
          reached = rw whole r.reached;
          parts = r.parts;
          members = λ n. r.members n
              ∙ (some_put n a.ends.receiver (with_member a.ends.sender g) ∙ some_put n a.ends.sender g);
          inside = later (with_member a.ends.receiver (with_member a.ends.sender g))
              (λ n. some_put n a.ends.receiver (with_member a.ends.sender g) ∙ some_put n a.ends.sender g) r (now x a);
        }

-- ---- the past of a path stays on its side
pub past_side : (side : ℕ → Bool) (p : Path) → ((s r : Path) → RestsOn (sent s r) p → side (thread_of s) ≡ side (thread_of r)) → (x : Path) → RestsOn (move_of x) p
    → side (thread_of x) ≡ side (thread_of p)
past_side side (planted t) h x e = ap (λ q. side (thread_of q)) (made_planted x t e)
past_side side (branched p l) h x (inl e) = ap (λ q. side (thread_of q)) (made_branched x p l e)
past_side side (branched p l) h x (inr a) = past_side side p (λ s r k. h s r (inr k)) x a
past_side side (sent s r) h x (inl e) = elim (made_met x s r e) [ inl one ↦ ap (λ q. side (thread_of q)) one | inr one ↦ ap (λ q. side (thread_of q)) one ∙ sym (h s r (inl refl)) ]
past_side side (sent s r) h x (inr (inl a)) = past_side side s (λ i j k. h i j (inr (inl k))) x a
past_side side (sent s r) h x (inr (inr b)) = past_side side r (λ i j k. h i j (inr (inr k))) x b ∙ sym (h s r (inl refl))
past_side side (got s r) h x (inl e) = elim (made_met x s r e) [ inl one ↦ ap (λ q. side (thread_of q)) one ∙ h s r (inl refl) | inr one ↦ ap (λ q. side (thread_of q)) one ]
past_side side (got s r) h x (inr (inl a)) = past_side side s (λ i j k. h i j (inr (inl k))) x a ∙ h s r (inl refl)
past_side side (got s r) h x (inr (inr b)) = past_side side r (λ i j k. h i j (inr (inr k))) x b

-- a meeting in a view_of is in the labels
pub view_found : (t i j : ℕ) (w a c : List Label) → view_of t w ≡ a ++ (meeting i j ∷ c) → (u : List Label) × (v : List Label) × (w ≡ u ++ (meeting i j ∷ v))
view_found t i j [] a c e = absurd (no_label i j a c e)
view_found t i j (l ∷ w) a c e = go (λ a2 f. view_found t i j w a2 c f) (touches t l) a e
  where
    go : ((a2 : List Label) → view_of t w ≡ a2 ++ (meeting i j ∷ c) → (u : List Label) × (v : List Label) × (w ≡ u ++ (meeting i j ∷ v))) → (o : Bool) → (a : List Label)
        → cond o (l ∷ view_of t w) (view_of t w) ≡ a ++ (meeting i j ∷ c) → (u : List Label) × (v : List Label) × (l ∷ w ≡ u ++ (meeting i j ∷ v))
    go ih false a e = let r : (u : List Label) × (v : List Label) × (w ≡ u ++ (meeting i j ∷ v)) = ih a e in (l ∷ r.0, r.1, ap (λ x. l ∷ x) r.2)
    go ih true [] e = let one : l ≡ meeting i j = cc in ([], w, ap (λ x. x ∷ w) one)
    go ih true (b ∷ a) e = let more : view_of t w ≡ a ++ (meeting i j ∷ c) = cc in let r : (u : List Label) × (v : List Label) × (w ≡ u ++ (meeting i j ∷ v)) = ih a more in
        (l ∷ r.0, r.1, ap (λ x. l ∷ x) r.2)

uncrossed_at : (side : ℕ → Bool) (w : List Label) (i j : ℕ) (u v : List Label) → Uncrossed side w → w ≡ u ++ (meeting i j ∷ v) → side i ≡ side j
uncrossed_at side w i j u v h e = at u (subst (Uncrossed side) e h)
  where
    at : (u : List Label) → Uncrossed side (u ++ (meeting i j ∷ v)) → side i ≡ side j
    at [] h = h.0
    at (choice k l ∷ u) h = at u h
    at (meeting k m ∷ u) h = at u h.1

-- the members' paths rest only on meetings of the after
pub covers_side : (g : List Member) (store : List Path) (h : List Member) (w : List Label) (c : Covers g (Holds store) h w) (side : ℕ → Bool) → Uncrossed side w
    → (t : ℕ) (x : Path) → RestsOn (move_of x) (c.path t) → side (thread_of x) ≡ side t
covers_side g store h w c side u t x r = past_side side (c.path t) on_one_side x r ∙ ap side (c.threads t)
  where
    on_one_side : (s q : Path) → RestsOn (sent s q) (c.path t) → side (thread_of s) ≡ side (thread_of q)
    on_one_side s q k = go (clock_top (c.path t) (c.sounds t) (sent s q) k) (nat_eq t (thread_of s)) refl
      where
        found : IsAbove (sent s q) (c.path (thread_of s)) → side (thread_of s) ≡ side (thread_of q)
        found up =
            let b : (d : List Label) × (own_labels (c.path (thread_of s)) ≡ own_labels (sent s q) ++ d) = above_own (sent s q) (c.path (thread_of s)) up in
            let e : view_of (thread_of s) w ≡ own_labels s ++ (meeting (thread_of s) (thread_of q) ∷ b.0) = sym (c.told (thread_of s)) ∙ b.1
            ∙ append_assoc (own_labels s) (meeting (thread_of s) (thread_of q) ∷ []) b.0 in
            let f : (u : List Label) × (v : List Label) × (w ≡ u ++ (meeting (thread_of s) (thread_of q) ∷ v)) = view_found (thread_of s) (thread_of s) (thread_of q) w (own_labels s) b.0 e in
            uncrossed_at side w (thread_of s) (thread_of q) f.0 f.1 u f.2

        go : (d : Path) × (clock_of (c.path t) (thread_of s) ≡ Some d) × IsAbove (sent s q) d → (o : Bool) → nat_eq t (thread_of s) ≡ o → side (thread_of s) ≡ side (thread_of q)
        go (d, e, up) true n =
            let one : t ≡ thread_of s = eqb-true t (thread_of s) n in
            let self : clock_of (c.path t) (thread_of s) ≡ Some (c.path t) = subst (λ k. clock_of (c.path t) k ≡ Some (c.path t)) (c.threads t ∙ one) (clock_self (c.path t) (c.sounds t)) in
            let same : d ≡ c.path t = cc in
            found (subst (λ k. IsAbove (sent s q) (c.path k)) one (subst (λ z. IsAbove (sent s q) z) same up))
        go (d, e, up) false n =
            let ag : Agrees (c.path t) (c.path (thread_of s)) = c.agrees t (thread_of s) n in
            let at : clock_of (c.path t) (thread_of (c.path (thread_of s))) ≡ Some d = subst (λ k. clock_of (c.path t) k ≡ Some d) (sym (c.threads (thread_of s))) e in
            found (above_trans (sent s q) d (c.path (thread_of s)) up (ag.second d at))

-- ---- assembly

pub no_fail : (g : List Member) (store : List Path) (h : List Member) (w : List Label) (c : Covers g (Holds store) h w) (side : ℕ → Bool) → Uncrossed side w
    → (available : Path → Type 0) → ((k : ℕ) → side k ≡ true → available (c.path k))
    → (ps : List Path) → ((y : Path) → Holds ps y → (k : ℕ) × (side k ≡ true) × (y ≡ c.path k)) → Fails available ps → ⊥
no_fail g store h w c side u available there ps within (wanting ps2 t x tx hx free next) = no_fail g store h w c side u available there (c.path t ∷ ps) more
    (next (c.path t) (there t st) (c.threads t) agreeing)
  where
    on_side : (p : Path) × Holds ps p × RestsOn (move_of x) p → side t ≡ true
    on_side (p, hp, rp) = let k : (k : ℕ) × (side k ≡ true) × (p ≡ c.path k) = within p hp in ap side (sym tx)
        ∙ covers_side g store h w c side u k.0 x (subst (λ z. RestsOn (move_of x) z) k.2 rp) ∙ k.1

    st : side t ≡ true
    st = on_side (pasts_true ps (move_of x) hx)

    more : (y : Path) → Holds (c.path t ∷ ps) y → (k : ℕ) × (side k ≡ true) × (y ≡ c.path k)
    more y (inl e) = (t, st, e)
    more y (inr hy) = within y hy

    agreeing : (y : Path) → Holds ps y → Agree (c.path t) y
    agreeing y hy = on (within y hy)
      where
        on : (k : ℕ) × (side k ≡ true) × (y ≡ c.path k) → Agree (c.path t) y
        on (k, sk, e) = go (nat_eq t k) refl
          where
            go : (o : Bool) → nat_eq t k ≡ o → Agree (c.path t) y
            go true n = absurd (free y hy (ap thread_of e ∙ c.threads k ∙ sym (eqb-true t k n)))
            go false n = subst (λ z. Agree (c.path t) z) (sym e) (agree_by (c.path t) (c.path k) (c.agrees t k n))

-- ---- the last of the paths that pass a test

some_in : (test : Path → Bool) (xs : List Path) → ((x : Path) × Holds xs x × (test x ≡ true)) ⊎ ((y : Path) → Holds xs y → test y ≡ true → ⊥)
some_in test [] = inr (λ y h t. h)
some_in test (z ∷ xs) = go (test z) refl (some_in test xs)
  where
    go : (o : Bool) → test z ≡ o → ((x : Path) × Holds xs x × (test x ≡ true)) ⊎ ((y : Path) → Holds xs y → test y ≡ true → ⊥)
        → ((x : Path) × Holds (z ∷ xs) x × (test x ≡ true)) ⊎ ((y : Path) → Holds (z ∷ xs) y → test y ≡ true → ⊥)
    go true e r = inl (z, inl refl, e)
    go false e (inl (x, h, t)) = inl (x, inr h, t)
    go false e (inr none) = inr (λ y h t. elim h [ inl same ↦ absurd (clash y same t) | inr k ↦ none y k t ])
      where
        clash : (y : Path) → y ≡ z → test y ≡ true → ⊥
        clash y same t = let one : test y ≡ test z = ap test same in cc

pub record Last (test : Path → Bool) (xs : List Path) : Type 0 where
  pub front : List Path
  pub start : Path
  pub rest : List Path
  pub is : xs ≡ front ++ (start ∷ rest)
  pub passes : test start ≡ true
  pub none : (y : Path) → Holds rest y → test y ≡ true → ⊥

pub last_of : (test : Path → Bool) (xs : List Path) (x : Path) → Holds xs x → test x ≡ true → Last test xs
last_of test [] x h t = absurd h
last_of test (z ∷ xs) x h t = go (some_in test xs) (λ y k u. last_of test xs y k u) h
  where
    go : ((x : Path) × Holds xs x × (test x ≡ true)) ⊎ ((y : Path) → Holds xs y → test y ≡ true → ⊥) → ((y : Path) → Holds xs y → test y ≡ true → Last test xs)
        → (x ≡ z) ⊎ Holds xs x → Last test (z ∷ xs)
    go (inl (y, k, u)) ih h = let r : Last test xs = ih y k u in record { front = z ∷ r.front; start = r.start; rest = r.rest; is = ap (λ q. z ∷ q) r.is; passes = r.passes; none = r.none }
    go (inr none) ih (inl e) = record { front = []; start = z; rest = xs; is = refl; passes = subst (λ q. test q ≡ true) e t; none = none }
    go (inr none) ih (inr k) = absurd (none x k t)

pub has_split : (front rest : List Path) (start x : Path) → Holds (front ++ (start ∷ rest)) x → Holds (front ++ (start ∷ [])) x ⊎ Holds rest x
has_split [] rest start x (inl e) = inl (inl e)
has_split [] rest start x (inr h) = inr h
has_split (z ∷ front) rest start x (inl e) = inl (inl e)
has_split (z ∷ front) rest start x (inr h) = elim (has_split front rest start x h) [ inl k ↦ inl (inr k) | inr k ↦ inr k ]

-- ---- complete

-- a non-empty part reduces
pub record Commits (g : List Member) : Type 0 where
  pub side : ℕ → Bool
  pub actions : List Action
  pub end : List Member
  pub reached : after actions (part side g) ≡ Some end
  pub finals : (k : ℕ) (e : Member) → member_of k end ≡ Some e → (o : Outcome) × (outcome_of e.term ≡ Some o)
  pub member : ℕ
  pub event : Member
  pub is_member : member_of member (part side g) ≡ Some event

uncrossed_each : (side : ℕ → Bool) (w : List Label) → ((i j : ℕ) (u v : List Label) → w ≡ u ++ (meeting i j ∷ v) → side i ≡ side j) → Uncrossed side w
uncrossed_each side [] h = tt
uncrossed_each side (choice i l ∷ w) h = uncrossed_each side w (λ i2 j u v e. h i2 j (choice i l ∷ u) v (ap (λ r. choice i l ∷ r) e))
uncrossed_each side (meeting i j ∷ w) h = (h i j [] w refl, uncrossed_each side w (λ i2 j2 u v e. h i2 j2 (meeting i j ∷ u) v (ap (λ r. meeting i j ∷ r) e)))

there_is : (o : Option Member) → is_some o ≡ true → (e : Member) × (o ≡ Some e)
there_is None h = cc
there_is (Some e) h = (e, refl)

-- then nothing can commit
pub complete : (g : List Member) (store finals : List Path) → Full g (Holds store) → ((x : Path) → Holds store x → IsFinal g x → Holds finals x) → AllFail g finals → ¬ Commits g
complete g store finals full listed fails co =
    let up : Up co.side co.actions g co.end = up_chain co.side co.actions g co.end co.reached in
    let cov : Covers g (Holds store) up.end (labels co.actions) = covers g (Holds store) full co.actions up.end up.reached in
    core up cov (last_of (test cov.path) finals (cov.path co.member)
    (listed (cov.path co.member) (stand up cov co.member (side_self up)).0 (stand up cov co.member (side_self up)).1)
    (test_self up cov co.member (eq_same (class_of (labels co.actions) co.member))))
  where
    side : ℕ → Bool
    side = side_of (labels co.actions) co.member

    inner : ℕ → Bool
    inner k = co.side k && is_some (member_of k g)

    inner_all : Up co.side co.actions g co.end → Uncrossed inner (labels co.actions)
    inner_all up = uncrossed_each inner (labels co.actions)
        (λ i j u v e. (let q : (co.side i ≡ true) × (co.side j ≡ true) × (is_some (member_of i g) ≡ true) × (is_some (member_of j g) ≡ true) = up.inside i j u v e in ap₂
        (λ a b. a && b) q.0 q.2 ∙ sym (ap₂ (λ a b. a && b) q.1 q.3)))

    side_self : Up co.side co.actions g co.end → inner co.member ≡ true
    side_self up = let q : (co.side co.member ≡ true) × (member_of co.member g ≡ Some co.event) = part_get co.side co.member g co.event co.is_member in ap₂ (λ a b. a && b) q.0 (ap is_some q.1)

    inside : Up co.side co.actions g co.end → (k : ℕ) → side k ≡ true → inner k ≡ true
    inside up k e = class_uncrossed (labels co.actions) k co.member (eqb-true (class_of (labels co.actions) k) (class_of (labels co.actions) co.member) e) inner (inner_all up) ∙ side_self up

    stand : (up : Up co.side co.actions g co.end) (cov : Covers g (Holds store) up.end (labels co.actions)) (k : ℕ) → inner k ≡ true → Holds store (cov.path k) × IsFinal g (cov.path k)
    stand up cov k s =
        let q : (co.side k ≡ true) × (is_some (member_of k g) ≡ true) = both (co.side k) (is_some (member_of k g)) s in
        let e : (e : Member) × (member_of k up.end ≡ Some e) = there_is (member_of k up.end) (up.members k ∙ q.1) in
        let there : member_of k co.end ≡ Some e.0 = ap (member_of k) (sym up.parts) ∙ part_at co.side k up.end q.0 ∙ e.1 in
        let f : (o : Outcome) × (outcome_of e.0.term ≡ Some o) = co.finals k e.0 there in
        let st : Holds store (cov.path k) × (path_state g (cov.path k) ≡ Some (settled e.0)) = cov.stands k e.0 e.1 in
        (st.0, record { member = e.0; outcome = f.0; state = st.1 ∙ ap Some (settled_already e.0 (end_is_alone e.0 e.0.term f.0 f.1).0); ends = f.1 })

    test : (ℕ → Path) → Path → Bool
    test path x = side (thread_of x) && same_path x (path (thread_of x))

    test_self : (up : Up co.side co.actions g co.end) (cov : Covers g (Holds store) up.end (labels co.actions)) (k : ℕ) → side k ≡ true → test cov.path (cov.path k) ≡ true
    test_self up cov k s = ap₂ (λ a b. a && b) (ap side (cov.threads k) ∙ s) (ap (λ n. same_path (cov.path k) (cov.path n)) (cov.threads k) ∙ same_self (cov.path k))

    core : (up : Up co.side co.actions g co.end) (cov : Covers g (Holds store) up.end (labels co.actions)) → Last (test cov.path) finals → ⊥
    core up cov last =
        let p : (side (thread_of last.start) ≡ true) × (same_path last.start (cov.path (thread_of last.start)) ≡ true) = both (side (thread_of last.start))
        (same_path last.start (cov.path (thread_of last.start))) last.passes in
        let one : last.start ≡ cov.path (thread_of last.start) = same_true last.start (cov.path (thread_of last.start)) p.1 in
        no_fail g store up.end (labels co.actions) cov side (side_uncrossed (labels co.actions) co.member) (λ f. IsFinal g f × Holds (last.front ++ (last.start ∷ [])) f)
        (λ k s. ((stand up cov k (inside up k s)).1, early k s (listed (cov.path k) (stand up cov k (inside up k s)).0 (stand up cov k (inside up k s)).1)))
        (last.start ∷ []) (λ y h. elim h [ inl e ↦ (thread_of last.start, p.0, e ∙ one) | inr n ↦ absurd n ])
        (fails last.front last.start last.rest last.is)
      where
        early : (k : ℕ) → side k ≡ true → Holds finals (cov.path k) → Holds (last.front ++ (last.start ∷ [])) (cov.path k)
        early k s h = elim (has_split last.front last.rest last.start (cov.path k) (subst (λ q. Holds q (cov.path k)) last.is h)) [
          | inl a ↦ a
          | inr a ↦ absurd
              (last.none (cov.path k) a (test_self up cov k s))
        ]
