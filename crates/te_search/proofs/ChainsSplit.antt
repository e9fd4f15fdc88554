-- A chain of joint steps splits along its meetings.
use Rattle.std.proofs.Common.{◌≡◌, ℕ, List, [], ◌∷◌, ◌++◌, Bool, true, false, cond, Option, Some, None, refl, ap, sym, ◌∙◌, subst, nat_eq, eqb-true}
use Rattle.std.specs.Option.{option_and_then}
use Rattle.te_terms.specs.Steps.{Member, quiet_step}
use Rattle.te_terms.specs.Joint.{Label, choice, meeting, Action, quiet, labelled, member_of, with_member, joint_step, after, labels, part}
use Rattle.te_trail.specs.States.{chosen}
use Rattle.te_terms.proofs.Lists.{eq_same}
use Rattle.te_search.proofs.StepsTaken.{Stepping, stepped_quietly, stepped_by_choice, Joining, stepped_by_meeting, steps_quietly, steps_by_choice, steps_by_meeting}

-- the thread of an action: of a meeting the sender's
abbrev pub actor : Action → ℕ
actor (quiet i) = i
actor (labelled (choice i l)) = i
actor (labelled (meeting i j)) = i

abbrev pub kept_to : (ℕ → Bool) → List Action → List Action
kept_to side [] = []
kept_to side (a ∷ rest) = cond (side (actor a)) (a ∷ kept_to side rest) (kept_to side rest)

-- no meeting goes across
abbrev pub Uncrossed : (ℕ → Bool) → List Label → Type 0
Uncrossed side [] = Unit {0}
Uncrossed side (choice i l ∷ rest) = Uncrossed side rest
Uncrossed side (meeting i j ∷ rest) = (side i ≡ side j) × Uncrossed side rest

pub part_at : (side : ℕ → Bool) (t : ℕ) (g : List Member) → side t ≡ true → member_of t (part side g) ≡ member_of t g
part_at side t [] e = refl
part_at side t (m ∷ ms) e = go (part_at side t ms e) (side m.thread) refl
  where
    go : member_of t (part side ms) ≡ member_of t ms → (o : Bool) → side m.thread ≡ o → member_of t (cond o (m ∷ part side ms) (part side ms)) ≡ cond (nat_eq m.thread t) (Some m) (member_of t ms)
    go ih true w = ap (λ r. cond (nat_eq m.thread t) (Some m) r) ih
    go ih false w = on (nat_eq m.thread t) refl
      where
        on : (u : Bool) → nat_eq m.thread t ≡ u → member_of t (part side ms) ≡ cond u (Some m) (member_of t ms)
        on false f = ih
        on true f = let one : side m.thread ≡ side t = ap side (eqb-true m.thread t f) in cc

pub part_put : (side : ℕ → Bool) (u : Member) (g : List Member) → side u.thread ≡ true → part side (with_member u g) ≡ with_member u (part side g)
part_put side u [] e = refl
part_put side u (m ∷ ms) e = go (part_put side u ms e) (nat_eq m.thread u.thread) refl (side m.thread) refl
  where
    go : part side (with_member u ms) ≡ with_member u (part side ms) → (o : Bool) → nat_eq m.thread u.thread ≡ o → (v : Bool) → side m.thread ≡ v
        → part side (cond o (u ∷ ms) (m ∷ with_member u ms)) ≡ with_member u (cond v (m ∷ part side ms) (part side ms))
    go ih true w true f = rw (w, e) refl
    go ih true w false f = let one : side m.thread ≡ side u.thread = ap side (eqb-true m.thread u.thread w) in cc
    go ih false w true f = rw (f, w) (ap (λ r. m ∷ r) ih)
    go ih false w false f = rw f ih

pub part_skip : (side : ℕ → Bool) (u : Member) (g : List Member) → side u.thread ≡ false → part side (with_member u g) ≡ part side g
part_skip side u [] e = refl
part_skip side u (m ∷ ms) e = go (part_skip side u ms e) (nat_eq m.thread u.thread) refl
  where
    go : part side (with_member u ms) ≡ part side ms → (o : Bool) → nat_eq m.thread u.thread ≡ o → part side (cond o (u ∷ ms) (m ∷ with_member u ms)) ≡ cond (side m.thread)
        (m ∷ part side ms) (part side ms)
    go ih true w = let one : side m.thread ≡ false = ap side (eqb-true m.thread u.thread w) ∙ e in rw (one, e) refl
    go ih false w = ap (λ r. cond (side m.thread) (m ∷ r) r) ih

-- one step of this side is a step of the part, and one of the other side leaves the part as it is
pub step_in : (side : ℕ → Bool) (a : Action) (g h : List Member) → side (actor a) ≡ true → ((i j : ℕ) → a ≡ labelled (meeting i j) → side i ≡ side j) → joint_step a g ≡ Some h
    → joint_step a (part side g) ≡ Some (part side h)
step_in side (quiet i) g h s m e =
    let a : Stepping quiet_step i g h = stepped_quietly i g h e in
    steps_quietly i (part side g) a.before a.next (part_at side i g s ∙ a.at) a.steps ∙ ap Some (sym (part_put side a.next g (ap side a.thread ∙ s)) ∙ ap (part side) a.is)
step_in side (labelled (choice i l)) g h s m e =
    let a : Stepping (chosen l) i g h = stepped_by_choice i l g h e in
    steps_by_choice i l (part side g) a.before a.next (part_at side i g s ∙ a.at) a.steps ∙ ap Some (sym (part_put side a.next g (ap side a.thread ∙ s)) ∙ ap (part side) a.is)
step_in side (labelled (meeting i j)) g h s m e =
    let a : Joining i j g h = stepped_by_meeting i j g h e in
    let sj : side j ≡ true = sym (m i j refl) ∙ s in
    steps_by_meeting i j (part side g) a.sender a.receiver a.ends a.apart (part_at side i g s ∙ a.at_i) (part_at side j g sj ∙ a.at_j) a.meet
    ∙ ap Some (ap (with_member a.ends.receiver) (sym (part_put side a.ends.sender g (ap side a.sender_thread ∙ s)))
    ∙ sym (part_put side a.ends.receiver (with_member a.ends.sender g) (ap side a.receiver_thread ∙ sj)) ∙ ap (part side) a.is)

pub step_out : (side : ℕ → Bool) (a : Action) (g h : List Member) → side (actor a) ≡ false → ((i j : ℕ) → a ≡ labelled (meeting i j) → side i ≡ side j) → joint_step a g ≡ Some h
    → part side g ≡ part side h
step_out side (quiet i) g h s m e =
    let a : Stepping quiet_step i g h = stepped_quietly i g h e in
    sym (part_skip side a.next g (ap side a.thread ∙ s)) ∙ ap (part side) a.is
step_out side (labelled (choice i l)) g h s m e =
    let a : Stepping (chosen l) i g h = stepped_by_choice i l g h e in
    sym (part_skip side a.next g (ap side a.thread ∙ s)) ∙ ap (part side) a.is
step_out side (labelled (meeting i j)) g h s m e =
    let a : Joining i j g h = stepped_by_meeting i j g h e in
    let sj : side j ≡ false = sym (m i j refl) ∙ s in
    sym (part_skip side a.ends.sender g (ap side a.sender_thread ∙ s)) ∙ sym (part_skip side a.ends.receiver (with_member a.ends.sender g) (ap side a.receiver_thread ∙ sj)) ∙ ap (part side) a.is

-- a chain, kept to one side, is a chain of that side's members
pub split_chain : (side : ℕ → Bool) (actions : List Action) (g h : List Member) → Uncrossed side (labels actions) → after actions g ≡ Some h
    → after (kept_to side actions) (part side g) ≡ Some (part side h)
split_chain side [] g h u e = let same : g ≡ h = cc in ap (λ x. Some (part side x)) same
split_chain side (a ∷ rest) g h u e = go (λ x f. split_chain side rest x h (later a u) f) (joint_step a g) refl e
  where
    later : (a : Action) → Uncrossed side (labels (a ∷ rest)) → Uncrossed side (labels rest)
    later (quiet i) u = u
    later (labelled (choice i l)) u = u
    later (labelled (meeting i j)) u = u.1

    on_side : (a : Action) → Uncrossed side (labels (a ∷ rest)) → (i j : ℕ) → a ≡ labelled (meeting i j) → side i ≡ side j
    on_side (quiet k) u i j e = cc
    on_side (labelled (choice k l)) u i j e = cc
    on_side (labelled (meeting k m)) u i j e = let e1 : k ≡ i = cc in let e2 : m ≡ j = cc in ap side (sym e1) ∙ u.0 ∙ ap side e2

    go : ((x : List Member) → after rest x ≡ Some h → after (kept_to side rest) (part side x) ≡ Some (part side h)) → (o : Option (List Member)) → joint_step a g ≡ o
        → option_and_then (after rest) o ≡ Some h → after (cond (side (actor a)) (a ∷ kept_to side rest) (kept_to side rest)) (part side g) ≡ Some (part side h)
    go ih None w f = cc
    go ih (Some x) w f = on (side (actor a)) refl
      where
        on : (o : Bool) → side (actor a) ≡ o → after (cond o (a ∷ kept_to side rest) (kept_to side rest)) (part side g) ≡ Some (part side h)
        on true s = let one : joint_step a (part side g) ≡ Some (part side x) = step_in side a g x s (on_side a u) w in rw one (ih x f)
        on false s = let one : part side g ≡ part side x = step_out side a g x s (on_side a u) w in ap (after (kept_to side rest)) one ∙ ih x f

-- ---- connected threads: the class of a thread after these meetings
abbrev pub class_of : List Label → ℕ → ℕ
class_of [] k = k
class_of (choice i l ∷ rest) k = class_of rest k
class_of (meeting i j ∷ rest) k = cond (nat_eq (class_of rest k) (class_of rest j)) (class_of rest i) (class_of rest k)

pub class_uncrossed : (w : List Label) (i j : ℕ) → class_of w i ≡ class_of w j → (side : ℕ → Bool) → Uncrossed side w → side i ≡ side j
class_uncrossed [] i j e side u = ap side e
class_uncrossed (choice k l ∷ rest) i j e side u = class_uncrossed rest i j e side u
class_uncrossed (meeting k m ∷ rest) i j e side u = go (λ x y f. class_uncrossed rest x y f side u.1) (nat_eq (class_of rest i) (class_of rest m)) refl
    (nat_eq (class_of rest j) (class_of rest m)) refl e
  where
    go : ((x y : ℕ) → class_of rest x ≡ class_of rest y → side x ≡ side y) → (o : Bool) → nat_eq (class_of rest i) (class_of rest m) ≡ o → (v : Bool)
        → nat_eq (class_of rest j) (class_of rest m) ≡ v → cond o (class_of rest k) (class_of rest i) ≡ cond v (class_of rest k) (class_of rest j) → side i ≡ side j
    go ih true w true f e = ih i m (eqb-true _ _ w) ∙ sym (ih j m (eqb-true _ _ f))
    go ih true w false f e = ih i m (eqb-true _ _ w) ∙ sym u.0 ∙ ih k j e
    go ih false w true f e = ih i k e ∙ u.0 ∙ sym (ih j m (eqb-true _ _ f))
    go ih false w false f e = ih i j e

class_keeps : (w : List Label) (k m i j : ℕ) → class_of w i ≡ class_of w j → class_of (meeting k m ∷ w) i ≡ class_of (meeting k m ∷ w) j
class_keeps w k m i j e = ap (λ c. cond (nat_eq c (class_of w m)) (class_of w k) c) e

class_meets : (w : List Label) (k m : ℕ) → class_of (meeting k m ∷ w) k ≡ class_of (meeting k m ∷ w) m
class_meets w k m = let z : nat_eq (class_of w m) (class_of w m) ≡ true = eq_same (class_of w m) in rw z (go (nat_eq (class_of w k) (class_of w m)))
  where
    go : (o : Bool) → cond o (class_of w k) (class_of w k) ≡ class_of w k
    go true = refl
    go false = refl

-- the side of a thread's class
abbrev pub side_of : List Label → ℕ → ℕ → Bool
side_of w t k = nat_eq (class_of w k) (class_of w t)

uncrossed_by : (c : ℕ → ℕ) (t : ℕ) (w : List Label) → ((i j : ℕ) (u v : List Label) → w ≡ u ++ (meeting i j ∷ v) → c i ≡ c j) → Uncrossed (λ k. nat_eq (c k) (c t)) w
uncrossed_by c t [] h = tt
uncrossed_by c t (choice i l ∷ w) h = uncrossed_by c t w (λ i2 j u v e. h i2 j (choice i l ∷ u) v (ap (λ r. choice i l ∷ r) e))
uncrossed_by c t (meeting i j ∷ w) h = (ap (λ n. nat_eq n (c t)) (h i j [] w refl), uncrossed_by c t w (λ i2 j2 u v e. h i2 j2 (meeting i j ∷ u) v (ap (λ r. meeting i j ∷ r) e)))

class_joins : (w : List Label) (i j : ℕ) (u v : List Label) → w ≡ u ++ (meeting i j ∷ v) → class_of w i ≡ class_of w j
class_joins w i j u v e = subst (λ x. class_of x i ≡ class_of x j) (sym e) (at u)
  where
    over : (l : Label) (x : List Label) → class_of x i ≡ class_of x j → class_of (l ∷ x) i ≡ class_of (l ∷ x) j
    over (choice k b) x h = h
    over (meeting k m) x h = class_keeps x k m i j h

    at : (u : List Label) → class_of (u ++ (meeting i j ∷ v)) i ≡ class_of (u ++ (meeting i j ∷ v)) j
    at [] = class_meets v i j
    at (l ∷ u) = over l (u ++ (meeting i j ∷ v)) (at u)

pub side_uncrossed : (w : List Label) (t : ℕ) → Uncrossed (side_of w t) w
side_uncrossed w t = uncrossed_by (class_of w) t w (class_joins w)

-- the labels of one side
abbrev pub side_labels : (ℕ → Bool) → List Label → List Label
side_labels side [] = []
side_labels side (choice i l ∷ rest) = cond (side i) (choice i l ∷ side_labels side rest) (side_labels side rest)
side_labels side (meeting i j ∷ rest) = cond (side i) (meeting i j ∷ side_labels side rest) (side_labels side rest)

pub labels_kept : (side : ℕ → Bool) (actions : List Action) → labels (kept_to side actions) ≡ side_labels side (labels actions)
labels_kept side [] = refl
labels_kept side (quiet i ∷ rest) = go (labels_kept side rest) (side i)
  where
    go : labels (kept_to side rest) ≡ side_labels side (labels rest) → (o : Bool) → labels (cond o (quiet i ∷ kept_to side rest) (kept_to side rest)) ≡ side_labels side (labels rest)
    go ih true = ih
    go ih false = ih
labels_kept side (labelled (choice i l) ∷ rest) = go (labels_kept side rest) (side i)
  where
    go : labels (kept_to side rest) ≡ side_labels side (labels rest) → (o : Bool) → labels (cond o (labelled (choice i l) ∷ kept_to side rest) (kept_to side rest)) ≡ cond o
        (choice i l ∷ side_labels side (labels rest)) (side_labels side (labels rest))
    go ih true = ap (λ r. choice i l ∷ r) ih
    go ih false = ih
labels_kept side (labelled (meeting i j) ∷ rest) = go (labels_kept side rest) (side i)
  where
    go : labels (kept_to side rest) ≡ side_labels side (labels rest) → (o : Bool) → labels (cond o (labelled (meeting i j) ∷ kept_to side rest) (kept_to side rest)) ≡ cond o
        (meeting i j ∷ side_labels side (labels rest)) (side_labels side (labels rest))
    go ih true = ap (λ r. meeting i j ∷ r) ih
    go ih false = ih
