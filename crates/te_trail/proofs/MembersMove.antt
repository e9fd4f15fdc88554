-- How the members of a group move in a chain of joint steps.
use Rattle.std.proofs.Common.{◌≡◌, ℕ, List, [], ◌∷◌, ◌++◌, Bool, true, false, cond, Option, Some, None, refl, ap, ap₂, sym, ◌∙◌, subst, nat_eq, eqb-true, eq-eqb, append-nil}
use Rattle.std.specs.Option.{option_map, option_and_then}
use Rattle.te_terms.specs.declared.value.Atom.{Atom}
use Rattle.te_terms.specs.Terms.{Term}
use Rattle.te_terms.specs.Steps.{Member, at_term, giving, quiet_step, with_head}
use Rattle.te_terms.specs.Joint.{Label, choice, meeting, Action, quiet, labelled, Message, after_choice, sending}
use Rattle.te_terms.specs.Joint.{receiving, member_of, with_member, with_term, handed, meeting_of, joint_step, after}
use Rattle.te_terms.specs.Joint.{labels}
use Rattle.te_terms.specs.Settling.{Quietly, here, after_one, settled}
use Rattle.te_terms.proofs.Settles.{settled_is_reached, quietly_thread, settled_thread}
use Rattle.te_trail.specs.States.{chosen, MovedEnds, members_met_by, members_met}
use Rattle.te_trail.specs.Views.{Chain, touches, view_of}
use Rattle.te_trail.proofs.ClockLaws.{eq_apart}
use Rattle.te_terms.proofs.Lists.{eq_same, some_map}

-- ---- finding

pub found_thread : (t : ℕ) (g : List Member) (m : Member) → member_of t g ≡ Some m → m.thread ≡ t
found_thread t [] m e = cc
found_thread t (x ∷ g) m e = go (found_thread t g m) (nat_eq x.thread t) refl e
  where
    go : (member_of t g ≡ Some m → m.thread ≡ t) → (o : Bool) → nat_eq x.thread t ≡ o → cond o (Some x) (member_of t g) ≡ Some m → m.thread ≡ t
    go ih true w e = let one : x ≡ m = cc in ap (λ y. y.thread) (sym one) ∙ eqb-true x.thread t w
    go ih false w e = ih e

pub found_new : (n m : Member) (g : List Member) → member_of n.thread g ≡ Some m → member_of n.thread (with_member n g) ≡ Some n
found_new n m [] e = cc
found_new n m (x ∷ g) e = go (found_new n m g) (nat_eq x.thread n.thread) refl e
  where
    go : (member_of n.thread g ≡ Some m → member_of n.thread (with_member n g) ≡ Some n) → (o : Bool)
        → nat_eq x.thread n.thread ≡ o → cond o (Some x) (member_of n.thread g) ≡ Some m
        → member_of n.thread (cond o (n ∷ g) (x ∷ with_member n g)) ≡ Some n
    go ih true w e = rw (eq_same n.thread) refl
    go ih false w e = rw w (ih e)

pub found_other : (t : ℕ) (n : Member) (g : List Member) → nat_eq t n.thread ≡ false → member_of t (with_member n g) ≡ member_of t g
found_other t n [] ne = refl
found_other t n (x ∷ g) ne = go (found_other t n g ne) (nat_eq x.thread n.thread) refl
  where
    go : member_of t (with_member n g) ≡ member_of t g → (o : Bool) → nat_eq x.thread n.thread ≡ o
        → member_of t (cond o (n ∷ g) (x ∷ with_member n g)) ≡ cond (nat_eq x.thread t) (Some x) (member_of t g)
    go ih true w = let one : nat_eq n.thread t ≡ false = eq_apart t n.thread ne in let two : nat_eq x.thread t ≡ false =
        subst (λ k. nat_eq k t ≡ false) (sym (eqb-true x.thread n.thread w)) one in rw (one, two) refl
    go ih false w = ap (λ r. cond (nat_eq x.thread t) (Some x) r) ih

-- ---- chains

pub chain_append : (a b : List Action) (g h k : List Member) → after a g ≡ Some h → after b h ≡ Some k → after (a ++ b) g ≡ Some k
chain_append [] b g h k e f = let same : g ≡ h = cc in rw same f
chain_append (x ∷ a) b g h k e f = go (λ j w. chain_append a b j h k w f) (joint_step x g) e
  where
    go : ((j : List Member) → after a j ≡ Some h → after (a ++ b) j ≡ Some k) → (o : Option (List Member)) → option_and_then (after a) o ≡ Some h → option_and_then (after (a ++ b)) o ≡ Some k
    go ih None w = cc
    go ih (Some j) w = ih j w

pub labels_append : (a b : List Action) → labels (a ++ b) ≡ labels a ++ labels b
labels_append [] b = refl
labels_append (quiet i ∷ a) b = labels_append a b
labels_append (labelled l ∷ a) b = ap (λ r. l ∷ r) (labels_append a b)

pub view_append : (t : ℕ) (a b : List Label) → view_of t (a ++ b) ≡ view_of t a ++ view_of t b
view_append t [] b = refl
view_append t (l ∷ a) b = go (touches t l) (view_append t a b)
  where
    go : (o : Bool) → view_of t (a ++ b) ≡ view_of t a ++ view_of t b → cond o (l ∷ view_of t (a ++ b)) (view_of t (a ++ b)) ≡ cond o (l ∷ view_of t a) (view_of t a) ++ view_of t b
    go true ih = ap (λ r. l ∷ r) ih
    go false ih = ih

abbrev pub no_chain : (g : List Member) → Chain g []
no_chain g = record { actions = []; end = g; reaches = refl; labels_are = refl }

abbrev pub chain_on : (g : List Member) (v w : List Label) (a : Chain g v) → (b : Chain a.end w) → Chain g (v ++ w)
chain_on g v w a b = record {
  actions = a.actions ++ b.actions;
  end = b.end;
  reaches = chain_append a.actions b.actions g a.end b.end a.reaches b.reaches;
  labels_are = labels_append a.actions b.actions ∙ rw (a.labels_are, b.labels_are) refl;
}

-- one step
abbrev one_step : (g h : List Member) (a : Action) → joint_step a g ≡ Some h → Chain g (labels (a ∷ []))
one_step g h a step = record { actions = a ∷ []; end = h; reaches = rw step refl; labels_are = refl }

-- ---- one thread goes to this member and the others stay

pub record Moves (g : List Member) (w : List Label) (i : ℕ) (u : Member) : Type 0 where
  pub chain : Chain g w
  pub here : member_of i chain.end ≡ Some u
  pub others : (j : ℕ) → nat_eq j i ≡ false → member_of j chain.end ≡ member_of j g

pub quiets : (g : List Member) (i : ℕ) (m end : Member) → Quietly m end → member_of i g ≡ Some m → Moves g [] i end
quiets g i m end (here n) e = record { chain = no_chain g; here = e; others = λ j ne. refl }
quiets g i m end (after_one m2 n end2 q more) e =
    let at : n.thread ≡ i = quietly_thread m n (after_one m n n q (here n)) ∙ found_thread i g m e in
    let step : joint_step (quiet i) g ≡ Some (with_member n g) = rw (e, q) refl in
    let there : member_of i (with_member n g) ≡ Some n = subst (λ t. member_of t (with_member n g) ≡ Some n) at (found_new n m g (ap (λ t. member_of t g) at ∙ e)) in
    let rest : Moves (with_member n g) [] i end = quiets (with_member n g) i n end more there in
    record {
      chain = chain_on g [] [] (one_step g (with_member n g) (quiet i) step) rest.chain;
      here = rest.here;
      others = λ j ne. rest.others j ne ∙ found_other j n g (ap (nat_eq j) at ∙ ne);
    }

-- a member that is put in its thread's place settles there
pub settles_there : (g : List Member) (i : ℕ) (n : Member) → member_of i g ≡ Some n → Moves g [] i (settled n)
settles_there g i n e = quiets g i n (settled n) (settled_is_reached n) e

pub chooses : (g : List Member) (i : ℕ) (left : Bool) (m u : Member) → member_of i g ≡ Some m → chosen left m ≡ Some u → Moves g (choice i left ∷ []) i (settled u)
chooses g i left m u e c = go (some_map (at_term m) (after_choice left m.term) u c)
  where
    go : (t : Term) × (after_choice left m.term ≡ Some t) × (at_term m t ≡ u) → Moves g (choice i left ∷ []) i (settled u)
    go (t, ch, is) =
        let at : u.thread ≡ i = ap (λ n. n.thread) (sym is) ∙ found_thread i g m e in
        let step : joint_step (labelled (choice i left)) g ≡ Some (with_member u g) = rw (e, ch, is) refl in
        let there : member_of i (with_member u g) ≡ Some u = subst (λ k. member_of k (with_member u g) ≡ Some u) at (found_new u m g (ap (λ k. member_of k g) at ∙ e)) in
        let rest : Moves (with_member u g) [] i (settled u) = settles_there (with_member u g) i u there in
        record {
          chain = chain_on g (choice i left ∷ []) [] (one_step g (with_member u g) (labelled (choice i left)) step) rest.chain;
          here = rest.here;
          others = λ j ne. rest.others j ne ∙ found_other j u g (ap (nat_eq j) at ∙ ne);
        }

-- ---- two threads meet, and settle

pub record Meets (g : List Member) (i j : ℕ) (u v : Member) : Type 0 where
  pub chain : Chain g (meeting i j ∷ [])
  pub sender : member_of i chain.end ≡ Some u
  pub receiver : member_of j chain.end ≡ Some v
  pub others : (k : ℕ) → nat_eq k i ≡ false → nat_eq k j ≡ false → member_of k chain.end ≡ member_of k g

-- what the meeting leaves of both
pub record Handing (a b : Member) (ends : MovedEnds) : Type 0 where
  pub message : Message
  pub channel : ℕ
  pub sends : sending a.term ≡ Some message
  pub receives : receiving b.term ≡ Some channel
  pub same : nat_eq message.channel channel ≡ true
  pub sender : ends.sender ≡ at_term a (with_head (giving []) a.term)
  pub receiver : ends.receiver ≡ at_term b (with_head (giving message.value) b.term)

pub handing : (a b : Member) (ends : MovedEnds) → members_met a b ≡ Some ends → Handing a b ends
handing a b ends e = go (sending a.term) refl (receiving b.term) refl e
  where
    go : (o : Option Message) → sending a.term ≡ o → (v : Option ℕ) → receiving b.term ≡ v → members_met_by a b o v ≡ Some ends → Handing a b ends
    go None w v x e = cc
    go (Some m) w None x e = cc
    go (Some m) w (Some c) x e = fit (nat_eq m.channel c) refl e
      where
        fit : (o : Bool) → nat_eq m.channel c ≡ o → cond o (Some
            (record {
              sender = at_term a (with_head (giving []) a.term);
              receiver =
                  at_term b (with_head (giving m.value) b.term);
            })) None ≡ Some ends → Handing a b ends
        fit false s e = cc
        fit true s e =
            let is : record { sender = at_term a (with_head (giving []) a.term); receiver = at_term b (with_head (giving m.value) b.term) } ≡ ends = cc in
            record { message = m; channel = c; sends = w; receives = x; same = s; sender = ap (λ z. z.sender) (sym is); receiver = ap (λ z. z.receiver) (sym is) }

pub meets : (g : List Member) (i j : ℕ) (a b : Member) (ends : MovedEnds) → nat_eq i j ≡ false → member_of i g ≡ Some a
    → member_of j g ≡ Some b → members_met a b ≡ Some ends → Meets g i j (settled ends.sender) (settled ends.receiver)
meets g i j a b ends ne e f m =
    let h : Handing a b ends = handing a b ends m in
    let u : Member = ends.sender in
    let v : Member = ends.receiver in
    let ui : ends.sender.thread ≡ i = ap (λ n. n.thread) h.sender ∙ found_thread i g a e in
    let vj : ends.receiver.thread ≡ j = ap (λ n. n.thread) h.receiver ∙ found_thread j g b f in
    let step : joint_step (labelled (meeting i j)) g ≡ Some (with_member ends.receiver (with_member ends.sender g)) =
    rw (ne, e, f, h.sends, h.receives, h.same) refl ∙ ap₂ (λ x y. Some (with_member y (with_member x g)))
    (sym h.sender) (sym h.receiver) in
    let mid : member_of j (with_member ends.sender g) ≡ Some b = found_other j ends.sender g (ap (nat_eq j) ui ∙ eq_apart i j ne) ∙ f in
    let first : member_of i (with_member ends.sender g) ≡ Some ends.sender =
    subst (λ k. member_of k (with_member ends.sender g) ≡ Some ends.sender) ui
    (found_new ends.sender a g (ap (λ k. member_of k g) ui ∙ e)) in
    let there : member_of i (with_member ends.receiver (with_member ends.sender g)) ≡ Some ends.sender = found_other i ends.receiver (with_member ends.sender g) (ap (nat_eq i) vj ∙ ne) ∙ first in
    let one : Moves (with_member ends.receiver (with_member ends.sender g)) [] i (settled ends.sender) = settles_there (with_member ends.receiver (with_member ends.sender g)) i ends.sender there in
    let second : member_of j (with_member ends.receiver (with_member ends.sender g)) ≡ Some ends.receiver =
    subst (λ k. member_of k (with_member ends.receiver (with_member ends.sender g)) ≡ Some ends.receiver) vj
    (found_new ends.receiver b (with_member ends.sender g)
    (ap (λ k. member_of k (with_member ends.sender g)) vj ∙ mid)) in
    let now : member_of j one.chain.end ≡ Some ends.receiver = one.others j (eq_apart i j ne) ∙ second in
    let two : Moves one.chain.end [] j (settled ends.receiver) = settles_there one.chain.end j ends.receiver now in
    record {
      chain = chain_on g (meeting i j ∷ []) [] (one_step g (with_member ends.receiver (with_member ends.sender g))
          (labelled (meeting i j)) step) (chain_on (with_member ends.receiver (with_member ends.sender g)) [] [] one.chain
          two.chain);
      sender = two.others i ne ∙ one.here;
      receiver = two.here;
      others = λ k ni nj. two.others k nj ∙ one.others k ni ∙ found_other k ends.receiver (with_member ends.sender g) (ap (nat_eq k) vj ∙ nj) ∙ found_other k ends.sender g (ap (nat_eq k) ui ∙ ni);
    }
