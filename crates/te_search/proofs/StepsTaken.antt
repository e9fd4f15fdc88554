-- What one joint step of a group does, by the members of threads.
use Rattle.std.proofs.Common.{◌≡◌, ℕ, List, [], Bool, true, false, cond, Option, Some, None, refl, ap, ap₂, sym, ◌∙◌, nat_eq}
use Rattle.std.specs.Option.{option_map, option_and_then}
use Rattle.te_terms.specs.Terms.{Term}
use Rattle.te_terms.specs.Steps.{Member, at_term, giving, quiet_step, with_head}
use Rattle.te_terms.specs.Joint.{choice, meeting, quiet, labelled, Message, after_choice, sending, receiving, member_of, with_member, with_term, handed, meeting_of, joint_step}
use Rattle.te_terms.specs.Settling.{here, after_one}
use Rattle.te_terms.proofs.Settles.{quietly_thread}
use Rattle.te_trail.specs.States.{chosen, MovedEnds, members_met}
use Rattle.te_terms.proofs.Lists.{some_map}
use Rattle.te_trail.proofs.PastsChain.{then_some}
use Rattle.te_trail.proofs.MembersMove.{Handing, handing, found_thread}

-- a quiet step or a choice of a thread
pub record Stepping (f : Member → Option Member) (i : ℕ) (h k : List Member) : Type 0 where
  pub before : Member
  pub next : Member
  pub at : member_of i h ≡ Some before
  pub steps : f before ≡ Some next
  pub thread : next.thread ≡ i
  pub is : with_member next h ≡ k

pub stepped_quietly : (i : ℕ) (h k : List Member) → joint_step (quiet i) h ≡ Some k → Stepping quiet_step i h k
stepped_quietly i h k e =
    let a : (n : Member) × (option_and_then quiet_step (member_of i h) ≡ Some n) × (with_member n h ≡ k) = some_map (λ m. with_member m h) (option_and_then quiet_step (member_of i h)) k e in
    let b : (m : Member) × (member_of i h ≡ Some m) × (quiet_step m ≡ Some a.0) = then_some quiet_step (member_of i h) a.0 a.1 in
    record {
      before = b.0;
      next = a.0;
      at = b.1;
      steps = b.2;
      thread = quietly_thread b.0 a.0 (after_one b.0 a.0 a.0 b.2 (here a.0)) ∙ found_thread i h b.0 b.1;
      is = a.2;
    }

pub stepped_by_choice : (i : ℕ) (left : Bool) (h k : List Member) → joint_step (labelled (choice i left)) h ≡ Some k → Stepping (chosen left) i h k
stepped_by_choice i left h k e =
    let b : (m : Member) × (member_of i h ≡ Some m) × (option_map (with_term h m) (after_choice left m.term) ≡ Some k) = then_some
    (λ m. option_map (with_term h m) (after_choice left m.term)) (member_of i h) k e in
    let a : (t : Term) × (after_choice left b.0.term ≡ Some t) × (with_term h b.0 t ≡ k) = some_map (with_term h b.0) (after_choice left b.0.term) k b.2 in
    record {
      before = b.0;
      next = at_term b.0 a.0;
      at = b.1;
      steps = ap (option_map (at_term b.0)) a.1;
      thread = found_thread i h b.0 b.1;
      is = a.2;
    }

-- a meeting of two threads
pub record Joining (i j : ℕ) (h k : List Member) : Type 0 where
  pub sender : Member
  pub receiver : Member
  pub ends : MovedEnds
  pub apart : nat_eq i j ≡ false
  pub at_i : member_of i h ≡ Some sender
  pub at_j : member_of j h ≡ Some receiver
  pub meet : members_met sender receiver ≡ Some ends
  pub sender_thread : ends.sender.thread ≡ i
  pub receiver_thread : ends.receiver.thread ≡ j
  pub is : with_member ends.receiver (with_member ends.sender h) ≡ k

joined_by : (i j : ℕ) (h k : List Member) (s r : Member) → nat_eq i j ≡ false → member_of i h ≡ Some s → member_of j h ≡ Some r → meeting_of h s r ≡ Some k → Joining i j h k
joined_by i j h k s r ne ei ej e =
    let a : (m : Message) × (sending s.term ≡ Some m) × (option_and_then (handed h s r m) (receiving r.term) ≡ Some k) = then_some
    (λ m. option_and_then (handed h s r m) (receiving r.term)) (sending s.term) k e in
    let b : (c : ℕ) × (receiving r.term ≡ Some c) × (handed h s r a.0 c ≡ Some k) = then_some (handed h s r a.0) (receiving r.term) k a.2 in
    on a.0 b.0 a.1 b.1 (nat_eq a.0.channel b.0) refl b.2
  where
    on : (m : Message) (c : ℕ) → sending s.term ≡ Some m → receiving r.term ≡ Some c → (o : Bool) → nat_eq m.channel c ≡ o
        → cond o (Some (with_term (with_term h s (with_head (giving []) s.term)) r (with_head (giving m.value) r.term))) None ≡ Some k → Joining i j h k
    on m c sm rc false same e = cc
    on m c sm rc true same e = record {
      sender = s;
      receiver = r;
      ends = record { sender = at_term s (with_head (giving []) s.term); receiver = at_term r (with_head (giving m.value) r.term) };
      apart = ne;
      at_i = ei;
      at_j = ej;
      meet = rw (sm, rc, same) refl;
      sender_thread = found_thread i h s ei;
      receiver_thread = found_thread j h r ej;
      is = cc;
    }

pub stepped_by_meeting : (i j : ℕ) (h k : List Member) → joint_step (labelled (meeting i j)) h ≡ Some k → Joining i j h k
stepped_by_meeting i j h k e = go (nat_eq i j) refl e
  where
    go : (o : Bool) → nat_eq i j ≡ o → cond o None (option_and_then (λ s. option_and_then (meeting_of h s) (member_of j h)) (member_of i h)) ≡ Some k → Joining i j h k
    go true ne e = cc
    go false ne e =
        let a : (s : Member) × (member_of i h ≡ Some s) × (option_and_then (meeting_of h s) (member_of j h) ≡ Some k) = then_some
        (λ s. option_and_then (meeting_of h s) (member_of j h)) (member_of i h) k e in
        let b : (r : Member) × (member_of j h ≡ Some r) × (meeting_of h a.0 r ≡ Some k) = then_some (meeting_of h a.0) (member_of j h) k a.2 in
        joined_by i j h k a.0 b.0 ne a.1 b.1 b.2

-- ---- and back

pub steps_quietly : (i : ℕ) (h : List Member) (m n : Member) → member_of i h ≡ Some m → quiet_step m ≡ Some n → joint_step (quiet i) h ≡ Some (with_member n h)
steps_quietly i h m n e q = rw (e, q) refl

pub steps_by_choice : (i : ℕ) (left : Bool) (h : List Member) (m n : Member) → member_of i h ≡ Some m → chosen left m ≡ Some n → joint_step (labelled (choice i left)) h ≡ Some (with_member n h)
steps_by_choice i left h m n e c = let a : (t : Term) × (after_choice left m.term ≡ Some t) × (at_term m t ≡ n) = some_map (at_term m) (after_choice left m.term) n c in rw (e, a.1, a.2) refl

pub steps_by_meeting : (i j : ℕ) (h : List Member) (s r : Member) (ends : MovedEnds) → nat_eq i j ≡ false → member_of i h ≡ Some s → member_of j h ≡ Some r → members_met s r ≡ Some ends
    → joint_step (labelled (meeting i j)) h ≡ Some (with_member ends.receiver (with_member ends.sender h))
steps_by_meeting i j h s r ends ne ei ej m =
    let b : Handing s r ends = handing s r ends m in
    rw (ne, ei, ej, b.sends, b.receives, b.same) refl ∙ ap₂ (λ x y. Some (with_member y (with_member x h))) (sym b.sender) (sym b.receiver)
