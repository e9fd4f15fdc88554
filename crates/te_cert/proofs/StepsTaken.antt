-- What a joint step of each kind says of the members that take it.
use Rattle.std.proofs.Common.{◌≡◌, ℕ, Bool, true, false, cond, ◌==◌, List, [], Option, Some, None, refl, sym, ap, subst, ◌∙◌}
use Rattle.std.specs.Option.{option_map, option_and_then}
use Rattle.std.proofs.lemmas.Option.{option_and_then_some}
use Rattle.te_terms.specs.Terms.{Term}
use Rattle.te_terms.specs.Steps.{Member, giving, quiet_step, with_head, at_term}
use Rattle.te_terms.specs.Joint.{choice, meeting, Action, quiet, labelled, Message, after_choice, sending, receiving, IsGroup, member_of, with_member}
use Rattle.te_terms.specs.Joint.{with_term, quiet_joint, choice_joint, handed, meeting_of, meeting_joint, joint_step}
use Rattle.te_terms.proofs.QuietStepsEnd.{step_stays}
use Rattle.te_cert.proofs.Places.{by_threads, member_thread, group_stays}

-- the member with another term in its head's place
abbrev pub goes_with : Term → Member → Member
goes_with u m = at_term m (with_head u m.term)

-- a member and what it becomes by a quiet step, in the groups before and after it
pub record QuietTaken (g h : List Member) : Type 0 where
  pub before : Member
  pub after : Member
  pub at : member_of after.thread g ≡ Some before
  pub step : quiet_step before ≡ Some after
  pub to : with_member after g ≡ h

-- a member, and its term after a choice
pub record ChoiceTaken (t : ℕ) (left : Bool) (g h : List Member) : Type 0 where
  pub before : Member
  pub term : Term
  pub thread : before.thread ≡ t
  pub at : member_of before.thread g ≡ Some before
  pub chosen : after_choice left before.term ≡ Some term
  pub to : with_member (at_term before term) g ≡ h

-- the two ends of a meeting, which stand at one channel and go on with () and with the message
pub record MeetingTaken (s r : ℕ) (g h : List Member) : Type 0 where
  pub sender : Member
  pub receiver : Member
  pub message : Message
  pub channel : ℕ
  pub sending_thread : sender.thread ≡ s
  pub receiving_thread : receiver.thread ≡ r
  pub apart : sender.thread ≡ receiver.thread → ⊥
  pub sender_at : member_of sender.thread g ≡ Some sender
  pub receiver_at : member_of receiver.thread g ≡ Some receiver
  pub sends : sending sender.term ≡ Some message
  pub receives : receiving receiver.term ≡ Some channel
  pub fits : (message.channel == channel) ≡ true
  pub to : with_member (goes_with (giving message.value) receiver) (with_member (goes_with (giving []) sender) g) ≡ h

mapped : {A B P : Type 0} (f : A → B) (o : Option A) (y : B) → option_map f o ≡ Some y → ((x : A) → o ≡ Some x → f x ≡ y → P) → P
mapped f None y e k = absurd cc
mapped f (Some x) y e k = k x refl cc

-- ---- from the step

pub quiet_taken : (t : ℕ) (g h : List Member) → quiet_joint t g ≡ Some h → QuietTaken g h
quiet_taken t g h e =
    mapped (λ m. with_member m g) (option_and_then quiet_step (member_of t g)) h e (λ n was to.
    option_and_then_some quiet_step (member_of t g) n was (λ m at step. record {
      before = m;
      after = n;
      at = ap (λ u. member_of u g) ((step_stays m n step).0 ∙ member_thread t g m at) ∙ at;
      step = step;
      to = to;
    }))

pub choice_taken : (t : ℕ) (left : Bool) (g h : List Member) → choice_joint t left g ≡ Some h → ChoiceTaken t left g h
choice_taken t left g h e =
    option_and_then_some (λ m. option_map (with_term g m) (after_choice left m.term)) (member_of t g) h e (λ m at was.
    mapped (with_term g m) (after_choice left m.term) h was (λ u chosen to. record {
      before = m;
      term = u;
      thread = member_thread t g m at;
      at = ap (λ v. member_of v g) (member_thread t g m at) ∙ at;
      chosen = chosen;
      to = to;
    }))

-- where the channels are the same
handed_taken : (s r : ℕ) (g h : List Member) (i j : Member) (m : Message) (c : ℕ) (b : Bool) → (m.channel == c) ≡ b → (s ≡ r → ⊥) → member_of s g ≡ Some i →
    member_of r g ≡ Some j → sending i.term ≡ Some m → receiving j.term ≡ Some c →
    cond b (Some (with_member (goes_with (giving m.value) j) (with_member (goes_with (giving []) i) g))) None ≡ Some h → MeetingTaken s r g h
handed_taken s r g h i j m c false fits apart i_at j_at sends receives e = absurd cc
handed_taken s r g h i j m c true fits apart i_at j_at sends receives e =
    let i_is = member_thread s g i i_at in
    let j_is = member_thread r g j j_at in
    record {
      sender = i;
      receiver = j;
      message = m;
      channel = c;
      sending_thread = i_is;
      receiving_thread = j_is;
      apart = λ same. apart (sym i_is ∙ same ∙ j_is);
      sender_at = ap (λ v. member_of v g) i_is ∙ i_at;
      receiver_at = ap (λ v. member_of v g) j_is ∙ j_at;
      sends = sends;
      receives = receives;
      fits = fits;
      to = cc;
    }

pub meeting_taken : (s r : ℕ) (g h : List Member) → meeting_joint s r g ≡ Some h → MeetingTaken s r g h
meeting_taken s r g h e =
    by_threads s r (λ b. cond b None (option_and_then (λ i. option_and_then (meeting_of g i) (member_of r g)) (member_of s g)) ≡ Some h → MeetingTaken s r g h)
    (λ same was. absurd cc)
    (λ apart was.
    option_and_then_some (λ i. option_and_then (meeting_of g i) (member_of r g)) (member_of s g) h was (λ i i_at was'.
    option_and_then_some (meeting_of g i) (member_of r g) h was' (λ j j_at was''.
    option_and_then_some (λ m. option_and_then (handed g i j m) (receiving j.term)) (sending i.term) h was'' (λ m sends was'''.
    option_and_then_some (handed g i j m) (receiving j.term) h was''' (λ c receives handed_so.
    handed_taken s r g h i j m c (m.channel == c) refl apart i_at j_at sends receives handed_so)))))
    e

-- ---- a group stays one

pub group_after : (a : Action) (g h : List Member) → joint_step a g ≡ Some h → IsGroup g → IsGroup h
group_after (quiet t) g h step group = let q = quiet_taken t g h step in subst IsGroup q.to (group_stays q.after g group)
group_after (labelled (choice t left)) g h step group =
    let c = choice_taken t left g h step in subst IsGroup c.to (group_stays (record c.before { term = c.term }) g group)
group_after (labelled (meeting s r)) g h step group =
    let m = meeting_taken s r g h step in
    let sent = goes_with (giving []) m.sender in
    subst IsGroup m.to (group_stays (goes_with (giving m.message.value) m.receiver) (with_member sent g) (group_stays sent g group))
