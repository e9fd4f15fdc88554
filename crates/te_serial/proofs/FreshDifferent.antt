-- Two steps at `fresh`, in one chain or in chains of two commits of a legal history, make different numbers.
use Rattle.std.proofs.Common.{◌≡◌, ◌≢◌, ◌⊎◌, inl, inr, ℕ, suc, ◌+◌, ◌*◌, ◌<◌, ◌≤◌, ◌^◌, ◌%◌, Bool, true, false}
use Rattle.std.proofs.Common.{cond, eqb, eq-eqb, List, [], ◌∷◌, ◌++◌, Option, Some, None, refl, sym, ap, subst, ◌∙◌, arith}
use Rattle.std.proofs.Math.Nat.{mod-eq_of_lt}
use Rattle.std.proofs.lemmas.Nat.{mod_below}
use Rattle.std.specs.List.{AllByRecursion}
use Rattle.std.specs.Option.{option_map, option_and_then}
use Rattle.te_terms.specs.declared.value.Atom.TheVariants.{Chan}
use Rattle.te_terms.specs.declared.event.Outcome.{Outcome}
use Rattle.te_terms.specs.Values.{fresh_channel}
use Rattle.te_terms.specs.Limits.{most_threads, most_fresh}
use Rattle.te_terms.specs.Measures.{fresh_count}
use Rattle.te_terms.specs.Terms.{Term, always, fresh, throw, and_then, catch}
use Rattle.te_terms.specs.Steps.{Member, come_to, at_term, giving, outcome_of, under_then, under_catch, goes_on, is_caught, quiet_step_of, quiet_step, head, with_head}
use Rattle.te_terms.specs.Joint.{choice, meeting, Action, quiet, labelled, after_choice, Message, sending, receiving}
use Rattle.te_terms.specs.Joint.{member_of, with_member, with_term, quiet_joint, choice_joint, handed, meeting_of, meeting_joint, joint_step}
use Rattle.te_terms.proofs.FreshStaysFew.{quiet_makes, handed_few, choice_few}
use Rattle.te_terms.proofs.QuietSteps.{OfEachStep, of_every_step}
use Rattle.te_cert.proofs.MembersReplaced.{found_thread, found_new, found_other}
use Rattle.te_history.proofs.Commits.{same_or_other}
use Rattle.te_serial.specs.FreshChannels.{made_at, made_by, made_in, made_behind, made_along, NoneTwice}
use Rattle.te_terms.proofs.Lists.{all_both}

-- ---- a member stands at `fresh`

abbrev pub IsFresh : Term → Type 0
IsFresh fresh = Unit {0}
IsFresh _ = ⊥

no_outcome : (e : Term) (x : Outcome) → IsFresh (head e) → outcome_of e ≡ Some x → ⊥
no_outcome (always e) x at is = at
no_outcome (throw e) x at is = at
no_outcome _ x at is = absurd cc

fresh_some : (t : Term) → IsFresh (head t) → 1 ≤ fresh_count t
fresh_some fresh at = omega arith
fresh_some (and_then e n f) at = let h = fresh_some e at in omega arith
fresh_some (catch e n f) at = let h = fresh_some e at in omega arith
fresh_some _ at = absurd at

then_raises : (t k c n : ℕ) (f e : Term) (o : Option Outcome) (s : Option Member) (p : Member) → outcome_of e ≡ o → IsFresh (head e) → ((q : Member) → s ≡ Some q → q.count ≡ suc c)
    → goes_on (come_to t k c) o s n f ≡ Some p → p.count ≡ suc c
then_raises t k c n f e (Some x) s p ends at each is = absurd (no_outcome e x at ends)
then_raises t k c n f e None None p ends at each is = absurd cc
then_raises t k c n f e None (Some q) p ends at each is = let same : under_then n f q ≡ p = cc in ap (λ (m : Member). m.count) (sym same) ∙ each q refl

catch_raises : (t k c n : ℕ) (f e : Term) (o : Option Outcome) (s : Option Member) (p : Member) → outcome_of e ≡ o → IsFresh (head e) → ((q : Member) → s ≡ Some q → q.count ≡ suc c)
    → is_caught (come_to t k c) o s n f ≡ Some p → p.count ≡ suc c
catch_raises t k c n f e (Some x) s p ends at each is = absurd (no_outcome e x at ends)
catch_raises t k c n f e None None p ends at each is = absurd cc
catch_raises t k c n f e None (Some q) p ends at each is = let same : under_catch n f q ≡ p = cc in ap (λ (m : Member). m.count) (sym same) ∙ each q refl

-- its step makes one more
raises : (t k c : ℕ) (e : Term) (p : Member) → IsFresh (head e) → quiet_step_of t k c e ≡ Some p → p.count ≡ suc c
raises t k c fresh p at is =
    let same : come_to t k (suc c) (giving (Chan (fresh_channel t k c) ∷ [])) ≡ p = cc in ap (λ (m : Member). m.count) (sym same)
raises t k c (and_then e n f) p at is = then_raises t k c n f e (outcome_of e) (quiet_step_of t k c e) p refl at (λ q step. raises t k c e q at step) is
raises t k c (catch e n f) p at is = catch_raises t k c n f e (outcome_of e) (quiet_step_of t k c e) p refl at (λ q step. raises t k c e q at step) is
raises t k c _ p at is = absurd at

-- ---- what a step of a group leaves of its members

-- thread and ticket stay, the count never falls, and with the `fresh` nodes that are left it never rises
record Goes (m p : Member) : Type 0 where
  thread : p.thread ≡ m.thread
  ticket : p.ticket ≡ m.ticket
  count : m.count ≤ p.count
  few : p.count + fresh_count p.term ≤ m.count + fresh_count m.term

abbrev Keeps : Member → Member → Type 0
Keeps m p = (p.thread ≡ m.thread) × (p.ticket ≡ m.ticket)

each_keeps : OfEachStep Keeps
each_keeps = record {
  traps = λ t k c e v leaf. (refl, refl);
  makes = λ t k c v. (refl, refl);
  then_gives = λ t k c e n f v. (refl, refl);
  then_raises = λ t k c e n f v. (refl, refl);
  then_steps = λ m p n f kept. kept;
  catch_gives = λ t k c e n h v. (refl, refl);
  catch_raises = λ t k c e n h v. (refl, refl);
  catch_steps = λ m p n h kept. kept;
  decides = λ t k c test p q e f r. (refl, refl);
}

quiet_goes : (m p : Member) → quiet_step m ≡ Some p → Goes m p
quiet_goes m p is =
    let kept = of_every_step Keeps each_keeps m p is in
    let made = quiet_makes m p is in
    record { thread = kept.0; ticket = kept.1; count = made.0; few = made.1 }

stays : (m : Member) → Goes m m
stays m = record { thread = refl; ticket = refl; count = omega arith; few = omega arith }

goes_to : (m : Member) (u : Term) → fresh_count u ≤ fresh_count m.term → Goes m (at_term m u)
goes_to m u less = record { thread = refl; ticket = refl; count = omega arith; few = omega (arith, less) }

goes_far : (m p q : Member) → Goes m p → Goes p q → Goes m q
goes_far m p q h k = record { thread = k.thread ∙ h.thread; ticket = k.ticket ∙ h.ticket; count = omega (arith, h.count, k.count); few = omega (arith, h.few, k.few) }

-- each member of the later group comes from one of the earlier
abbrev Back : List Member → List Member → Type 0
Back g k = (t : ℕ) (p : Member) → member_of t k ≡ Some p → (m : Member) × (member_of t g ≡ Some m) × Goes m p

back_far : (g k l : List Member) → Back g k → Back k l → Back g l
back_far g k l first second = λ t q found.
    let p = second t q found in
    let m = first t p.0 p.1 in
    (m.0, m.1, goes_far m.0 p.0 q m.2 p.2)

back_with : (g : List Member) (m n : Member) → member_of m.thread g ≡ Some m → Goes m n → Back g (with_member n g)
back_with g m n is goes = λ t p found. at t p found (same_or_other n.thread t)
  where
    at : (t : ℕ) (p : Member) → member_of t (with_member n g) ≡ Some p → (n.thread ≡ t) ⊎ (n.thread ≢ t) → (x : Member) × (member_of t g ≡ Some x) × Goes x p
    at t p found (inl same) =
        let was : member_of n.thread g ≡ Some m = subst (λ (k : ℕ). member_of k g ≡ Some m) (sym goes.thread) is in
        let put : member_of t (with_member n g) ≡ Some n = subst (λ (k : ℕ). member_of k (with_member n g) ≡ Some n) same (found_new n m g was) in
        let both : Some n ≡ Some p = sym put ∙ found in
        let one : n ≡ p = cc in
        (m, subst (λ (k : ℕ). member_of k g ≡ Some m) same was, subst (Goes m) one goes)
    at t p found (inr other) = (p, sym (found_other t n g other) ∙ found, stays p)

own_place : (t : ℕ) (g : List Member) (m : Member) → member_of t g ≡ Some m → member_of m.thread g ≡ Some m
own_place t g m is = subst (λ (k : ℕ). member_of k g ≡ Some m) (sym (found_thread t g m is)) is

-- a quiet step of the group is one of its member
quiet_by : (g k : List Member) (m : Member) (s : Option Member) → option_map (λ p. with_member p g) s ≡ Some k → (p : Member) × (s ≡ Some p) × (k ≡ with_member p g)
quiet_by g k m None is = absurd cc
quiet_by g k m (Some p) is = let same : with_member p g ≡ k = cc in (p, refl, sym same)

quiet_gives : (g k : List Member) (o : Option Member) (m : Member) → o ≡ Some m → option_map (λ p. with_member p g) (option_and_then quiet_step o) ≡ Some k
    → (p : Member) × (quiet_step m ≡ Some p) × (k ≡ with_member p g)
quiet_gives g k None m at is = absurd cc
quiet_gives g k (Some x) m at is = let same : x ≡ m = cc in quiet_by g k m (quiet_step m) (subst (λ (y : Member). option_map (λ p. with_member p g) (quiet_step y) ≡ Some k) same is)

quiet_back : (t : ℕ) (g k : List Member) → quiet_joint t g ≡ Some k → Back g k
quiet_back t g k is = by_member (member_of t g) refl is
  where
    by_member : (o : Option Member) → member_of t g ≡ o → option_map (λ p. with_member p g) (option_and_then quiet_step o) ≡ Some k → Back g k
    by_member None e is' = absurd cc
    by_member (Some m) e is' =
        let step = quiet_by g k m (quiet_step m) is' in
        subst (Back g) (sym step.2) (back_with g m step.0 (own_place t g m e) (quiet_goes m step.0 step.1))

choice_back : (t : ℕ) (left : Bool) (g k : List Member) → choice_joint t left g ≡ Some k → Back g k
choice_back t left g k is = by_member (member_of t g) refl is
  where
    by_term : (m : Member) → member_of t g ≡ Some m → (s : Option Term) → after_choice left m.term ≡ s → option_map (with_term g m) s ≡ Some k → Back g k
    by_term m e None chosen is' = absurd cc
    by_term m e (Some u) chosen is' =
        let same : with_term g m u ≡ k = cc in
        subst (Back g) same (back_with g m (at_term m u) (own_place t g m e) (goes_to m u (choice_few left m.term u chosen)))

    by_member : (o : Option Member) → member_of t g ≡ o → option_and_then (λ m. option_map (with_term g m) (after_choice left m.term)) o ≡ Some k → Back g k
    by_member None e is' = absurd cc
    by_member (Some m) e is' = by_term m e (after_choice left m.term) refl is'

handed_back : (g : List Member) (i j : Member) (v : _) → member_of i.thread g ≡ Some i → member_of j.thread g ≡ Some j → (i.thread ≢ j.thread)
    → Back g (with_term (with_term g i (with_head (giving []) i.term)) j (with_head (giving v) j.term))
handed_back g i j v at_i at_j apart =
    let mid = with_term g i (with_head (giving []) i.term) in
    let there : member_of j.thread mid ≡ Some j = found_other j.thread (at_term i (with_head (giving []) i.term)) g apart ∙ at_j in
    back_far g mid (with_term mid j (with_head (giving v) j.term))
    (back_with g i (at_term i (with_head (giving []) i.term)) at_i (goes_to i (with_head (giving []) i.term) (handed_few i.term [])))
    (back_with mid j (at_term j (with_head (giving v) j.term)) there (goes_to j (with_head (giving v) j.term) (handed_few j.term v)))

meeting_back : (s r : ℕ) (g k : List Member) → meeting_joint s r g ≡ Some k → Back g k
meeting_back s r g k is = by_threads (same_or_other s r)
  where
    by_channel : (i j : Member) (sent : Message) (c : ℕ) (b : Bool) → member_of i.thread g ≡ Some i → member_of j.thread g ≡ Some j → i.thread ≢ j.thread
        → cond b (Some (with_term (with_term g i (with_head (giving []) i.term)) j (with_head (giving sent.value) j.term))) None ≡ Some k → Back g k
    by_channel i j sent c true at_i at_j apart e =
        let same : with_term (with_term g i (with_head (giving []) i.term)) j (with_head (giving sent.value) j.term) ≡ k = cc in
        subst (Back g) same (handed_back g i j sent.value at_i at_j apart)
    by_channel i j sent c false at_i at_j apart e = absurd cc

    by_receiving : (i j : Member) (sent : Message) (o : Option ℕ) → member_of i.thread g ≡ Some i → member_of j.thread g ≡ Some j → i.thread ≢ j.thread
        → option_and_then (handed g i j sent) o ≡ Some k → Back g k
    by_receiving i j sent None at_i at_j apart e = absurd cc
    by_receiving i j sent (Some c) at_i at_j apart e = by_channel i j sent c (eqb sent.channel c) at_i at_j apart e

    by_sending : (i j : Member) (o : Option Message) → member_of i.thread g ≡ Some i → member_of j.thread g ≡ Some j → i.thread ≢ j.thread
        → option_and_then (λ sent. option_and_then (handed g i j sent) (receiving j.term)) o ≡ Some k → Back g k
    by_sending i j None at_i at_j apart e = absurd cc
    by_sending i j (Some sent) at_i at_j apart e = by_receiving i j sent (receiving j.term) at_i at_j apart e

    by_receiver : (i : Member) → member_of s g ≡ Some i → (s ≢ r) → (o : Option Member) → member_of r g ≡ o → option_and_then (meeting_of g i) o ≡ Some k → Back g k
    by_receiver i at_s other None at_r e = absurd cc
    by_receiver i at_s other (Some j) at_r e =
        by_sending i j (sending i.term) (own_place s g i at_s) (own_place r g j at_r)
        (λ (same : i.thread ≡ j.thread). other (sym (found_thread s g i at_s) ∙ same ∙ found_thread r g j at_r)) e

    by_sender : (s ≢ r) → (o : Option Member) → member_of s g ≡ o → option_and_then (λ i. option_and_then (meeting_of g i) (member_of r g)) o ≡ Some k → Back g k
    by_sender other None at_s e = absurd cc
    by_sender other (Some i) at_s e = by_receiver i at_s other (member_of r g) refl e

    by_test : (b : Bool) → (b ≡ false → s ≢ r) → cond b None (option_and_then (λ i. option_and_then (meeting_of g i) (member_of r g)) (member_of s g)) ≡ Some k → Back g k
    by_test true other e = absurd cc
    by_test false other e = by_sender (other refl) (member_of s g) refl e

    by_threads : (s ≡ r) ⊎ (s ≢ r) → Back g k
    by_threads (inl same) = by_test (eqb s r) (λ not_so. let so = eq-eqb s r same in absurd cc) is
    by_threads (inr other) = by_test (eqb s r) (λ not_so. other) is

joint_back : (a : Action) (g k : List Member) → joint_step a g ≡ Some k → Back g k
joint_back (quiet t) g k is = quiet_back t g k is
joint_back (labelled (choice t left)) g k is = choice_back t left g k is
joint_back (labelled (meeting s r)) g k is = meeting_back s r g k is

-- ---- numbers

-- threads are low, and no member makes more channels than there may be
abbrev pub Fine : List Member → Type 0
Fine g = (t : ℕ) (m : Member) → member_of t g ≡ Some m → (t < most_threads) × (m.count + fresh_count m.term ≤ most_fresh)

fine_on : (g k : List Member) → Back g k → Fine g → Fine k
fine_on g k back fine = λ t p found.
    let m = back t p found in
    let was = fine t m.0 m.1 in
    let few = m.2.few in
    (was.0, omega (arith, was.1, few))

-- the number is a member's, made from here on
pub record Owns (g : List Member) (c : ℕ) : Type 0 where
  pub member : Member
  pub found : member_of member.thread g ≡ Some member
  pub count : ℕ
  pub least : member.count ≤ count
  pub few : count < most_fresh
  pub number : c ≡ fresh_channel member.thread member.ticket count

owns_back : (g k : List Member) (c : ℕ) → Back g k → Owns k c → Owns g c
owns_back g k c back o =
    let m = back o.member.thread o.member o.found in
    record {
      member = m.0;
      found = own_place o.member.thread g m.0 m.1;
      count = o.count;
      least = omega (arith, o.least, m.2.count);
      few = o.few;
      number = o.number ∙ (λ i. fresh_channel (m.2.thread i) (m.2.ticket i) o.count);
    }

all_back : (g k : List Member) (cs : List ℕ) → Back g k → AllByRecursion (Owns k) cs → AllByRecursion (Owns g) cs
all_back g k [] back all = tt
all_back g k (c ∷ cs) back all = (owns_back g k c back all.0, all_back g k cs back all.1)

made_all : (P : ℕ → Type 0) (h : Term) (c : ℕ) → (IsFresh h → P c) → AllByRecursion P (made_at h c)
made_all P fresh c holds = (holds tt, tt)
made_all P _ c holds = tt

first_own : (a : Action) (g : List Member) → Fine g → AllByRecursion (Owns g) (made_in a g)
first_own (labelled l) g fine = tt
first_own (quiet t) g fine = by_member (member_of t g) refl
  where
    by_member : (o : Option Member) → member_of t g ≡ o → AllByRecursion (Owns g) (made_by o)
    by_member None e = tt
    by_member (Some m) e =
        made_all (Owns g) (head m.term) (fresh_channel m.thread m.ticket m.count) (λ at.
        let some = fresh_some m.term at in
        let few = (fine t m e).1 in
        record { member = m; found = own_place t g m e; count = m.count; least = omega arith; few = omega arith; number = refl })

pub all_own : (as' : List Action) (g : List Member) → Fine g → AllByRecursion (Owns g) (made_along as' g)
all_own [] g fine = tt
all_own (a ∷ as') g fine =
    all_both (Owns g) (made_in a g) (made_behind (made_along as') (joint_step a g)) (first_own a g fine) (behind (joint_step a g) refl (λ k fine'. all_own as' k fine'))
  where
    behind : (o : Option (List Member)) → joint_step a g ≡ o → ((k : List Member) → Fine k → AllByRecursion (Owns k) (made_along as' k)) → AllByRecursion (Owns g) (made_behind (made_along as') o)
    behind None e rest = tt
    behind (Some k) e rest = let back = joint_back a g k e in all_back g k (made_along as' k) back (rest k (fine_on g k back fine))

-- the parts of a number tell it
pub inject : (t k n t' k' n' : ℕ) → t < most_threads → t' < most_threads → n < most_fresh → n' < most_fresh → fresh_channel t k n ≡ fresh_channel t' k' n'
    → (t ≡ t') × (k % 2 ^ 18 ≡ k' % 2 ^ 18) × (n ≡ n')
inject t k n t' k' n' low low' few few' same =
    by_parts t (k % 2 ^ 18) n t' (k' % 2 ^ 18) n' (mod_below k (2 ^ 18) (omega arith)) (mod_below k' (2 ^ 18) (omega arith)) few few'
    (subst (λ (x : ℕ). 2 ^ 30 + (x * 2 ^ 18 + k % 2 ^ 18) * 16 + n ≡ fresh_channel t' k' n') (mod-eq_of_lt low) same
    ∙ ap (λ (x : ℕ). 2 ^ 30 + (x * 2 ^ 18 + k' % 2 ^ 18) * 16 + n') (mod-eq_of_lt low'))
  where
    by_parts : (t q n t' q' n' : ℕ) → q < 2 ^ 18 → q' < 2 ^ 18 → n < 16 → n' < 16 → 2 ^ 30 + (t * 2 ^ 18 + q) * 16 + n ≡ 2 ^ 30 + (t' * 2 ^ 18 + q') * 16 + n' → (t ≡ t') × (q ≡ q') × (n ≡ n')
    by_parts t q n t' q' n' low low' few few' same = (omega (arith, same), omega (arith, same), omega (arith, same))

-- ---- one chain

made_once : (h : Term) (c : ℕ) (rest : List ℕ) → (IsFresh h → AllByRecursion (λ y. c ≢ y) rest) → NoneTwice rest → NoneTwice (made_at h c ++ rest)
made_once fresh c rest first once = (first tt, once)
made_once _ c rest first once = once

differs : (g k : List Member) (t : ℕ) (m : Member) → Fine g → Fine k → member_of t g ≡ Some m → IsFresh (head m.term) → quiet_joint t g ≡ Some k → (y : ℕ) → Owns k y
    → fresh_channel m.thread m.ticket m.count ≢ y
differs g k t m fine fine' e at is y o = λ same.
    let step = quiet_gives g k (member_of t g) m e is in
    let p = step.0 in
    let goes = quiet_goes m p step.1 in
    let more : p.count ≡ suc m.count = raises m.thread m.ticket m.count m.term p at step.1 in
    let some = fresh_some m.term at in
    let few : m.count < most_fresh = let h = (fine t m e).1 in omega arith in
    let low = (fine m.thread m (own_place t g m e)).0 in
    let low' = (fine' o.member.thread o.member o.found).0 in
    let parts = inject m.thread m.ticket m.count o.member.thread o.member.ticket o.count low low' few o.few (same ∙ o.number) in
    let own : member_of m.thread g ≡ Some m = own_place t g m e in
    let put : member_of p.thread (with_member p g) ≡ Some p = found_new p m g (subst (λ (x : ℕ). member_of x g ≡ Some m) (sym goes.thread) own) in
    let thread : p.thread ≡ o.member.thread = goes.thread ∙ parts.0 in
    let here : member_of o.member.thread k ≡ Some p = ap (member_of o.member.thread) step.2 ∙ subst (λ (x : ℕ). member_of x (with_member p g) ≡ Some p) thread put in
    let both : Some o.member ≡ Some p = sym o.found ∙ here in
    let one : o.member ≡ p = cc in
    let counts : o.member.count ≡ p.count = ap (λ (x : Member). x.count) one in
    let least = o.least in
    let n = parts.2 in
    absurd (omega arith)

all_differ : (g k : List Member) (c : ℕ) (cs : List ℕ) → ((y : ℕ) → Owns k y → c ≢ y) → AllByRecursion (Owns k) cs → AllByRecursion (λ y. c ≢ y) cs
all_differ g k c [] apart all = tt
all_differ g k c (y ∷ ys) apart all = (apart y all.0, all_differ g k c ys apart all.1)

pub none_twice : (as' : List Action) (g : List Member) → Fine g → NoneTwice (made_along as' g)
none_twice [] g fine = tt
none_twice (a ∷ as') g fine = by_step (joint_step a g) refl (λ k fine'. none_twice as' k fine')
  where
    by_action : (a : Action) (k : List Member) → joint_step a g ≡ Some k → Fine k → NoneTwice (made_along as' k) → NoneTwice (made_in a g ++ made_along as' k)
    by_action (labelled l) k e fine' once = once
    by_action (quiet t) k e fine' once = by_member (member_of t g) refl
      where
        by_member : (o : Option Member) → member_of t g ≡ o → NoneTwice (made_by o ++ made_along as' k)
        by_member None at = once
        by_member (Some m) at =
            made_once (head m.term) (fresh_channel m.thread m.ticket m.count) (made_along as' k)
            (λ stands. all_differ g k (fresh_channel m.thread m.ticket m.count) (made_along as' k) (λ y o. differs g k t m fine fine' at stands e y o) (all_own as' k fine')) once

    alone : (a : Action) → NoneTwice (made_in a g ++ [])
    alone (labelled l) = tt
    alone (quiet t) = by_member (member_of t g)
      where
        by_member : (o : Option Member) → NoneTwice (made_by o ++ [])
        by_member None = tt
        by_member (Some m) = made_once (head m.term) (fresh_channel m.thread m.ticket m.count) [] (λ at. tt) tt

    by_step : (o : Option (List Member)) → joint_step a g ≡ o → ((k : List Member) → Fine k → NoneTwice (made_along as' k)) → NoneTwice (made_in a g ++ made_behind (made_along as') o)
    by_step None e rest = alone a
    by_step (Some k) e rest = let fine' = fine_on g k (joint_back a g k e) fine in by_action a k e fine' (rest k fine')
