-- A joined past of final paths makes a certificate, which plays to their outcomes and is tight.
use Rattle.std.proofs.Common.{◌≡◌, ◌<◌, ℕ, zero, suc, List, [], ◌∷◌, ◌++◌, map, length, Bool, true}
use Rattle.std.proofs.Common.{false, cond, Option, Some, None, Ok, slice_get, refl, ap, ap₂, sym, ◌∙◌, subst, subst₂, arith, nat_eq, eqb-true, eq-eqb}
use Rattle.te_terms.specs.declared.event.Outcome.{Outcome}
use Rattle.te_terms.specs.declared.event.Parked.{Parked}
use Rattle.te_terms.specs.Steps as steps
use Rattle.te_terms.specs.Steps.{quiet_step, outcome_of}
use Rattle.te_terms.specs.Joint.{Label, choice, meeting, Action, quiet, labelled, RiseFrom, IsGroup, member_of}
use Rattle.te_terms.specs.Joint.{with_member, joint_step, after, outcomes_of, and_outcome, Reduces, part, as_group}
use Rattle.te_cert.specs.Certificates.{Certificate}
use Rattle.te_cert.specs.Play.{play}
use Rattle.te_cert.specs.Certs.{place_of, meetings_of, choices_of, KeepsSides}
use Rattle.te_cert.specs.Checks.{ThreadsRise, group_of}
use Rattle.te_cert.proofs.MembersReplaced.{threads_stay, group_stays}
use Rattle.te_cert.proofs.Places.{member_stands}
use Rattle.te_cert.proofs.PlacesOfThreads.{found_at}
use Rattle.te_cert.proofs.ReductionsPlay.{reductions_play}
use Rattle.te_trail.specs.Paths.{Path, planted, branched, sent, got, thread_of}
use Rattle.te_trail.specs.States.{chosen, path_state}
use Rattle.te_trail.specs.Stores.{Holds, labels_of_move, labels_of, any_rests_on}
use Rattle.te_trail.proofs.PastsChain.{then_some}
use Rattle.te_search.specs.Assemblies.{joint}
use Rattle.te_search.specs.Works.{threads_of}
use Rattle.te_search.specs.Findings.{ArePlacedIn, IsGroupOf}
use Rattle.te_search.specs.Plantings.{has_number}
use Rattle.te_search.specs.Picks.{Picks, touched, members_by, EndSo, AreMeetingsOf, AreMembers, thread_of_member}
use Rattle.te_search.proofs.StepsTaken.{Stepping, stepped_quietly, stepped_by_choice, Joining, stepped_by_meeting}
use Rattle.te_search.proofs.ChainsSplit.{Uncrossed, part_at}
use Rattle.te_search.proofs.JoinedPasts.{joint_past}
use Rattle.te_search.proofs.GroupsSound.{taken, GroupOf, sound}
use Rattle.te_search.proofs.Trying.{state_member}
use Rattle.te_terms.proofs.Lists.{get_low, get_some}
use Rattle.te_search.proofs.PicksOfHits.{past_touched, picked_touched, taken_touched, touched_path, reach_holds}
use Rattle.te_search.proofs.MembersPicked.{events_by, group_by, choices_by, threads_by, rise_by, group_part, placed_by, part_same, part_side, member_number, number_member}

-- ---- a chain keeps the threads

step_threads : (a : Action) (g h : List steps.Member) → joint_step a g ≡ Some h → threads_of h ≡ threads_of g
step_threads (quiet i) g h e = (let s : Stepping quiet_step i g h = stepped_quietly i g h e in ap threads_of (sym s.is) ∙ threads_stay s.next g)
step_threads (labelled (choice i l)) g h e = (let s : Stepping (chosen l) i g h = stepped_by_choice i l g h e in ap threads_of (sym s.is) ∙ threads_stay s.next g)
step_threads (labelled (meeting i j)) g h e = (let s : Joining i j g h = stepped_by_meeting i j g h e in ap threads_of (sym s.is)
    ∙ threads_stay s.ends.receiver (with_member s.ends.sender g) ∙ threads_stay s.ends.sender g)

chain_threads : (actions : List Action) (g h : List steps.Member) → after actions g ≡ Some h → threads_of h ≡ threads_of g
chain_threads [] g h e = (let one : g ≡ h = cc in ap threads_of (sym one))
chain_threads (a ∷ rest) g h e = (let m : (m : List steps.Member) × (joint_step a g ≡ Some m) × (after rest m ≡ Some h) = then_some (after rest)
    (joint_step a g) h e in chain_threads rest m.0 h m.2 ∙ step_threads a g m.0 m.1)

-- ---- outcomes

-- each member of the list is at its outcome
abbrev EndsBy : (ℕ → Option steps.Member) → List ℕ → List Outcome → Type 0
EndsBy f [] [] = Unit {0}
EndsBy f (t ∷ ts) (o ∷ os) = ((m : steps.Member) × (f t ≡ Some m) × (outcome_of m.term ≡ Some o)) × EndsBy f ts os
EndsBy f _ _ = ⊥

outcomes_end : (f : ℕ → Option steps.Member) (end : List steps.Member) (os : List Outcome) → ((i : ℕ) (m : steps.Member) → slice_get end i ≡ Some m → f m.thread ≡ Some m)
    → EndsBy f (threads_of end) os → outcomes_of end ≡ Some os
outcomes_end f [] [] own e = refl
outcomes_end f [] (o ∷ os) own e = absurd e
outcomes_end f (m ∷ ms) [] own e = absurd e
outcomes_end f (m ∷ ms) (o ∷ os) own ((n, fn, on), rest) =
    let one : m ≡ n = (let k : Some m ≡ Some n = sym (own 0 m refl) ∙ fn in cc) in
    ap₂ and_outcome (ap (λ k. outcome_of k.term) one ∙ on) (outcomes_end f ms os (λ i k h. own (suc i) k h) rest)

ends_by : (g : List steps.Member) (ps : List Path) (f : ℕ → Option steps.Member) → ((t : ℕ) (x : Path) → joint ps t ≡ Some x → f t ≡ path_state g x)
    → (ts : List ℕ) (os : List Outcome) → EndSo g ps ts os → EndsBy f ts os
ends_by g ps f by [] [] e = tt
ends_by g ps f by (t ∷ ts) (o ∷ os) e = ((e.0.member, by t e.0.path e.0.named ∙ e.0.state, e.0.ends), ends_by g ps f by ts os e.1)
ends_by g ps f by [] (o ∷ os) e = absurd e
ends_by g ps f by (t ∷ ts) [] e = absurd e

-- ---- places

by_length : {A B : Type 0} (f : A → B) (xs : List A) → length (map f xs) ≡ length xs
by_length f [] = refl
by_length f (x ∷ xs) = ap suc (by_length f xs)

place_low : (group : List steps.Member) (t : ℕ) → has_number (threads_of group) t ≡ true → place_of t group < length group
place_low group t h = (let m : (m : steps.Member) × (member_of t group ≡ Some m) = number_member group t h in get_low group m.0 (place_of t group) (member_stands t group m.0 m.1))

rise_at : (low : ℕ) (g : List steps.Member) (i : ℕ) (m : steps.Member) → RiseFrom low g → slice_get g i ≡ Some m → low < m.thread
rise_at low [] i m r e = cc
rise_at low (n ∷ ns) zero m r e = (let one : n ≡ m = cc in subst (λ k. low < k.thread) one r.0)
rise_at low (n ∷ ns) (suc i) m r e = (let h : n.thread < m.thread = rise_at n.thread ns i m r.1 e in let k : low < n.thread = r.0 in omega (arith, h, k))

group_rest : (n : steps.Member) (ns : List steps.Member) → IsGroup (n ∷ ns) → IsGroup ns
group_rest n [] r = tt
group_rest n (m ∷ ms) r = r.1

place_at : (group : List steps.Member) → IsGroup group → (i : ℕ) (m : steps.Member) → slice_get group i ≡ Some m → place_of m.thread group ≡ i
place_at [] r i m e = cc
place_at (n ∷ ns) r zero m e = (let one : n ≡ m = cc in ap (λ o. cond o 0 (suc (place_of m.thread ns))) (eq-eqb n.thread m.thread (ap (λ k. k.thread) one)))
place_at (n ∷ ns) r (suc i) m e = (let h : n.thread < m.thread = rise_at n.thread ns i m r e in go (nat_eq n.thread m.thread) refl h (place_at ns (group_rest n ns r) i m e))
  where
    go : (o : Bool) → nat_eq n.thread m.thread ≡ o → n.thread < m.thread → place_of m.thread ns ≡ i → cond o 0 (suc (place_of m.thread ns)) ≡ suc i
    go true w h ih = (let same : n.thread ≡ m.thread = eqb-true n.thread m.thread w in absurd (omega (arith, same, h)))
    go false w h ih = ap suc ih

-- ---- meetings are of members

pub meetings_in : (g : List steps.Member) (paths : List Path) (threads : List ℕ) (joined : List (Option ℕ)) (ps : List Path) → Picks g paths threads joined ps → (names : List ℕ)
    → ((t : ℕ) → touched ps t ≡ true → has_number names t ≡ true) → (rest : List Path) → AreMeetingsOf names (labels_of (any_rests_on ps) rest)
meetings_in g paths threads joined ps p names named [] = tt
meetings_in g paths threads joined ps p names named (x ∷ rest) = go (meetings_in g paths threads joined ps p names named rest) x (any_rests_on ps x) refl
  where
    go : AreMeetingsOf names (labels_of (any_rests_on ps) rest) → (x : Path) (o : Bool) → any_rests_on ps x ≡ o → AreMeetingsOf names (cond o (labels_of_move x) [] ++ labels_of (any_rests_on ps) rest)
    go ih x false e = ih
    go ih (planted t) true e = ih
    go ih (branched q l) true e = ih
    go ih (sent s r) true e = (named (thread_of s) (past_touched g paths threads joined ps p (sent s r) e), named (thread_of r) (past_touched g paths threads joined ps p (got s r) e), ih)
    go ih (got s r) true e = ih

pub touched_named : (g : List steps.Member) (paths : List Path) (threads : List ℕ) (joined : List (Option ℕ)) (ps : List Path) → Picks g paths threads joined ps → (t : ℕ)
    → touched ps t ≡ true → has_number (threads_of (part (touched ps) g)) t ≡ true
touched_named g paths threads joined ps p t e =
    let x : (x : Path) × (joint ps t ≡ Some x) = touched_path ps t e in
    let m : (m : steps.Member) × (member_of (thread_of x.0) g ≡ Some m) = state_member g x.0 (p.crew.team.states x.0 (p.all t x.0 x.1)) in
    let same : thread_of x.0 ≡ t = (joint_past g ps p.crew.team t x.0 x.1).1 in
    member_number (part (touched ps) g) t m.0 (part_at (touched ps) t g e ∙ ap (λ k. member_of k g) (sym same) ∙ m.1)

-- ---- tight

sides_kept : (group : List steps.Member) (side : ℕ → Bool) (word : List Label) → AreMeetingsOf (threads_of group) word → KeepsSides (length group) side (meetings_of group word)
    → Uncrossed (λ t. side (place_of t group)) word
sides_kept group side [] a k = tt
sides_kept group side (choice t l ∷ word) a k = sides_kept group side word a k
sides_kept group side (meeting s r ∷ word) a k = (k.0 (place_low group s a.0) (place_low group r a.1), sides_kept group side word a.2 k.1)

-- ---- the certificate

pub certified : (parked : List Parked) (paths : List Path) (threads : List ℕ) (joined : List (Option ℕ)) (ps : List Path) (word : List Label) (cert : Certificate)
    (outcomes : List Outcome) (names : List ℕ) → IsGroup (as_group parked) → Picks (as_group parked) paths threads joined ps → word ≡ labels_of (any_rests_on ps) paths
    → AreMembers (as_group parked) ps word parked cert.members names outcomes → cert.meets ≡ meetings_of (part (touched ps) (as_group parked)) word → IsGroupOf parked cert outcomes
certified parked paths threads joined ps word cert outcomes names rise p is_word are meets = record {
  events = events_by side parked;
  some_member = λ none. nobody (sym (group_by side word parked) ∙ ap (λ l. group_of l (events_by side parked)) (sym are.are ∙ none));
  rise = subst ThreadsRise (sym are.are) (rise_by side word parked rise);
  placed = subst (λ l. ArePlacedIn parked l (events_by side parked)) (sym are.are) (placed_by side word parked);
  plays = record { word = played.0; plays = plays };
  tight = tight;
}
  where
    g : List steps.Member
    g = as_group parked

    side : ℕ → Bool
    side = touched ps

    group : List steps.Member
    group = part side g

    same_part : part (taken ps) g ≡ group
    same_part = part_same (taken ps) side g (taken_touched g paths threads joined ps p)

    of : GroupOf g paths ps p.start
    of = sound g paths p.store p.start ps p.crew.team p.crew.made_all p.reached (λ x e. taken_touched g paths threads joined ps p (thread_of x) ∙ past_touched g paths threads joined ps p x e)

    is_group : IsGroup group
    is_group = group_part side g rise

    reached : after of.actions group ≡ Some of.end
    reached = ap (after of.actions) (sym same_part) ∙ of.reached

    end_threads : threads_of of.end ≡ threads_of group
    end_threads = chain_threads of.actions group of.end reached

    names_are : names ≡ threads_of group
    names_are = are.names_are ∙ ap (map thread_of_member) are.are ∙ threads_by side word parked

    ends : outcomes_of of.end ≡ Some outcomes
    ends = outcomes_end (λ t. member_of t of.end) of.end outcomes (λ i m e. found_at of.end i m (group_stays group of.end end_threads is_group) e)
        (subst (λ l. EndsBy (λ t. member_of t of.end) l outcomes) (names_are ∙ sym end_threads)
        (ends_by g ps (λ t. member_of t of.end) (λ t x e. ap (λ k. member_of k of.end) (sym (joint_past g ps p.crew.team t x e).1)
        ∙ of.stands x (p.all t x e)) names outcomes are.end_so))

    reduces : Reduces group word outcomes
    reduces = record { actions = of.actions; end = of.end; labels_are = of.labelled ∙ sym is_word; reaches = reached; ends_so = ends }

    played : (played : List Label) × (play group (choices_of group word) (meetings_of group word) ≡ Ok (record { outcomes = outcomes; word = played }))
    played = reductions_play group word outcomes is_group reduces

    plays : play (group_of cert.members (events_by side parked)) (map (λ m. m.choices) cert.members) cert.meets ≡ Ok (record { outcomes = outcomes; word = played.0 })
    plays = ap (λ l. play (group_of l (events_by side parked)) (map (λ m. m.choices) l) cert.meets) are.are ∙ ap₂ (λ a b. play a b cert.meets) (group_by side word parked)
        (choices_by side word parked) ∙ ap (play group (choices_of group word)) meets ∙ played.1

    started : (m : steps.Member) × (member_of (thread_of p.start) group ≡ Some m)
    started = (let h : Holds ps p.start = reach_holds p.start ps p.reached in let m : (m : steps.Member) × (member_of (thread_of p.start) g ≡ Some m) = state_member g p.start
        (p.crew.team.states p.start h) in (m.0, part_at side (thread_of p.start) g (picked_touched g paths threads joined ps p p.start h) ∙ m.1))

    nobody : group ≡ [] → ⊥
    nobody none = (let e : member_of (thread_of p.start) [] ≡ Some started.0 = ap (member_of (thread_of p.start)) (sym none) ∙ started.1 in clash e)
      where
        clash : None ≡ Some started.0 → ⊥
        clash e = cc

    as_long : length cert.members ≡ length group
    as_long = ap length are.are ∙ sym (by_length thread_of_member (members_by side word parked)) ∙ ap length (threads_by side word parked) ∙ by_length (λ m. m.thread) group

    one_side : (side2 : ℕ → Bool) → KeepsSides (length cert.members) side2 cert.meets → (i : ℕ) → i < length cert.members → side2 i ≡ side2 (place_of (thread_of p.start) group)
    one_side side2 keeps i low =
        let m : (m : steps.Member) × (slice_get group i ≡ Some m) = get_some group i (omega (arith, low, as_long)) in
        let t : side m.0.thread ≡ true = part_side side g i m.0 m.1 in
        ap side2 (sym (place_at group is_group i m.0 m.1)) ∙ of.tight (λ t. side2 (place_of t group))
        (subst (Uncrossed (λ t. side2 (place_of t group))) is_word
        (sides_kept group side2 word (subst (AreMeetingsOf (threads_of group)) (sym is_word)
        (meetings_in g paths threads joined ps p (threads_of group) (touched_named g paths threads joined ps p) paths))
        (subst₂ (λ n l. KeepsSides n side2 l) as_long meets keeps))) m.0.thread (taken_touched g paths threads joined ps p m.0.thread ∙ t)

    tight : (side2 : ℕ → Bool) → KeepsSides (length cert.members) side2 cert.meets → (i j : ℕ) → i < length cert.members → j < length cert.members → side2 i ≡ side2 j
    tight side2 keeps i j li lj = one_side side2 keeps i li ∙ sym (one_side side2 keeps j lj)
