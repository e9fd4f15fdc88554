-- Two refusals of one entry after one history are equal, but for want of memory.
use Rattle.std.proofs.Common.{◌≡◌, ◌≢◌, ◌⊎◌, inl, inr, ℕ, ◌<◌, ◌≤◌, zero, suc, true, List, [], ◌∷◌, Some, Result, Err, length, refl, ap, sym, ◌∙◌, subst, arith}
use Rattle.std.specs.List.{slice_get, AllByRecursion}
use Rattle.std.proofs.lemmas.Bool.{cases_lt}
use Rattle.std.proofs.lemmas.Option.{slice_get_within}
use Rattle.te_terms.specs.declared.event.Outcome.{Outcome}
use Rattle.te_terms.specs.Terms.{Term}
use Rattle.te_cert.specs.declared.cert.Member.{Member}
use Rattle.te_cert.specs.declared.cert.CertFault.{CertFault}
use Rattle.te_cert.specs.declared.cert.CertFault.TheVariants as unsound
use Rattle.te_cert.specs.Certificates.{Certificate}
use Rattle.te_cert.specs.Checks.{HasOrder, IsOutOfOrder, IsFirstAstray, IsFormed, IsChecked, Gives, played}
use Rattle.te_cert.specs.Play.{PlayFault, Played, no_letter, no_meeting, unfinished, letters_left}
use Rattle.te_cert.proofs.Accepted.{accepted}
use Rattle.te_history.specs.declared.entry.Entry.{Entry}
use Rattle.te_history.specs.declared.entry.Entry.TheVariants as entries
use Rattle.te_history.specs.declared.entry.StepFault.{StepFault}
use Rattle.te_history.specs.declared.entry.StepFault.TheVariants as faults
use Rattle.te_history.specs.declared.status.How.{How}
use Rattle.te_history.specs.declared.status.How.TheVariants as ways
use Rattle.te_history.specs.declared.status.Status.{Status}
use Rattle.te_history.specs.declared.status.Status.TheVariants as statuses
use Rattle.te_history.specs.State.{Standing, parked, State, posts_by}
use Rattle.te_history.specs.Follows.{Stands, IsParkedOrEnded, caller_of}
use Rattle.te_history.specs.Histories.{History, now, HasStatus}
use Rattle.te_history.specs.Refusals.{IsFirstLive, AreCallers, IsFirstStranger, IsFirstStale, AreParked, IsFirstOther}
use Rattle.te_history.specs.Refusals.{RefusesPost, RefusesWithdraw, RefusesTake, RefusesRest, RefusesStuck, RefusesEnd}
use Rattle.te_history.specs.Refusals.{RefusesCommit, RefusesEntry, IsEndEntry, IsOpenFor, IsRefused}
use Rattle.te_history.proofs.AfterEntry.{length-state}
use Rattle.te_history.proofs.Events.{length-parked}
use Rattle.te_terms.proofs.Lists.{all_at}
use Rattle.te_history.proofs.RefusedCommits.{one_status, one_play}
use Rattle.te_history.proofs.RefusedDontFollow.{parked_or_ended}

-- ---- what a state tells once

one_standing : (s : State) (t : ℕ) (a b : Standing) → Stands s t a → Stands s t b → a ≡ b
one_standing s t a b at at' = let both : Some a ≡ Some b = sym at ∙ at' in cc

pub statuses_are_one : (s : State) (t : ℕ) (a b : Status) → HasStatus s t a → HasStatus s t b → a ≡ b
statuses_are_one s t a b has has' = has.2 ∙ sym (one_status s t has.0 b has.1 has')

-- ---- checks of one certificate

-- what a failed play makes a check answer
fault_of : PlayFault → CertFault
fault_of (no_letter i) = unsound.Choices i
fault_of (no_meeting j) = unsound.Meet j
fault_of (unfinished i) = unsound.Unfinished i
fault_of (letters_left i) = unsound.Choices i

-- why a check fails: the order of the members, a meeting astray, or the play
data Ground (cert : Certificate) (events : List Term) (fault : CertFault) : Type 0 where
  unordered : IsOutOfOrder cert.members fault → Ground cert events fault
  astray : (j : ℕ) → fault ≡ unsound.Index j → HasOrder cert → IsFirstAstray (length cert.members) cert.meets j → Ground cert events fault
  failed : (p : PlayFault) → fault ≡ fault_of p → IsFormed cert → played cert events ≡ Err p → Ground cert events fault

ground_of : (cert : Certificate) (events : List Term) (fault : CertFault) → fault ≢ unsound.Memory → IsChecked cert events (Err fault) → Ground cert events fault
unfolding fault_of
ground_of cert events unsound.Empty found checked = unordered checked
ground_of cert events unsound.Order found checked = unordered checked
ground_of cert events (unsound.Index j) found checked = astray j refl checked.0 checked.1
ground_of cert events (unsound.Meet j) found checked = failed (no_meeting j) refl checked.0 checked.1
ground_of cert events (unsound.Choices i) found checked = elim checked.1 [
  | inl lacks ↦ failed (no_letter i) refl checked.0 lacks
  | inr left ↦ failed (letters_left i) refl checked.0 left
]
ground_of cert events (unsound.Unfinished i) found checked = failed (unfinished i) refl checked.0 checked.1
ground_of cert events unsound.Memory found checked = absurd (found refl)

one_order : (ms : List Member) (a b : CertFault) → IsOutOfOrder ms a → IsOutOfOrder ms b → a ≡ b
one_order ms unsound.Empty unsound.Empty none none' = refl
one_order ms unsound.Empty unsound.Order none falls = absurd (falls.0 none)
one_order ms unsound.Order unsound.Empty falls none = absurd (falls.0 none)
one_order ms unsound.Order unsound.Order falls falls' = refl
one_order ms unsound.Empty _ none isnt = absurd isnt
one_order ms unsound.Order _ falls isnt = absurd isnt
one_order ms _ b isnt is = absurd isnt

out_of_order : (cert : Certificate) (fault : CertFault) → IsOutOfOrder cert.members fault → HasOrder cert → ⊥
out_of_order cert unsound.Empty none order = order.some_member none
out_of_order cert unsound.Order falls order = falls.1 order.rise
out_of_order cert _ isnt order = absurd isnt

one_failure : (r : Result Played PlayFault) (p q : PlayFault) → r ≡ Err p → r ≡ Err q → p ≡ q
one_failure r p q first second = let both : Err p ≡ Err q = sym first ∙ second in cc

one_ground : (cert : Certificate) (events : List Term) (a b : CertFault) → Ground cert events a → Ground cert events b → a ≡ b
one_ground cert events a b (unordered out) (unordered out') = one_order cert.members a b out out'
one_ground cert events a b (unordered out) (astray j is order first) = absurd (out_of_order cert a out order)
one_ground cert events a b (unordered out) (failed p is formed plays) = absurd (out_of_order cert a out formed.order)
one_ground cert events a b (astray j is order first) (unordered out) = absurd (out_of_order cert b out order)
one_ground cert events a b (astray j is order first) (astray i is' order' first') =
    let same : j ≡ i = astray_once cert j i first first' in is ∙ ap unsound.Index same ∙ sym is'
  where
    astray_once : (cert : Certificate) (j i : ℕ) → IsFirstAstray (length cert.members) cert.meets j → IsFirstAstray (length cert.members) cert.meets i → j ≡ i
    astray_once cert j i first first' = by_side (cases_lt j i) (cases_lt i j)
      where
        by_side : (j < i) ⊎ (i ≤ j) → (i < j) ⊎ (j ≤ i) → j ≡ i
        by_side (inl low) other = absurd (first.astray (first'.before j first.meeting low first.is_there))
        by_side (inr _) (inl low) = absurd (first'.astray (first.before i first'.meeting low first'.is_there))
        by_side (inr high) (inr high') = omega arith
one_ground cert events a b (astray j is order first) (failed p is' formed plays) = absurd (first.astray (formed.between j first.meeting first.is_there))
one_ground cert events a b (failed p is formed plays) (unordered out) = absurd (out_of_order cert b out formed.order)
one_ground cert events a b (failed p is formed plays) (astray j is' order first) = absurd (first.astray (formed.between j first.meeting first.is_there))
one_ground cert events a b (failed p is formed plays) (failed q is' formed' plays') =
    is ∙ ap fault_of (one_failure _ p q plays plays') ∙ sym is'

-- two refusals of a check are one
pub checks_are_one : (cert : Certificate) (events : List Term) (a b : CertFault) → a ≢ unsound.Memory → b ≢ unsound.Memory → IsChecked cert events (Err a)
    → IsChecked cert events (Err b) → a ≡ b
checks_are_one cert events a b found found' checked checked' =
    one_ground cert events a b (ground_of cert events a found checked) (ground_of cert events b found' checked')

-- ---- commits

-- the events that members are parked with are one list
pub one_list : (s : State) (ms : List Member) (es fs : List Term) → AreParked s ms es → AreParked s ms fs → es ≡ fs
one_list s [] [] [] all all' = refl
one_list s (m ∷ ms) (e ∷ es) (f ∷ fs) all all' =
    let both : parked m.ticket e ≡ parked m.ticket f = one_standing s m.thread _ _ all.0 all'.0 in
    let first : e ≡ f = cc in
    let rest : es ≡ fs = one_list s ms es fs all.1 all'.1 in
    cc
one_list s [] (e ∷ es) fs all all' = absurd all
one_list s [] [] (f ∷ fs) all all' = absurd all'
one_list s (m ∷ ms) [] fs all all' = absurd all
one_list s (m ∷ ms) (e ∷ es) [] all all' = absurd all'

-- a member among those that are parked
parked_there : (s : State) (ms : List Member) (es : List Term) (i : ℕ) (m : Member) → AreParked s ms es → slice_get ms i ≡ Some m
    → HasStatus s m.thread (statuses.Parked m.ticket)
parked_there s [] [] i m all is = absurd cc
parked_there s (n ∷ ns) (e ∷ es) zero m all is =
    let same : n ≡ m = cc in
    subst (λ (x : Member). HasStatus s x.thread (statuses.Parked x.ticket)) same (parked n.ticket e, all.0, refl)
parked_there s (n ∷ ns) (e ∷ es) (suc i) m all is = parked_there s ns es i m all.1 is
parked_there s [] (e ∷ es) i m all is = absurd all
parked_there s (n ∷ ns) [] i m all is = absurd all

-- why a commit is refused: the order of its members, a stranger, a member that isn't parked, the check, or an outcome
data Refusal (callers : ℕ) (s : State) (cert : Certificate) (outcomes : List Outcome) (fault : StepFault) : Type 0 where
  unordered : (found : CertFault) → fault ≡ faults.Unsound found → IsOutOfOrder cert.members found → Refusal callers s cert outcomes fault
  stranger : (i : ℕ) → fault ≡ faults.Stranger i → HasOrder cert → IsFirstStranger callers cert.members i → Refusal callers s cert outcomes fault
  stale : (i : ℕ) (status : Status) → fault ≡ faults.Stale i status → HasOrder cert → AreCallers callers cert.members → IsFirstStale s cert.members i status
      → Refusal callers s cert outcomes fault
  failed : (found : CertFault) → fault ≡ faults.Unsound found → found ≢ unsound.Memory → HasOrder cert → (events : List Term)
      → AreParked s cert.members events → IsChecked cert events (Err found) → Refusal callers s cert outcomes fault
  other : (i : ℕ) → fault ≡ faults.Result i → HasOrder cert → (events : List Term) (gives : List Outcome) → AreParked s cert.members events
      → Gives cert events gives → IsFirstOther outcomes gives i → Refusal callers s cert outcomes fault

refusal_of : (callers : ℕ) (s : State) (cert : Certificate) (outcomes : List Outcome) (fault : StepFault) → fault ≢ faults.Memory
    → RefusesCommit callers s cert outcomes fault → Refusal callers s cert outcomes fault
refusal_of callers s cert outcomes (faults.Unsound unsound.Empty) found refuses = unordered unsound.Empty refl refuses
refusal_of callers s cert outcomes (faults.Unsound unsound.Order) found refuses = unordered unsound.Order refl refuses
refusal_of callers s cert outcomes (faults.Unsound unsound.Memory) found refuses = absurd refuses
refusal_of callers s cert outcomes (faults.Unsound (unsound.Index j)) found refuses =
    failed (unsound.Index j) refl (λ is. cc) refuses.2.0 refuses.0 refuses.1 refuses.2
refusal_of callers s cert outcomes (faults.Unsound (unsound.Meet j)) found refuses =
    failed (unsound.Meet j) refl (λ is. cc) refuses.2.0.order refuses.0 refuses.1 refuses.2
refusal_of callers s cert outcomes (faults.Unsound (unsound.Choices i)) found refuses =
    failed (unsound.Choices i) refl (λ is. cc) refuses.2.0.order refuses.0 refuses.1 refuses.2
refusal_of callers s cert outcomes (faults.Unsound (unsound.Unfinished i)) found refuses =
    failed (unsound.Unfinished i) refl (λ is. cc) refuses.2.0.order refuses.0 refuses.1 refuses.2
refusal_of callers s cert outcomes (faults.Stranger i) found refuses = stranger i refl refuses.0 refuses.1
refusal_of callers s cert outcomes (faults.Stale i status) found refuses = stale i status refl refuses.0 refuses.1 refuses.2
refusal_of callers s cert outcomes (faults.Result i) found refuses =
    other i refl refuses.0 refuses.1.0 refuses.1.1 refuses.1.2 refuses.1.3 refuses.1.4
refusal_of callers s cert outcomes faults.Memory found refuses = absurd (found refl)
refusal_of callers s cert outcomes _ found refuses = absurd refuses

module _ (callers : ℕ) (s : State) (cert : Certificate) (size : length s.callers ≡ callers) where
  -- members that are parked are callers
  no_stranger : (i : ℕ) (es : List Term) → IsFirstStranger callers cert.members i → AreParked s cert.members es → ⊥
  no_stranger i es first all =
      let has = parked_there s cert.members es i first.member all first.is_there in
      let low = slice_get_within s.callers first.member.thread has.0 has.1 in
      let high = first.stranger in
      omega arith

  no_stale : (i : ℕ) (status : Status) (es : List Term) → IsFirstStale s cert.members i status → AreParked s cert.members es → ⊥
  no_stale i status es first all =
      first.stale (statuses_are_one s first.member.thread status _ first.stands (parked_there s cert.members es i first.member all first.is_there))

  caller_stranger : (i : ℕ) → IsFirstStranger callers cert.members i → AreCallers callers cert.members → ⊥
  caller_stranger i first all = let low = all i first.member first.is_there in let high = first.stranger in omega arith

  strangers_are_one : (i j : ℕ) → IsFirstStranger callers cert.members i → IsFirstStranger callers cert.members j → i ≡ j
  strangers_are_one i j first first' = by_side (cases_lt i j) (cases_lt j i)
    where
      by_side : (i < j) ⊎ (j ≤ i) → (j < i) ⊎ (i ≤ j) → i ≡ j
      by_side (inl low) _ = let less = first'.before i first.member low first.is_there in let high = first.stranger in absurd (omega arith)
      by_side (inr _) (inl low) = let less = first.before j first'.member low first'.is_there in let high = first'.stranger in absurd (omega arith)
      by_side (inr high) (inr high') = omega arith

  stale_places : (i j : ℕ) (a b : Status) → IsFirstStale s cert.members i a → IsFirstStale s cert.members j b → i ≡ j
  stale_places i j a b first first' = by_side (cases_lt i j) (cases_lt j i)
    where
      by_side : (i < j) ⊎ (j ≤ i) → (j < i) ⊎ (i ≤ j) → i ≡ j
      by_side (inl low) _ = absurd (first.stale (statuses_are_one s first.member.thread a _ first.stands (first'.before i first.member low first.is_there)))
      by_side (inr _) (inl low) = absurd (first'.stale (statuses_are_one s first'.member.thread b _ first'.stands (first.before j first'.member low first'.is_there)))
      by_side (inr high) (inr high') = omega arith

  stale_statuses : (i j : ℕ) (a b : Status) → i ≡ j → IsFirstStale s cert.members i a → IsFirstStale s cert.members j b → a ≡ b
  stale_statuses i j a b same first first' =
      let both : Some first.member ≡ Some first'.member = sym first.is_there ∙ ap (slice_get cert.members) same ∙ first'.is_there in
      let one : first.member ≡ first'.member = cc in
      statuses_are_one s first'.member.thread a b (subst (λ (m : Member). HasStatus s m.thread a) one first.stands) first'.stands

  others_are_one : (os ps : List Outcome) (i j : ℕ) → IsFirstOther os ps i → IsFirstOther os ps j → i ≡ j
  others_are_one os ps i j first first' = by_side (cases_lt i j) (cases_lt j i)
    where
      by_side : (i < j) ⊎ (j ≤ i) → (j < i) ⊎ (i ≤ j) → i ≡ j
      by_side (inl low) _ = absurd (first.other (first'.before i low))
      by_side (inr _) (inl low) = absurd (first'.other (first.before j low))
      by_side (inr high) (inr high') = omega arith

  one_answer : (events : List Term) (os ps : List Outcome) → Gives cert events os → Gives cert events ps → os ≡ ps
  one_answer events os ps gives gives' = ap (λ (p : Played). p.outcomes) (one_play (played cert events) _ _ gives.plays gives'.plays)

  -- a play that gives outcomes passes the check
  no_failure : (events : List Term) (os : List Outcome) (fault : CertFault) → fault ≢ unsound.Memory → HasOrder cert → AreParked s cert.members events
      → IsChecked cert events (Err fault) → Gives cert events os → ⊥
  no_failure events os fault found order all checked gives =
      elim (accepted cert events os (Err fault) (sym (length-parked s cert.members events all)) checked order gives) [
        | inl ok ↦ absurd cc
        | inr none ↦ found cc
      ]

  one_refusal : (outcomes : List Outcome) (a b : StepFault) → Refusal callers s cert outcomes a → Refusal callers s cert outcomes b → a ≡ b
  one_refusal os a b (unordered f is out) (unordered g is' out') = is ∙ ap faults.Unsound (one_order cert.members f g out out') ∙ sym is'
  one_refusal os a b (unordered f is out) (stranger _ _ order _) = absurd (out_of_order cert f out order)
  one_refusal os a b (unordered f is out) (stale _ _ _ order _ _) = absurd (out_of_order cert f out order)
  one_refusal os a b (unordered f is out) (failed _ _ _ order _ _ _) = absurd (out_of_order cert f out order)
  one_refusal os a b (unordered f is out) (other _ _ order _ _ _ _ _) = absurd (out_of_order cert f out order)
  one_refusal os a b (stranger i is order first) (unordered g is' out) = absurd (out_of_order cert g out order)
  one_refusal os a b (stranger i is order first) (stranger j is' order' first') = is ∙ ap faults.Stranger (strangers_are_one i j first first') ∙ sym is'
  one_refusal os a b (stranger i is order first) (stale _ _ _ _ all _) = absurd (caller_stranger i first all)
  one_refusal os a b (stranger i is order first) (failed _ _ _ _ es all _) = absurd (no_stranger i es first all)
  one_refusal os a b (stranger i is order first) (other _ _ _ es _ all _ _) = absurd (no_stranger i es first all)
  one_refusal os a b (stale i x is order all first) (unordered g is' out) = absurd (out_of_order cert g out order)
  one_refusal os a b (stale i x is order all first) (stranger j _ _ first') = absurd (caller_stranger j first' all)
  one_refusal os a b (stale i x is order all first) (stale j y is' order' all' first') =
      let same = stale_places i j x y first first' in
      is ∙ ap (λ (n : ℕ). faults.Stale n x) same ∙ ap (faults.Stale j) (stale_statuses i j x y same first first') ∙ sym is'
  one_refusal os a b (stale i x is order all first) (failed _ _ _ _ es parked_all _) = absurd (no_stale i x es first parked_all)
  one_refusal os a b (stale i x is order all first) (other _ _ _ es _ parked_all _ _) = absurd (no_stale i x es first parked_all)
  one_refusal os a b (failed f is found order es all checked) (unordered g is' out) = absurd (out_of_order cert g out order)
  one_refusal os a b (failed f is found order es all checked) (stranger j _ _ first) = absurd (no_stranger j es first all)
  one_refusal os a b (failed f is found order es all checked) (stale j y _ _ _ first) = absurd (no_stale j y es first all)
  one_refusal os a b (failed f is found order es all checked) (failed g is' found' order' fs all' checked') =
      let same = one_list s cert.members fs es all' all in
      is
      ∙ ap faults.Unsound (checks_are_one cert es f g found found' checked (subst (λ (l : List Term). IsChecked cert l (Err g)) same checked'))
      ∙ sym is'
  one_refusal os a b (failed f is found order es all checked) (other _ _ _ fs gives all' plays _) =
      absurd (no_failure es gives f found order all checked (subst (λ (l : List Term). Gives cert l gives) (one_list s cert.members fs es all' all) plays))
  one_refusal os a b (other i is order es gives all plays first) (unordered g is' out) = absurd (out_of_order cert g out order)
  one_refusal os a b (other i is order es gives all plays first) (stranger j _ _ first') = absurd (no_stranger j es first' all)
  one_refusal os a b (other i is order es gives all plays first) (stale j y _ _ _ first') = absurd (no_stale j y es first' all)
  one_refusal os a b (other i is order es gives all plays first) (failed g _ found _ fs all' checked) =
      absurd (no_failure fs gives g found order all' checked (subst (λ (l : List Term). Gives cert l gives) (one_list s cert.members es fs all all') plays))
  one_refusal os a b (other i is order es gives all plays first) (other j is' order' fs gives' all' plays' first') =
      let plays'' = subst (λ (l : List Term). Gives cert l gives') (one_list s cert.members fs es all' all) plays' in
      let same = one_answer es gives' gives plays'' plays in
      is ∙ ap faults.Result (others_are_one os gives i j first (subst (λ (l : List Outcome). IsFirstOther os l j) same first')) ∙ sym is'

-- ---- the other entries

one_post : (s : State) (posts by ticket : ℕ) (a b : StepFault) → RefusesPost s posts by ticket a → RefusesPost s posts by ticket b → a ≡ b
one_post s posts by ticket (faults.Other x) (faults.Other y) r q = ap faults.Other (statuses_are_one s by x y r.0 q.0)
one_post s posts by ticket (faults.Other x) (faults.Ticket n) r q = absurd (r.1 (statuses_are_one s by x _ r.0 q.0))
one_post s posts by ticket (faults.Ticket m) (faults.Other y) r q = absurd (q.1 (statuses_are_one s by y _ q.0 r.0))
one_post s posts by ticket (faults.Ticket m) (faults.Ticket n) r q = ap faults.Ticket (r.1 ∙ sym q.1)
one_post s posts by ticket (faults.Other x) _ r q = absurd q
one_post s posts by ticket (faults.Ticket m) _ r q = absurd q
one_post s posts by ticket _ b r q = absurd r

one_withdraw : (s : State) (by ticket : ℕ) (a b : StepFault) → RefusesWithdraw s by ticket a → RefusesWithdraw s by ticket b → a ≡ b
one_withdraw s by ticket (faults.Other x) (faults.Other y) r q = ap faults.Other (statuses_are_one s by x y r.0 q.0)
one_withdraw s by ticket (faults.Other x) (faults.Ticket n) r q = absurd (r.1 n (statuses_are_one s by x _ r.0 q.0))
one_withdraw s by ticket (faults.Ticket m) (faults.Other y) r q = absurd (q.1 m (statuses_are_one s by y _ q.0 r.0))
one_withdraw s by ticket (faults.Ticket m) (faults.Ticket n) r q =
    let both : statuses.Parked m ≡ statuses.Parked n = statuses_are_one s by _ _ r.0 q.0 in cc
one_withdraw s by ticket (faults.Other x) _ r q = absurd q
one_withdraw s by ticket (faults.Ticket m) _ r q = absurd q
one_withdraw s by ticket _ b r q = absurd r

one_take : (s : State) (by ticket : ℕ) (outcome : Outcome) (a b : StepFault) → RefusesTake s by ticket outcome a → RefusesTake s by ticket outcome b → a ≡ b
one_take s by ticket o (faults.Other x) (faults.Other y) r q = ap faults.Other (statuses_are_one s by x y r.0 q.0)
one_take s by ticket o (faults.Other x) (faults.Ticket n) r q = absurd (r.1 n q.0.0 (statuses_are_one s by x _ r.0 q.0.1))
one_take s by ticket o (faults.Other x) (faults.Result j) r q = absurd (r.1 ticket q.1.0 (statuses_are_one s by x _ r.0 q.1.1))
one_take s by ticket o (faults.Ticket m) (faults.Other y) r q = absurd (q.1 m r.0.0 (statuses_are_one s by y _ q.0 r.0.1))
one_take s by ticket o (faults.Ticket m) (faults.Ticket n) r q =
    let both : statuses.Given m r.0.0 ≡ statuses.Given n q.0.0 = statuses_are_one s by _ _ r.0.1 q.0.1 in cc
one_take s by ticket o (faults.Ticket m) (faults.Result j) r q =
    let both : statuses.Given m r.0.0 ≡ statuses.Given ticket q.1.0 = statuses_are_one s by _ _ r.0.1 q.1.1 in absurd (r.1 cc)
one_take s by ticket o (faults.Result i) (faults.Other y) r q = absurd (q.1 ticket r.1.0 (statuses_are_one s by y _ q.0 r.1.1))
one_take s by ticket o (faults.Result i) (faults.Ticket n) r q =
    let both : statuses.Given n q.0.0 ≡ statuses.Given ticket r.1.0 = statuses_are_one s by _ _ q.0.1 r.1.1 in absurd (q.1 cc)
one_take s by ticket o (faults.Result i) (faults.Result j) r q = ap faults.Result (r.0 ∙ sym q.0)
one_take s by ticket o (faults.Other x) _ r q = absurd q
one_take s by ticket o (faults.Ticket m) _ r q = absurd q
one_take s by ticket o (faults.Result i) _ r q = absurd q
one_take s by ticket o _ b r q = absurd r

one_rest : (s : State) (a b : StepFault) → RefusesRest s a → RefusesRest s b → a ≡ b
one_rest s faults.Resting faults.Resting r q = refl
one_rest s faults.Resting _ r q = absurd q
one_rest s _ b r q = absurd r

-- the lowest caller that is neither parked nor ended is one
one_live : (s : State) (t u : ℕ) (a b : Status) → IsFirstLive s t a → IsFirstLive s u b → faults.Live t a ≡ faults.Live u b
one_live s t u a b live live' =
    let same = by_side (cases_lt t u) (cases_lt u t) in
    ap (λ (n : ℕ). faults.Live n a) same ∙ ap (faults.Live u) (statuses_are_one s u a b (subst (λ (n : ℕ). HasStatus s n a) same live.stands) live'.stands)
  where
    by_side : (t < u) ⊎ (u ≤ t) → (u < t) ⊎ (t ≤ u) → t ≡ u
    by_side (inl low) _ =
        let has = live.stands in absurd (parked_or_ended s t a has.0 has.1 has (live'.before t has.0 low has.1) live.not_parked live.not_ended)
    by_side (inr _) (inl low) =
        let has = live'.stands in absurd (parked_or_ended s u b has.0 has.1 has (live.before u has.0 low has.1) live'.not_parked live'.not_ended)
    by_side (inr high) (inr high') = omega arith

no_live : (s : State) (t : ℕ) (status : Status) → IsFirstLive s t status → AllByRecursion IsParkedOrEnded s.callers → ⊥
no_live s t status live all =
    let has = live.stands in
    parked_or_ended s t status has.0 has.1 has (all_at IsParkedOrEnded s.callers t has.0 all has.1) live.not_parked live.not_ended

one_stuck : (s : State) (by : ℕ) (a b : StepFault) → RefusesStuck s by a → RefusesStuck s by b → a ≡ b
one_stuck s by (faults.Live t x) (faults.Live u y) r q = one_live s t u x y r q
one_stuck s by (faults.Live t x) (faults.Other y) r q = absurd (no_live s t x r q.0)
one_stuck s by (faults.Other x) (faults.Live u y) r q = absurd (no_live s u y q r.0)
one_stuck s by (faults.Other x) (faults.Other y) r q = ap faults.Other (statuses_are_one s by x y r.1 q.1)
one_stuck s by (faults.Live t x) _ r q = absurd q
one_stuck s by (faults.Other x) _ r q = absurd q
one_stuck s by _ b r q = absurd r

one_end : (s : State) (by : ℕ) (how : How) (a b : StepFault) → RefusesEnd s by how a → RefusesEnd s by how b → a ≡ b
one_end s by ways.Stuck faults.How faults.How r q = refl
one_end s by ways.Stuck faults.How (faults.Other y) r q = let stuck = q.0 in absurd cc
one_end s by ways.Stuck (faults.Other x) faults.How r q = let stuck = r.0 in absurd cc
one_end s by ways.Stuck (faults.Other x) (faults.Other y) r q = ap faults.Other (statuses_are_one s by x y r.1 q.1)
one_end s by (ways.Done values) faults.How faults.How r q = refl
one_end s by (ways.Done values) faults.How (faults.Other y) r q = let runs = q.0 in absurd cc
one_end s by (ways.Done values) (faults.Other x) faults.How r q = let runs = r.0 in absurd cc
one_end s by (ways.Done values) (faults.Other x) (faults.Other y) r q = ap faults.Other (statuses_are_one s by x y r.1 q.1)
one_end s by (ways.Raised value) faults.How faults.How r q = refl
one_end s by (ways.Raised value) faults.How (faults.Other y) r q = let runs = q.0 in absurd cc
one_end s by (ways.Raised value) (faults.Other x) faults.How r q = let runs = r.0 in absurd cc
one_end s by (ways.Raised value) (faults.Other x) (faults.Other y) r q = ap faults.Other (statuses_are_one s by x y r.1 q.1)
one_end s by ways.Stuck faults.How _ r q = absurd q
one_end s by ways.Stuck (faults.Other x) _ r q = absurd q
one_end s by ways.Stuck _ b r q = absurd r
one_end s by (ways.Done values) faults.How _ r q = absurd q
one_end s by (ways.Done values) (faults.Other x) _ r q = absurd q
one_end s by (ways.Done values) _ b r q = absurd r
one_end s by (ways.Raised value) faults.How _ r q = absurd q
one_end s by (ways.Raised value) (faults.Other x) _ r q = absurd q
one_end s by (ways.Raised value) _ b r q = absurd r

-- ---- all entries

one_need : (h : History) (e : Entry) (a b : StepFault) → a ≢ faults.Memory → b ≢ faults.Memory → RefusesEntry h e a → RefusesEntry h e b → a ≡ b
one_need h (entries.Post by ticket event) a b found found' r q = one_post (now h) (posts_by by h.entries) by ticket a b r q
one_need h (entries.Commit by cert outcomes) a b found found' r q =
    one_refusal h.callers (now h) cert (length-state h.callers h.entries) outcomes a b
    (refusal_of h.callers (now h) cert outcomes a found r)
    (refusal_of h.callers (now h) cert outcomes b found' q)
one_need h (entries.Withdraw by ticket) a b found found' r q = one_withdraw (now h) by ticket a b r q
one_need h (entries.Take by ticket outcome) a b found found' r q = one_take (now h) by ticket outcome a b r q
one_need h (entries.Rest by) a b found found' r q = one_rest (now h) a b r q
one_need h (entries.Stuck by) a b found found' r q = one_stuck (now h) by a b r q
one_need h (entries.End by how) a b found found' r q = one_end (now h) by how a b r q

-- why an entry is refused: its caller, the board, or another need
data Cause (h : History) (e : Entry) (fault : StepFault) : Type 0 where
  no_caller : fault ≡ faults.Caller → h.callers ≤ caller_of e → Cause h e fault
  closed : fault ≡ faults.Closed → caller_of e < h.callers → (¬ IsOpenFor (now h) e) → Cause h e fault
  need : caller_of e < h.callers → IsOpenFor (now h) e → RefusesEntry h e fault → Cause h e fault

not_open : (s : State) (e : Entry) → s.stuck ≡ true → ¬ IsEndEntry e → ¬ IsOpenFor s e
not_open s (entries.End by how) stuck no_end = λ open_so. no_end tt
not_open s (entries.Post by ticket event) stuck no_end = λ runs. cc
not_open s (entries.Commit by cert outcomes) stuck no_end = λ runs. cc
not_open s (entries.Withdraw by ticket) stuck no_end = λ runs. cc
not_open s (entries.Take by ticket outcome) stuck no_end = λ runs. cc
not_open s (entries.Rest by) stuck no_end = λ runs. cc
not_open s (entries.Stuck by) stuck no_end = λ runs. cc

cause_of : (h : History) (e : Entry) (fault : StepFault) → IsRefused h e fault → Cause h e fault
cause_of h e faults.Caller refused = no_caller refl refused
cause_of h e faults.Closed refused = closed refl refused.0 (not_open (now h) e refused.1 refused.2)
cause_of h e _ refused = need refused.0 refused.1 refused.2

one_cause : (h : History) (e : Entry) (a b : StepFault) → a ≢ faults.Memory → b ≢ faults.Memory → Cause h e a → Cause h e b → a ≡ b
one_cause h e a b found found' (no_caller is high) (no_caller is' high') = is ∙ sym is'
one_cause h e a b found found' (no_caller is high) (closed _ low _) = absurd (omega arith)
one_cause h e a b found found' (no_caller is high) (need low _ _) = absurd (omega arith)
one_cause h e a b found found' (closed is low shut) (no_caller _ high) = absurd (omega arith)
one_cause h e a b found found' (closed is low shut) (closed is' _ _) = is ∙ sym is'
one_cause h e a b found found' (closed is low shut) (need _ open_so _) = absurd (shut open_so)
one_cause h e a b found found' (need low open_so r) (no_caller _ high) = absurd (omega arith)
one_cause h e a b found found' (need low open_so r) (closed _ _ shut) = absurd (shut open_so)
one_cause h e a b found found' (need low open_so r) (need _ _ q) = one_need h e a b found found' r q

pub refusals_are_one : (h : History) (e : Entry) (a b : StepFault) → a ≢ faults.Memory → b ≢ faults.Memory → IsRefused h e a → IsRefused h e b → a ≡ b
refusals_are_one h e a b found found' r q = one_cause h e a b found found' (cause_of h e a r) (cause_of h e b q)
