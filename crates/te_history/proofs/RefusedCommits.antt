-- A commit that is refused doesn't follow.
use Rattle.std.proofs.Common.{◌≡◌, ◌≢◌, ℕ, zero, suc, inl, inr, List, [], ◌∷◌, Some, Result, Ok, Err, length, map, refl, ap, sym, ◌∙◌, subst, arith}
use Rattle.std.specs.List.{slice_get}
use Rattle.std.proofs.lemmas.Option.{slice_get_within}
use Rattle.te_terms.specs.declared.event.Outcome.{Outcome}
use Rattle.te_terms.specs.Terms.{Term}
use Rattle.te_terms.specs.Steps.{come_to}
use Rattle.te_terms.specs.Steps as steps
use Rattle.te_cert.specs.declared.cert.Member.{Member}
use Rattle.te_cert.specs.declared.cert.CertFault.{CertFault}
use Rattle.te_cert.specs.declared.cert.CertFault.TheVariants as unsound
use Rattle.te_cert.specs.Certificates.{Certificate}
use Rattle.te_cert.specs.Play.{PlayFault, Played, play}
use Rattle.te_cert.specs.Checks as checks
use Rattle.te_cert.proofs.Accepted.{accepted}
use Rattle.te_history.specs.declared.entry.StepFault.{StepFault}
use Rattle.te_history.specs.declared.entry.StepFault.TheVariants as faults
use Rattle.te_history.specs.declared.status.Status.{Status}
use Rattle.te_history.specs.State.{Standing, parked, State}
use Rattle.te_history.specs.Follows.{Stands, AreEvents, Commits}
use Rattle.te_history.specs.Histories.{status_of, HasStatus}
use Rattle.te_history.specs.Refusals.{AreParked, IsFirstOther, RefusesCommit}
use Rattle.te_history.proofs.Events.{length-parked}

-- a caller has one status
pub one_status : (s : State) (t : ℕ) (standing : Standing) (status : Status) → Stands s t standing → HasStatus s t status → status ≡ status_of standing
one_status s t standing status stands has =
    let both : Some has.0 ≡ Some standing = sym has.1 ∙ stands in
    let same : has.0 ≡ standing = cc in
    has.2 ∙ ap status_of same

-- ---- the members of a commit

-- a member of a commit is parked under its ticket
parked_at : (s : State) (ms : List Member) (group : List steps.Member) (i : ℕ) (m : Member) → AreEvents s ms group → slice_get ms i ≡ Some m
    → (event : Term) × Stands s m.thread (parked m.ticket event)
parked_at s [] [] i m events is = absurd cc
parked_at s (n ∷ ns) (g ∷ gs) zero m events is =
    let same : n ≡ m = cc in subst (λ (x : Member). (event : Term) × Stands s x.thread (parked x.ticket event)) same (g.term, events.1)
parked_at s (n ∷ ns) (g ∷ gs) (suc i) m events is = parked_at s ns gs i m events.2 is
parked_at s [] (g ∷ gs) i m events is = absurd events
parked_at s (n ∷ ns) [] i m events is = absurd events

-- the events of parked members make one group
one_group : (s : State) (ms : List Member) (group : List steps.Member) (events : List Term) → AreEvents s ms group → AreParked s ms events
    → group ≡ checks.group_of ms events
one_group s [] [] [] are all = refl
one_group s (m ∷ ms) (g ∷ gs) (e ∷ es) are all =
    let both : Some (parked m.ticket g.term) ≡ Some (parked m.ticket e) = sym are.1 ∙ all.0 in
    let term : g.term ≡ e = cc in
    let rest : gs ≡ checks.group_of ms es = one_group s ms gs es are.2 all.1 in
    ap (λ (x : steps.Member). x ∷ gs) (are.0 ∙ ap (come_to m.thread m.ticket 0) term) ∙ ap (λ (xs : List steps.Member). come_to m.thread m.ticket 0 e ∷ xs) rest
one_group s [] [] (e ∷ es) are all = absurd all
one_group s [] (g ∷ gs) events are all = absurd are
one_group s (m ∷ ms) [] events are all = absurd are
one_group s (m ∷ ms) (g ∷ gs) [] are all = absurd all

-- so their play gives the outcomes of the commit
plays_so : (s : State) (cert : Certificate) (outcomes : List Outcome) (events : List Term) → (commits : Commits s cert outcomes)
    → AreParked s cert.members events
    → checks.played cert events ≡ Ok (record { outcomes = outcomes; word = commits.word })
plays_so s cert outcomes events commits all =
    subst (λ (g : List steps.Member). play g (map (λ m. m.choices) cert.members) cert.meets ≡ Ok (record { outcomes = outcomes; word = commits.word }))
    (one_group s cert.members commits.group events commits.events all) commits.plays

-- ---- each refusal

not_unsound : (s : State) (cert : Certificate) (outcomes : List Outcome) (events : List Term) (fault : CertFault) → Commits s cert outcomes
    → AreParked s cert.members events → fault ≢ unsound.Memory → checks.IsChecked cert events (Err fault) → ⊥
not_unsound s cert outcomes events fault commits all other checked =
    let order : checks.HasOrder cert = record { some_member = commits.some_member; rise = commits.rise } in
    let gives : checks.Gives cert events outcomes = record { word = commits.word; plays = plays_so s cert outcomes events commits all } in
    elim (accepted cert events outcomes (Err fault) (sym (length-parked s cert.members events all)) checked order gives) [
      | inl ok ↦ absurd cc
      | inr none ↦ other cc
    ]

pub one_play : (r : Result Played PlayFault) (p q : Played) → r ≡ Ok p → r ≡ Ok q → p ≡ q
one_play r p q first second = let both : Ok p ≡ Ok q = sym first ∙ second in cc

not_other : (outcomes played : List Outcome) (i : ℕ) → IsFirstOther outcomes played i → outcomes ≢ played
not_other outcomes played i first = λ same. first.other (ap (λ (os : List Outcome). slice_get os i) same)

pub not_commit : (callers : ℕ) (s : State) (cert : Certificate) (outcomes : List Outcome) (fault : StepFault) → length s.callers ≡ callers
    → RefusesCommit callers s cert outcomes fault → fault ≢ faults.Memory → Commits s cert outcomes → ⊥
not_commit callers s cert outcomes (faults.Unsound unsound.Empty) same refuses found commits = commits.some_member refuses
not_commit callers s cert outcomes (faults.Unsound unsound.Order) same refuses found commits = refuses.1 commits.rise
not_commit callers s cert outcomes (faults.Unsound unsound.Memory) same refuses found commits = refuses
not_commit callers s cert outcomes (faults.Unsound (unsound.Index j)) same refuses found commits =
    not_unsound s cert outcomes refuses.0 (unsound.Index j) commits refuses.1 (λ is. cc) refuses.2
not_commit callers s cert outcomes (faults.Unsound (unsound.Meet j)) same refuses found commits =
    not_unsound s cert outcomes refuses.0 (unsound.Meet j) commits refuses.1 (λ is. cc) refuses.2
not_commit callers s cert outcomes (faults.Unsound (unsound.Choices i)) same refuses found commits =
    not_unsound s cert outcomes refuses.0 (unsound.Choices i) commits refuses.1 (λ is. cc) refuses.2
not_commit callers s cert outcomes (faults.Unsound (unsound.Unfinished i)) same refuses found commits =
    not_unsound s cert outcomes refuses.0 (unsound.Unfinished i) commits refuses.1 (λ is. cc) refuses.2
not_commit callers s cert outcomes (faults.Stranger i) same refuses found commits =
    let first = refuses.1 in
    let at = parked_at s cert.members commits.group i first.member commits.events first.is_there in
    let low = slice_get_within s.callers first.member.thread _ at.1 in
    let high = first.stranger in
    absurd (omega arith)
not_commit callers s cert outcomes (faults.Stale i status) same refuses found commits =
    let first = refuses.2 in
    let at = parked_at s cert.members commits.group i first.member commits.events first.is_there in
    first.stale (one_status s first.member.thread (parked first.member.ticket at.0) status at.1 first.stands)
not_commit callers s cert outcomes (faults.Result i) same refuses found commits =
    let other = refuses.1 in
    let plays = plays_so s cert outcomes other.0 commits other.2 in
    let plays' = other.3.plays in
    let one : outcomes ≡ other.1 = ap (λ (x : Played). x.outcomes) (one_play _ _ _ plays plays') in
    not_other outcomes other.1 i other.4 one
not_commit callers s cert outcomes faults.Memory same refuses found commits = absurd (found refl)
not_commit callers s cert outcomes _ same refuses found commits = absurd refuses
