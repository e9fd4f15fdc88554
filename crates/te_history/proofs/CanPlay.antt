-- Members that can play have events, and a refusal of members is one of their commit.
use Rattle.std.proofs.Common.{◌≡◌, ◌≢◌, ◌⊎◌, inl, inr, ℕ, suc, List, [], ◌∷◌, refl}
use Rattle.te_terms.specs.declared.event.Outcome.{Outcome}
use Rattle.te_terms.specs.Terms.{Term}
use Rattle.te_cert.specs.declared.cert.Member.{Member}
use Rattle.te_cert.specs.declared.cert.CertFault.TheVariants as unsound
use Rattle.te_cert.specs.Certificates.{Certificate}
use Rattle.te_cert.specs.Checks.{Gives}
use Rattle.te_history.specs.declared.entry.StepFault.{StepFault}
use Rattle.te_history.specs.declared.entry.StepFault.TheVariants as faults
use Rattle.te_history.specs.declared.status.Status.TheVariants as statuses
use Rattle.te_history.specs.State.{Standing, idle, parked, given, ended, State}
use Rattle.te_history.specs.Follows.{Stands, Commits}
use Rattle.te_history.specs.Histories.{HasStatus, status_of}
use Rattle.te_history.specs.Refusals.{AreAllParked, AreParked, CanPlay, RefusesMembers, RefusesPlay, RefusesCommit}
use Rattle.te_history.proofs.Events.{commits_by}

pub is_memory : (fault : StepFault) → (fault ≡ faults.Memory) ⊎ (fault ≢ faults.Memory)
is_memory faults.Memory = inl refl
is_memory _ = inr (λ is. cc)

-- a caller that is parked has an event
pub event_of : (s : State) (t ticket : ℕ) → HasStatus s t (statuses.Parked ticket) → (event : Term) × Stands s t (parked ticket event)
event_of s t ticket has = by_standing has.0 has.1 has.2
  where
    by_standing : (x : Standing) → Stands s t x → statuses.Parked ticket ≡ status_of x → (event : Term) × Stands s t (parked ticket event)
    by_standing idle stands is = absurd cc
    by_standing (parked under event) stands is = let same : ticket ≡ under = cc in (event, rw same stands)
    by_standing (given under outcome) stands is = absurd cc
    by_standing ended stands is = absurd cc

pub events_there : (s : State) (ms : List Member) → AreAllParked s ms → (events : List Term) × AreParked s ms events
events_there s [] all = ([], tt)
events_there s (m ∷ ms) all =
    let first = event_of s m.thread m.ticket (all 0 m refl) in
    let rest = events_there s ms (λ k. all (suc k)) in
    (first.0 ∷ rest.0, (first.1, rest.1))

-- members that can play, and whose play is known, commit to its outcomes
pub commits_known : (callers : ℕ) (s : State) (cert : Certificate) (outcomes : List Outcome) → CanPlay callers s cert
    → ((events : List Term) → AreParked s cert.members events → Gives cert events outcomes) → Commits s cert outcomes
commits_known callers s cert outcomes can plays =
    let all = events_there s cert.members can.parked_all in
    commits_by s cert all.0 outcomes can.order all.1 (plays all.0 all.1)

pub members_refused : (callers : ℕ) (s : State) (cert : Certificate) (fault : StepFault) → RefusesMembers callers s cert fault → RefusesPlay callers s cert fault
members_refused callers s cert (faults.Unsound unsound.Empty) refuses = refuses
members_refused callers s cert (faults.Unsound unsound.Order) refuses = refuses
members_refused callers s cert (faults.Unsound _) refuses = absurd refuses
members_refused callers s cert (faults.Stranger i) refuses = refuses
members_refused callers s cert (faults.Stale i status) refuses = refuses
members_refused callers s cert _ refuses = absurd refuses

pub play_refused : (callers : ℕ) (s : State) (cert : Certificate) (outcomes : List Outcome) (fault : StepFault) → RefusesPlay callers s cert fault
    → RefusesCommit callers s cert outcomes fault
play_refused callers s cert outcomes (faults.Result i) refuses = absurd refuses
play_refused callers s cert outcomes _ refuses = refuses
