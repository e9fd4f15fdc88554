-- Which entry may follow a history, and legal and loose histories. This project's own.
use Rattle.std.specs.Prelude.{◌≡◌, ◌≢◌, ℕ, ◌<◌, true, false, List, [], ◌∷◌, ◌++◌, map, Some, Ok, slice_get}
use Rattle.std.specs.List.{AllByRecursion}
use Rattle.te_terms.specs.declared.event.Outcome.{Outcome}
use Rattle.te_terms.specs.Steps.{come_to}
use Rattle.te_terms.specs.Steps as steps
use Rattle.te_terms.specs.Joint.{Label, CanCommit}
use Rattle.te_cert.specs.declared.cert.Member.{Member}
use Rattle.te_cert.specs.declared.cert.Cert.{Cert}
use Rattle.te_cert.specs.Play.{play}
use Rattle.te_cert.specs.Checks.{ThreadsRise}
use Rattle.te_history.specs.declared.status.How.{How}
use Rattle.te_history.specs.declared.status.How.TheVariants as ways
use Rattle.te_history.specs.declared.entry.Entry.{Entry}
use Rattle.te_history.specs.declared.entry.Entry.TheVariants as entries
use Rattle.te_history.specs.State.{Standing, idle, parked, given, ended, State, state, parked_list, posts_by}

abbrev pub IsRunning : State → Type 0
IsRunning s = s.stuck ≡ false

-- a caller stands so
abbrev pub Stands : State → ℕ → Standing → Type 0
Stands s t standing = slice_get s.callers t ≡ Some standing

abbrev pub IsParkedOrEnded : Standing → Type 0
IsParkedOrEnded idle = ⊥
IsParkedOrEnded (parked ticket event) = Unit {0}
IsParkedOrEnded (given ticket outcome) = ⊥
IsParkedOrEnded ended = Unit {0}

-- the members' own parked events, as a group: none of them has made a channel yet
abbrev pub AreEvents : State → List Member → List steps.Member → Type 0
AreEvents s [] [] = Unit {0}
AreEvents s (m ∷ ms) (g ∷ gs) = (g ≡ come_to m.thread m.ticket 0 g.term) × Stands s m.thread (parked m.ticket g.term) × AreEvents s ms gs
AreEvents s _ _ = ⊥

-- members parked under their tickets, threads rising, whose events the certificate plays to these outcomes
pub record Commits (s : State) (cert : Cert) (outcomes : List Outcome) : Type 0 where
  pub some_member : cert.members ≢ []
  pub rise : ThreadsRise cert.members
  pub group : List steps.Member
  pub events : AreEvents s cert.members group
  pub word : List Label
  pub plays : play group (map (λ m. m.choices) cert.members) cert.meets ≡ Ok (record { outcomes = outcomes; word = word })

abbrev pub MayEndAs : State → ℕ → How → Type 0
MayEndAs s by (ways.Done values) = IsRunning s × Stands s by idle
MayEndAs s by (ways.Raised value) = IsRunning s × Stands s by idle
MayEndAs s by ways.Stuck = (s.stuck ≡ true) × ((ticket : ℕ) × (event : _) × Stands s by (parked ticket event))

-- the needs of an entry in the state before it; of Stuck all but the last
abbrev pub Needs : ℕ → State → ℕ → Entry → Type 0
Needs callers s posts (entries.Post by ticket event) = IsRunning s × Stands s by idle × (ticket ≡ posts)
Needs callers s posts (entries.Commit by cert outcomes) = IsRunning s × (by < callers) × Commits s cert outcomes
Needs callers s posts (entries.Withdraw by ticket) = IsRunning s × ((event : _) × Stands s by (parked ticket event))
Needs callers s posts (entries.Take by ticket outcome) = IsRunning s × Stands s by (given ticket outcome)
Needs callers s posts (entries.Rest by) = IsRunning s × (by < callers) × (s.resting ≡ false)
Needs callers s posts (entries.Stuck by) =
    IsRunning s × ((ticket : ℕ) × (event : _) × Stands s by (parked ticket event)) × AllByRecursion IsParkedOrEnded s.callers
Needs callers s posts (entries.End by how) = MayEndAs s by how

-- the last need of Stuck: the parked list can't commit
abbrev pub LastNeed : State → Entry → Type 0
LastNeed s (entries.Stuck by) = ¬ CanCommit (parked_list s)
LastNeed s _ = Unit {0}

abbrev pub caller_of : Entry → ℕ
caller_of (entries.Post by ticket event) = by
caller_of (entries.Commit by cert outcomes) = by
caller_of (entries.Withdraw by ticket) = by
caller_of (entries.Take by ticket outcome) = by
caller_of (entries.Rest by) = by
caller_of (entries.Stuck by) = by
caller_of (entries.End by how) = by

abbrev pub LooselyFollows : ℕ → List Entry → Entry → Type 0
LooselyFollows callers history e = Needs callers (state callers history) (posts_by (caller_of e) history) e

abbrev pub Follows : ℕ → List Entry → Entry → Type 0
Follows callers history e = LooselyFollows callers history e × LastNeed (state callers history) e

abbrev pub LooseFrom : ℕ → List Entry → List Entry → Type 0
LooseFrom callers before [] = Unit {0}
LooseFrom callers before (e ∷ es) = LooselyFollows callers before e × LooseFrom callers (before ++ e ∷ []) es

abbrev pub LegalFrom : ℕ → List Entry → List Entry → Type 0
LegalFrom callers before [] = Unit {0}
LegalFrom callers before (e ∷ es) = Follows callers before e × LegalFrom callers (before ++ e ∷ []) es

-- each entry follows those before it, from the state in which every caller is idle
abbrev pub IsLegal : ℕ → List Entry → Type 0
IsLegal callers history = LegalFrom callers [] history

-- the same, where the last need of Stuck isn't asked
abbrev pub IsLoose : ℕ → List Entry → Type 0
IsLoose callers history = LooseFrom callers [] history
