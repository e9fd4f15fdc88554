-- What a check of a certificate on events answers. This project's own.
use Rattle.std.specs.Prelude.{◌≡◌, ◌≢◌, ◌⊎◌, ℕ, ◌<◌, List, [], ◌∷◌, length, map, Some, Result, Ok, Err, slice_get}
use Rattle.te_terms.specs.declared.event.Outcome.{Outcome}
use Rattle.te_terms.specs.Terms.{Term}
use Rattle.te_terms.specs.Steps.{come_to}
use Rattle.te_terms.specs.Steps as steps
use Rattle.te_terms.specs.Joint.{Label, Reduces}
use Rattle.te_cert.specs.declared.cert.Member.{Member}
use Rattle.te_cert.specs.declared.cert.Meeting.{Meeting}
use Rattle.te_cert.specs.declared.cert.CertFault.{CertFault}
use Rattle.te_cert.specs.declared.cert.CertFault.TheVariants as faults
use Rattle.te_cert.specs.Certificates.{Certificate}
use Rattle.te_cert.specs.Play.{play, Played, PlayFault, no_letter, no_meeting, unfinished, letters_left}

-- the threads of members rise strictly
abbrev pub RiseAfter : ℕ → List Member → Type 0
RiseAfter t [] = Unit {0}
RiseAfter t (m ∷ ms) = (t < m.thread) × RiseAfter m.thread ms

abbrev pub ThreadsRise : List Member → Type 0
ThreadsRise [] = Unit {0}
ThreadsRise (m ∷ ms) = RiseAfter m.thread ms

-- the members with their events, as a group
abbrev pub group_of : List Member → List Term → List steps.Member
group_of [] events = []
group_of (m ∷ ms) [] = []
group_of (m ∷ ms) (e ∷ es) = come_to m.thread m.ticket 0 e ∷ group_of ms es

-- the play of the certificate on the events of its members
abbrev pub played : Certificate → List Term → Result Played PlayFault
played cert events = play (group_of cert.members events) (map (λ m. m.choices) cert.members) cert.meets

-- a meeting names two different places among so many members
abbrev pub IsBetween : ℕ → Meeting → Type 0
IsBetween members m = (m.sender < members) × (m.receiver < members) × (m.sender ≢ m.receiver)

abbrev pub AreBetween : ℕ → List Meeting → Type 0
AreBetween members ms = (j : ℕ) (m : Meeting) → slice_get ms j ≡ Some m → IsBetween members m

-- meeting j is the first that doesn't
pub record IsFirstAstray (members : ℕ) (meets : List Meeting) (j : ℕ) : Type 0 where
  pub meeting : Meeting
  pub is_there : slice_get meets j ≡ Some meeting
  pub astray : ¬ IsBetween members meeting
  pub before : (k : ℕ) (m : Meeting) → k < j → slice_get meets k ≡ Some m → IsBetween members m

-- there is no member, or threads don't rise
abbrev pub IsOutOfOrder : List Member → CertFault → Type 0
IsOutOfOrder members faults.Empty = members ≡ []
IsOutOfOrder members faults.Order = (members ≢ []) × (¬ ThreadsRise members)
IsOutOfOrder members _ = ⊥

-- some members, their threads rising
pub record HasOrder (cert : Certificate) : Type 0 where
  pub some_member : cert.members ≢ []
  pub rise : ThreadsRise cert.members

-- and each meeting between two of them
pub record IsFormed (cert : Certificate) : Type 0 where
  pub order : HasOrder cert
  pub between : AreBetween (length cert.members) cert.meets

-- the play gives these outcomes
pub record Gives (cert : Certificate) (events : List Term) (outcomes : List Outcome) : Type 0 where
  pub word : List Label
  pub plays : played cert events ≡ Ok (record { outcomes = outcomes; word = word })

-- these outcomes, and the labels of the play, by which the group reduces to them
pub record Reduced (cert : Certificate) (events : List Term) (outcomes : List Outcome) : Type 0 where
  pub word : List Label
  pub plays : played cert events ≡ Ok (record { outcomes = outcomes; word = word })
  pub reduces : Reduces (group_of cert.members events) word outcomes

-- the first thing that is wrong, in this order; else the outcomes of the play
abbrev pub IsChecked : Certificate → List Term → Result (List Outcome) CertFault → Type 0
IsChecked cert events (Ok outcomes) = IsFormed cert × Gives cert events outcomes
IsChecked cert events (Err faults.Empty) = IsOutOfOrder cert.members faults.Empty
IsChecked cert events (Err faults.Order) = IsOutOfOrder cert.members faults.Order
IsChecked cert events (Err (faults.Index j)) = HasOrder cert × IsFirstAstray (length cert.members) cert.meets j
IsChecked cert events (Err (faults.Meet j)) = IsFormed cert × (played cert events ≡ Err (no_meeting j))
IsChecked cert events (Err (faults.Choices i)) = IsFormed cert × ((played cert events ≡ Err (no_letter i)) ⊎ (played cert events ≡ Err (letters_left i)))
IsChecked cert events (Err (faults.Unfinished i)) = IsFormed cert × (played cert events ≡ Err (unfinished i))
IsChecked cert events (Err faults.Memory) = Unit {0}
