-- Which commits made the fresh channels of a history. This project's own.
use Rattle.std.specs.Prelude.{◌≡◌, ◌≢◌, ℕ, ◌≤◌, ◌<◌, ◌^◌, List, [], ◌∷◌, ◌++◌, take, Option, Some, None, slice_get}
use Rattle.std.specs.List.{AllByRecursion}
use Rattle.te_terms.specs.declared.event.Outcome.{Outcome}
use Rattle.te_terms.specs.Values.{fresh_channel}
use Rattle.te_terms.specs.Limits.{most_threads, most_fresh}
use Rattle.te_terms.specs.Terms.{Term, fresh}
use Rattle.te_terms.specs.Steps.{head}
use Rattle.te_terms.specs.Steps as steps
use Rattle.te_terms.specs.Joint.{Action, quiet, labelled, member_of, joint_step}
use Rattle.te_cert.specs.declared.cert.Member.{Member}
use Rattle.te_cert.specs.declared.cert.Cert.{Cert}
use Rattle.te_history.specs.declared.entry.Entry.{Entry}
use Rattle.te_history.specs.declared.entry.Entry.TheVariants as entries
use Rattle.te_history.specs.State.{state}
use Rattle.te_history.specs.Follows.{AreEvents}
use Rattle.te_report.specs.Channels.{EntryHas}

-- the entry at a place is a commit with this member
abbrev pub HasMemberAt : List Entry → ℕ → Member → Type 0
HasMemberAt history place m =
    (by : ℕ) × (cert : Cert) × (outcomes : List Outcome) × (i : ℕ) × (slice_get history place ≡ Some (entries.Commit by cert outcomes)) × (slice_get cert.members i ≡ Some m)

-- the channel is a fresh one of a member of a commit at or before the place: the number names its thread and its ticket
pub record IsMadeByMember (history : List Entry) (place c : ℕ) : Type 0 where
  pub at : ℕ
  pub early : at ≤ place
  pub member : Member
  pub has : HasMemberAt history at member
  pub count : ℕ
  pub thread : member.thread < most_threads
  pub ticket : member.ticket < 2 ^ 18
  pub few : count < most_fresh
  pub number : c ≡ fresh_channel member.thread member.ticket count

-- each fresh channel in an entry is so; fresh channels are numbered from 2^30 on
abbrev pub ChannelsAreMade : List Entry → Type 0
ChannelsAreMade history = (place : ℕ) (e : Entry) → slice_get history place ≡ Some e → EntryHas (λ c. 2 ^ 30 ≤ c → IsMadeByMember history place c) e

-- ---- the steps that make channels

-- the number that a member makes where it stands at `fresh`
abbrev pub made_at : Term → ℕ → List ℕ
made_at fresh c = c ∷ []
made_at _ c = []

abbrev pub made_by : Option steps.Member → List ℕ
made_by (Some m) = made_at (head m.term) (fresh_channel m.thread m.ticket m.count)
made_by None = []

-- by a joint step: the quiet step of a member that stands at `fresh` makes one
abbrev pub made_in : Action → List steps.Member → List ℕ
made_in (quiet t) g = made_by (member_of t g)
made_in (labelled l) g = []

abbrev pub made_behind : (List steps.Member → List ℕ) → Option (List steps.Member) → List ℕ
made_behind go (Some g) = go g
made_behind go None = []

-- the numbers that a chain of joint steps makes, in order
abbrev pub made_along : List Action → List steps.Member → List ℕ
made_along [] g = []
made_along (a ∷ as') g = made_in a g ++ made_behind (made_along as') (joint_step a g)

-- no number comes twice
abbrev pub NoneTwice : List ℕ → Type 0
NoneTwice [] = Unit {0}
NoneTwice (x ∷ xs) = AllByRecursion (λ y. x ≢ y) xs × NoneTwice xs

-- no number is in both
abbrev pub NoneShared : List ℕ → List ℕ → Type 0
NoneShared xs ys = AllByRecursion (λ x. AllByRecursion (λ y. x ≢ y) ys) xs

-- the entry at a place is a commit of this group: its members with their own parked events
pub record IsCommitOf (callers : ℕ) (history : List Entry) (place : ℕ) (group : List steps.Member) : Type 0 where
  pub by : ℕ
  pub cert : Cert
  pub outcomes : List Outcome
  pub is : slice_get history place ≡ Some (entries.Commit by cert outcomes)
  pub events : AreEvents (state callers (take place history)) cert.members group

-- two steps at `fresh`, in one chain or in chains of two commits, make different numbers
pub record AreDifferent (callers : ℕ) (history : List Entry) : Type 0 where
  pub once : (place : ℕ) (group : List steps.Member) (chain : List Action) → IsCommitOf callers history place group → NoneTwice (made_along chain group)
  pub apart : (p q : ℕ) (g k : List steps.Member) (a b : List Action) → p < q → IsCommitOf callers history p g → IsCommitOf callers history q k → NoneShared (made_along a g) (made_along b k)
