-- The form members of a commit, and who hands on to whom. This project's own.
use Rattle.std.specs.Prelude.{◌≡◌, ℕ, suc, ◌<◌, ◌≤◌, ◌==◌, List, [], ◌∷◌, length, take, count_by, Some, slice_get}
use Rattle.te_terms.specs.declared.value.Atom.{Atom}
use Rattle.te_terms.specs.declared.event.Outcome.{Outcome}
use Rattle.te_terms.specs.declared.event.Outcome.TheVariants.{Gives}
use Rattle.te_terms.specs.Terms.{Term}
use Rattle.te_cert.specs.declared.cert.Member.{Member}
use Rattle.te_cert.specs.declared.cert.Meeting.{Meeting}
use Rattle.te_cert.specs.declared.cert.Cert.{Cert}
use Rattle.te_history.specs.declared.entry.Entry.TheVariants.{Commit}
use Rattle.te_history.specs.State.{State, parked, state}
use Rattle.te_history.specs.Follows.{Stands}
use Rattle.te_history.specs.Histories.{History}
use Rattle.te_forms.specs.declared.pair.Handed.{Handed}
use Rattle.te_forms.specs.declared.form.Form.{Form}
use Rattle.te_forms.specs.declared.form.Form.TheVariants.{Swap, Barrier}
use Rattle.te_forms.specs.Rings.{role_after}
use Rattle.te_forms.specs.Forms.{IsForm, role_of, offer_of}

-- ---- commits

-- entry n is a commit
pub record CommitAt (h : History) (n : ℕ) : Type 0 where
  pub by : ℕ
  pub cert : Cert
  pub outcomes : List Outcome
  pub is_there : slice_get h.entries n ≡ Some (Commit by cert outcomes)

-- where everybody stands before entry n
abbrev pub state_before : History → ℕ → State
state_before h n = state h.callers (take n h.entries)

-- ---- form members

-- a member of the list whose parked event is a form's over the ring: its place, and the form
pub record FormMember (ring : List ℕ) (s : State) (members : List Member) : Type 0 where
  pub place : ℕ
  pub member : Member
  pub event : Term
  pub form : Form
  pub is_there : slice_get members place ≡ Some member
  pub stands : Stands s member.thread (parked member.ticket event)
  pub is_form : IsForm ring form event

-- the one hands on to the other at the meeting, and this is the pair of them
pub record HandsOn (ring : List ℕ) (s : State) (members : List Member) (m : Meeting) (h : Handed) : Type 0 where
  pub giver : FormMember ring s members
  pub taker : FormMember ring s members
  pub sends : m.sender ≡ giver.place
  pub receives : m.receiver ≡ taker.place
  pub pair : h ≡ record { giver = giver.member.thread; taker = taker.member.thread }

-- a pair for each meeting between form members, in the order of the meetings
pub data AreHanded (ring : List ℕ) (s : State) (members : List Member) : List Meeting → List Handed → Type 0 where
  nobody : AreHanded ring s members [] []
  hands_on : (m : Meeting) (h : Handed) (ms : List Meeting) (hs : List Handed) → HandsOn ring s members m h → AreHanded ring s members ms hs → AreHanded ring s members (m ∷ ms) (h ∷ hs)
  others : (m : Meeting) (ms : List Meeting) (hs : List Handed) → ((h : Handed) → ¬ HandsOn ring s members m h) → AreHanded ring s members ms hs → AreHanded ring s members (m ∷ ms) hs

-- ---- what is promised of the pairs

-- how often a thread gives, and how often it takes
abbrev pub times_giver : ℕ → List Handed → ℕ
times_giver t hs = count_by (λ h. h.giver == t) hs

abbrev pub times_taker : ℕ → List Handed → ℕ
times_taker t hs = count_by (λ h. h.taker == t) hs

-- each form member gives once and takes once
abbrev pub EachOnce : List ℕ → State → List Member → List Handed → Type 0
EachOnce ring s members hs = (p : FormMember ring s members) → (times_giver p.member.thread hs ≡ 1) × (times_taker p.member.thread hs ≡ 1)

-- a pair stands between two form members
pub record StandsBetween (ring : List ℕ) (s : State) (members : List Member) (h : Handed) : Type 0 where
  pub giver : FormMember ring s members
  pub taker : FormMember ring s members
  pub gives : h.giver ≡ giver.member.thread
  pub takes : h.taker ≡ taker.member.thread

-- nobody else stands in the pairs
abbrev pub NobodyElse : List ℕ → State → List Member → List Handed → Type 0
NobodyElse ring s members hs = (k : ℕ) (h : Handed) → slice_get hs k ≡ Some h → StandsBetween ring s members h

-- the taker's role comes after the giver's
abbrev pub GoRound : List ℕ → State → List Member → List Handed → Type 0
GoRound ring s members hs =
    (k : ℕ) (h : Handed) → slice_get hs k ≡ Some h → (b : StandsBetween ring s members h)
    → role_of b.taker.form ≡ role_after (length ring) (role_of b.giver.form)

-- what a form comes to that is given this
abbrev pub outcome_by : Form → List Atom → Outcome
outcome_by (Swap role offer) v = Gives v
outcome_by (Barrier role) v = Gives []

-- a swap gives what its giver offers, a barrier gives ()
abbrev pub AreGiven : List ℕ → State → List Member → List Outcome → List Handed → Type 0
AreGiven ring s members outcomes hs =
    (k : ℕ) (h : Handed) → slice_get hs k ≡ Some h → (b : StandsBetween ring s members h)
    → slice_get outcomes b.taker.place ≡ Some (outcome_by b.taker.form (offer_of b.giver.form))

-- so many items of the list are such
pub data NumberOf {X : Type 0} (P : X → Type 0) : List X → ℕ → Type 0 where
  none : NumberOf P [] 0
  one_more : (x : X) (xs : List X) (n : ℕ) → P x → NumberOf P xs n → NumberOf P (x ∷ xs) (suc n)
  as_many : (x : X) (xs : List X) (n : ℕ) → ¬ P x → NumberOf P xs n → NumberOf P (x ∷ xs) n

-- the member's parked event is a form's of this role
pub record HasRole (ring : List ℕ) (s : State) (role : ℕ) (m : Member) : Type 0 where
  pub event : Term
  pub form : Form
  pub stands : Stands s m.thread (parked m.ticket event)
  pub is_form : IsForm ring form event
  pub role_is : role_of form ≡ role

-- each role has the same number of members, at least one where there is a form member
pub record AreEven (ring : List ℕ) (s : State) (members : List Member) : Type 0 where
  pub number : ℕ
  pub even : (role : ℕ) → role < length ring → NumberOf (HasRole ring s role) members number
  pub some : FormMember ring s members → 1 ≤ number
