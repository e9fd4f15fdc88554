-- A check of one certificate on the same events has one answer, but for want of memory.
use Rattle.std.proofs.Common.{◌≡◌, ◌⊎◌, inl, inr, ℕ, List, length, Result, Ok, Err, refl, sym, ap, ◌∙◌}
use Rattle.std.proofs.lemmas.Bool.{cases_order}
use Rattle.te_terms.specs.declared.event.Outcome.{Outcome}
use Rattle.te_terms.specs.Terms.{Term}
use Rattle.te_cert.specs.declared.cert.Meeting.{Meeting}
use Rattle.te_cert.specs.declared.cert.CertFault.{CertFault}
use Rattle.te_cert.specs.declared.cert.CertFault.TheVariants as faults
use Rattle.te_cert.specs.Certificates.{Certificate}
use Rattle.te_cert.specs.Play.{PlayFault, no_letter, no_meeting, unfinished, letters_left, Played}
use Rattle.te_cert.specs.Checks.{IsChecked, IsFormed, HasOrder, IsOutOfOrder, IsFirstAstray, played}
use Rattle.te_cert.specs.Players.{told}

-- what decides a check: no member, threads that don't rise, the first meeting astray, or the play
data Verdict : Type 0 where
  nobody : Verdict
  disorder : Verdict
  astray : ℕ → Verdict
  plays : Result Played PlayFault → Verdict

abbrev answer : Verdict → Result (List Outcome) CertFault
answer nobody = Err faults.Empty
answer disorder = Err faults.Order
answer (astray j) = Err (faults.Index j)
answer (plays (Ok p)) = Ok p.outcomes
answer (plays (Err f)) = Err (told f)

abbrev Decides : Certificate → List Term → Verdict → Type 0
Decides cert events nobody = IsOutOfOrder cert.members faults.Empty
Decides cert events disorder = IsOutOfOrder cert.members faults.Order
Decides cert events (astray j) = HasOrder cert × IsFirstAstray (length cert.members) cert.meets j
Decides cert events (plays r) = IsFormed cert × (played cert events ≡ r)

decided : (cert : Certificate) (events : List Term) (r : Result (List Outcome) CertFault) → IsChecked cert events r → (r ≡ Err faults.Memory) ⊎ ((v : Verdict) × Decides cert events v × (r ≡ answer v))
decided cert events (Ok os) is = inr (plays (Ok (record { outcomes = os; word = is.1.word })), (is.0, is.1.plays), refl)
decided cert events (Err faults.Empty) is = inr (nobody, is, refl)
decided cert events (Err faults.Order) is = inr (disorder, is, refl)
decided cert events (Err (faults.Index j)) is = inr (astray j, is, refl)
decided cert events (Err (faults.Meet j)) is = inr (plays (Err (no_meeting j)), is, refl)
decided cert events (Err (faults.Choices i)) is = elim is.1 [
  | inl lacks ↦ inr (plays (Err (no_letter i)), (is.0, lacks), refl)
  | inr over ↦ inr (plays (Err (letters_left i)), (is.0, over), refl)
]
decided cert events (Err (faults.Unfinished i)) is = inr (plays (Err (unfinished i)), is, refl)
decided cert events (Err faults.Memory) is = inl refl

first_is_one : (members : ℕ) (meets : List Meeting) (j k : ℕ) → IsFirstAstray members meets j → IsFirstAstray members meets k → j ≡ k
first_is_one members meets j k a b = elim (cases_order j k) [
  | inl same ↦ same
  | inr (inl less) ↦ absurd (a.astray (b.before j a.meeting less a.is_there))
  | inr (inr more) ↦ absurd (b.astray (a.before k b.meeting more b.is_there))
]

one_verdict : (cert : Certificate) (events : List Term) (v w : Verdict) → Decides cert events v → Decides cert events w → v ≡ w
one_verdict cert events nobody nobody a b = refl
one_verdict cert events nobody disorder a b = absurd (b.0 a)
one_verdict cert events nobody (astray j) a b = absurd (b.0.some_member a)
one_verdict cert events nobody (plays r) a b = absurd (b.0.order.some_member a)
one_verdict cert events disorder nobody a b = absurd (a.0 b)
one_verdict cert events disorder disorder a b = refl
one_verdict cert events disorder (astray j) a b = absurd (a.1 b.0.rise)
one_verdict cert events disorder (plays r) a b = absurd (a.1 b.0.order.rise)
one_verdict cert events (astray j) nobody a b = absurd (a.0.some_member b)
one_verdict cert events (astray j) disorder a b = absurd (b.1 a.0.rise)
one_verdict cert events (astray j) (astray k) a b = ap astray (first_is_one _ cert.meets j k a.1 b.1)
one_verdict cert events (astray j) (plays r) a b = absurd (a.1.astray (b.0.between j a.1.meeting a.1.is_there))
one_verdict cert events (plays r) nobody a b = absurd (a.0.order.some_member b)
one_verdict cert events (plays r) disorder a b = absurd (b.1 a.0.order.rise)
one_verdict cert events (plays r) (astray k) a b = absurd (b.1.astray (a.0.between k b.1.meeting b.1.is_there))
one_verdict cert events (plays r) (plays s) a b = ap plays (sym a.1 ∙ b.1)

pub one_answer : (cert : Certificate) (events : List Term) (r s : Result (List Outcome) CertFault) → IsChecked cert events r → IsChecked cert events s
    → (r ≡ s) ⊎ (r ≡ Err faults.Memory) ⊎ (s ≡ Err faults.Memory)
one_answer cert events r s a b = elim (decided cert events r a) [
  | inl memory ↦ inr (inl memory)
  | inr first ↦ elim (decided cert events s b) [
    | inl memory ↦ inr (inr memory)
    | inr second ↦ inl (first.2 ∙ ap answer (one_verdict cert events first.0 second.0 first.1 second.1) ∙ sym second.2)
  ]
]
