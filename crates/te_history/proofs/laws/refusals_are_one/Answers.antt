use Rattle.std.proofs.Common.{◌≡◌, ◌⊎◌, inl, inr, Result, Ok, Err, refl, ap}
use Rattle.te_history.specs.declared.entry.Entry.{Entry}
use Rattle.te_history.specs.declared.entry.StepFault.{StepFault}
use Rattle.te_history.specs.declared.entry.StepFault.TheVariants as faults
use Rattle.te_history.specs.Histories.{History}
use Rattle.te_history.specs.Refusals.{IsAnswered}
use Rattle.te_history.proofs.CanPlay.{is_memory}
use Rattle.te_history.proofs.RefusedDontFollow.{refused_fails}
use Rattle.te_history.proofs.RefusalsAreOne.{refusals_are_one}
use Rattle.te_history.proofs.laws.refusals_are_one.Goals as goal

answers_are_one : (h : History) (e : Entry) (a b : Result (Unit {0}) StepFault) → IsAnswered h e a → IsAnswered h e b
    → (a ≡ b) ⊎ ((a ≡ Err faults.Memory) ⊎ (b ≡ Err faults.Memory))
answers_are_one h e (Ok x) (Ok y) follows follows' = inl refl
answers_are_one h e (Ok x) (Err g) follows refused = elim (is_memory g) [
  | inl none ↦ inr (inr (ap Err none))
  | inr found ↦ absurd (refused_fails h e g refused found follows)
]
answers_are_one h e (Err f) (Ok y) refused follows = elim (is_memory f) [
  | inl none ↦ inr (inl (ap Err none))
  | inr found ↦ absurd (refused_fails h e f refused found follows)
]
answers_are_one h e (Err f) (Err g) refused refused' = elim (is_memory f) [
  | inl none ↦ inr (inl (ap Err none))
  | inr found ↦ elim (is_memory g) [
    | inl none ↦ inr (inr (ap Err none))
    | inr found' ↦ inl (ap Err (refusals_are_one h e f g found found' refused refused'))
  ]
]

pub returns : goal.returns
returns c = record { one = answers_are_one; refused = refused_fails }
