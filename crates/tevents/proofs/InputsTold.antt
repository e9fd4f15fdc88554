-- What an answer says of an input: 0 comes exactly where it has what the mode asks for, or by its cause another status.
use Rattle.std.proofs.Common.{◌≡◌, ◌⊎◌, ℕ, List, Some, sym, ◌∙◌, subst, inl, inr, arith}
use Rattle.te_script.specs.Scripts.{Program}
use Rattle.te_reader.specs.Text.{Text}
use Rattle.te_reader.proofs.TextIsRead.{program_of_text_is_read}
use Rattle.tevents.specs.declared.task.Task.TheVariants as tasks
use Rattle.tevents.specs.Parts.{AreParts}
use Rattle.tevents.specs.Checks.{IsLegalReport}
use Rattle.tevents.specs.Runs.{in_rounds}
use Rattle.tevents.specs.Causes.{AnswersParts, IsAnswer}
use Rattle.tevents.specs.Inputs.{HasLegalReport, IsCheckedInput, HasReport, IsLiftedInput}
use Rattle.te_report.specs.Told.{IsReadAs}
use Rattle.tevents.proofs.RulesFound.{parts_once}

same_some : {a b : Program} → Some a ≡ Some b → a ≡ b
same_some e = cc

-- a text has one script
text_once : (bytes : List ℕ) (p q : Program) → Text bytes p → Text bytes q → p ≡ q
text_once bytes p q a b = same_some (sym (program_of_text_is_read bytes p a) ∙ program_of_text_is_read bytes q b)

-- a script's part is a script's part of any parts
text_of : (read upper lower other rest : List ℕ) (p : Program) → AreParts read upper lower → AreParts read other rest → Text other p → Text upper p
text_of read upper lower other rest p a b text = subst (λ (bytes : List ℕ). Text bytes p) (sym (parts_once read upper lower other rest a b).0) text

-- ---- check

pub checked_input : (budget : ℕ) (read written : List ℕ) (status : ℕ) (Grew : List ℕ → Type 0)
    → IsAnswer in_rounds (tasks.Check budget) read written status → status ≡ 0 → Grew written → IsCheckedInput read Grew
checked_input budget read written status Grew answer zero grew = by answer.told
  where
    by : AnswersParts in_rounds (tasks.Check budget) answer.upper answer.lower written status → IsCheckedInput read Grew
    by (inr fault) = absurd (omega (arith, zero, fault.status_is))
    by (inl of) = elim of.told [
      | inl legal ↦ record {
        input = record { upper = answer.upper; lower = answer.lower; parts = answer.parts; script = of.script; text = of.text; history = legal.history; legal = legal.legal };
        written = subst Grew legal.line grew;
      }
      | inr (inl undecided) ↦ absurd (omega (arith, zero, undecided.status_is))
      | inr (inr faulty) ↦ absurd (omega (arith, zero, faulty.status_is))
    ]

pub checked_at : (budget : ℕ) (read written : List ℕ) (status : ℕ) → IsAnswer in_rounds (tasks.Check budget) read written status → HasLegalReport read → (status ≡ 0) ⊎ (status ≡ 7)
checked_at budget read written status answer input = by answer.told
  where
    text : Text answer.upper input.script
    text = text_of read answer.upper answer.lower input.upper input.lower input.script answer.parts input.parts input.text

    legal_of : (script : Program) → Text answer.upper script → IsLegalReport script answer.lower input.history
    legal_of script other = subst (λ (bytes : List ℕ). IsLegalReport script bytes input.history) (sym (parts_once read answer.upper answer.lower input.upper input.lower answer.parts input.parts).1)
        (subst (λ (p : Program). IsLegalReport p input.lower input.history) (text_once answer.upper input.script script text other) input.legal)

    by : AnswersParts in_rounds (tasks.Check budget) answer.upper answer.lower written status → (status ≡ 0) ⊎ (status ≡ 7)
    by (inr fault) = absurd (fault.no_script (input.script, text))
    by (inl of) = elim of.told [
      | inl legal ↦ inl legal.status_is
      | inr (inl undecided) ↦ inr undecided.status_is
      | inr (inr faulty) ↦ absurd (faulty.none input.history (legal_of of.script of.text))
    ]

-- ---- lift

pub lifted_input : (read written : List ℕ) (status : ℕ) (Grew : List ℕ → Type 0) → IsAnswer in_rounds tasks.Lift read written status → status ≡ 0 → Grew written → IsLiftedInput read Grew
lifted_input read written status Grew answer zero grew = by answer.told
  where
    by : AnswersParts in_rounds tasks.Lift answer.upper answer.lower written status → IsLiftedInput read Grew
    by (inr fault) = absurd (omega (arith, zero, fault.status_is))
    by (inl of) = elim of.told [
      | inl lifted ↦ record {
        input = record { upper = answer.upper; lower = answer.lower; parts = answer.parts; script = of.script; text = of.text; history = lifted.history; ending = lifted.ending; report = lifted.read };
        report = written;
        lifted = lifted.lifted;
        written = grew;
      }
      | inr none ↦ absurd (omega (arith, zero, none.status_is))
    ]

pub lifted_at : (read written : List ℕ) (status : ℕ) → IsAnswer in_rounds tasks.Lift read written status → HasReport read → status ≡ 0
lifted_at read written status answer input = by answer.told
  where
    text : Text answer.upper input.script
    text = text_of read answer.upper answer.lower input.upper input.lower input.script answer.parts input.parts input.text

    read_of : (script : Program) → Text answer.upper script → IsReadAs script input.history input.ending answer.lower
    read_of script other = subst (λ (bytes : List ℕ). IsReadAs script input.history input.ending bytes)
        (sym (parts_once read answer.upper answer.lower input.upper input.lower answer.parts input.parts).1)
        (subst (λ (p : Program). IsReadAs p input.history input.ending input.lower) (text_once answer.upper input.script script text other) input.report)

    by : AnswersParts in_rounds tasks.Lift answer.upper answer.lower written status → status ≡ 0
    by (inr fault) = absurd (fault.no_script (input.script, text))
    by (inl of) = elim of.told [
      | inl lifted ↦ lifted.status_is
      | inr none ↦ absurd (none.none input.history input.ending (read_of of.script of.text))
    ]
