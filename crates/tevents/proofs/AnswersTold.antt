-- What an answer to the bytes that were read says of all bytes, and which statuses there are.
use Rattle.std.proofs.Common.{◌≡◌, ◌≢◌, ℕ, ◌+◌, ◌≤◌, List, ◌∷◌, length, length-append, refl, ap, ◌⊎◌, Result, Ok, Err, subst, sym, ◌∙◌, inl, inr, arith}
use Rattle.std.specs.Prelude.{IfOk}
use Rattle.te_script.specs.Scripts.{Program}
use Rattle.te_reader.specs.Text.{Text}
use Rattle.te_report.specs.declared.ending.Ending.{Ending}
use Rattle.te_report.specs.declared.ending.Ending.TheVariants as endings
use Rattle.te_history.specs.declared.entry.Entry.{Entry}
use Rattle.tevents.specs.declared.task.Task.{Task}
use Rattle.tevents.specs.declared.task.Task.TheVariants as tasks
use Rattle.te_report.specs.Report.{second, IsReport}
use Rattle.tevents.specs.Runs.{Way, RunEndsSo, IsRunReport, IsStatusAt}
use Rattle.tevents.specs.Headline.{IsHeadline}
use Rattle.tevents.specs.Parts.{AreParts, IsRuled}
use Rattle.tevents.specs.Causes.{Tells, PartsFor, AnswersParts, IsAnswer, most_of, IsDone, IsTold, IsReadWhole, IsSilent, IsScriptText, IsStatus}
use Rattle.tevents.specs.FaultLines.{fault_line}
use Rattle.te_reader.specs.declared.fault.ScriptFault.{ScriptFault}
use Rattle.te_reader.specs.declared.fault.ScriptFault.TheVariants as faults
use Rattle.te_reader.specs.Places.{HasFault}

-- ---- which statuses there are

status_of_run : (history : List Entry) (ending : Ending) (status : ℕ) → IsStatusAt history ending status → IsReadWhole status
status_of_run history endings.Closed status told = elim told [ inl stuck ↦ inl (inr stuck.1) | inr none ↦ inl (inl none.1) ]
status_of_run history endings.Full status told = inr (inl told)
status_of_run history (endings.Spent front paths groups) status told = inr (inr told)

pub as_told : (status : ℕ) → IsReadWhole status → IsTold status
as_told status (inl done) = inl done
as_told status (inr stopped) = inr (inr stopped)

-- what is told of a script is read whole, or a fault of its report
told_of_script : (way : Way) (task : Task) (lower : List ℕ) (script : Program) (written : List ℕ) (status : ℕ) → Tells way task lower script written status → IsReadWhole status ⊎ (status ≡ 8)
told_of_script way (tasks.Run budget) lower script written status told = inl (status_of_run told.history told.ending status told.status_is)
told_of_script way tasks.Print lower script written status told = inl (inl (inl told.1))
told_of_script way (tasks.Check budget) lower script written status told =
    elim told [
      | inl legal ↦ inl (inl (inl legal.status_is))
      | inr (inl undecided) ↦ inl (inr (inr undecided.status_is))
      | inr (inr faulty) ↦ inr faulty.status_is
    ]
told_of_script way tasks.Lift lower script written status told = elim told [ inl lifted ↦ inl (inl (inl lifted.status_is)) | inr none ↦ inr none.status_is ]

told_of_parts : (status : ℕ) → IsReadWhole status ⊎ (status ≡ 8) → IsTold status
told_of_parts status (inl whole) = as_told status whole
told_of_parts status (inr eight) = inr (inl (inr eight))

pub told_of_answer : (way : Way) (task : Task) (read written : List ℕ) (status : ℕ) → IsAnswer way task read written status → IsTold status
told_of_answer way task read written status answer = by answer.told
  where
    by : AnswersParts way task answer.upper answer.lower written status → IsTold status
    by (inl of) = told_of_parts status (told_of_script way task answer.lower of.script written status of.told)
    by (inr fault) = inr (inl (inl fault.status_is))

-- a told status is no other
pub told_apart : (status : ℕ) → IsTold status → (status ≡ 4 → ⊥) × (IsSilent status → ⊥)
told_apart status told = (
  λ e. apart 4 (λ f. absurd (omega (arith, f))) (λ f. absurd (omega (arith, f))) (λ f. absurd (omega (arith, f)))
      (λ f. absurd (omega (arith, f))) (λ f. absurd (omega (arith, f))) (λ f. absurd (omega (arith, f))) told e,
  λ h. elim h [
    | inl e ↦ apart 2 (λ f. absurd (omega (arith, f))) (λ f. absurd (omega (arith, f))) (λ f. absurd (omega (arith, f)))
        (λ f. absurd (omega (arith, f))) (λ f. absurd (omega (arith, f))) (λ f. absurd (omega (arith, f))) told e
    | inr (inl e) ↦ apart 3 (λ f. absurd (omega (arith, f))) (λ f. absurd (omega (arith, f)))
        (λ f. absurd (omega (arith, f))) (λ f. absurd (omega (arith, f))) (λ f. absurd (omega (arith, f)))
        (λ f. absurd (omega (arith, f))) told e
    | inr (inr e) ↦ apart 9 (λ f. absurd (omega (arith, f))) (λ f. absurd (omega (arith, f)))
        (λ f. absurd (omega (arith, f))) (λ f. absurd (omega (arith, f))) (λ f. absurd (omega (arith, f)))
        (λ f. absurd (omega (arith, f))) told e
  ],
)
  where
    apart : (n : ℕ) → (0 ≡ n → ⊥) → (1 ≡ n → ⊥) → (5 ≡ n → ⊥) → (8 ≡ n → ⊥) → (6 ≡ n → ⊥) → (7 ≡ n → ⊥) → IsTold status → status ≡ n → ⊥
    apart n a b c d f g (inl (inl z)) e = a (sym z ∙ e)
    apart n a b c d f g (inl (inr z)) e = b (sym z ∙ e)
    apart n a b c d f g (inr (inl (inl z))) e = c (sym z ∙ e)
    apart n a b c d f g (inr (inl (inr z))) e = d (sym z ∙ e)
    apart n a b c d f g (inr (inr (inl z))) e = f (sym z ∙ e)
    apart n a b c d f g (inr (inr (inr z))) e = g (sym z ∙ e)

-- where no end failed, the words were right and there was memory, something is told
pub only_told : (status : ℕ) → IsStatus status → (status ≡ 2 → ⊥) → (status ≡ 3 → ⊥) → (status ≡ 4 → ⊥) → (status ≡ 9 → ⊥)
    → IsTold status
only_told status (inl told) two three four nine = told
only_told status (inr (inl (inl e))) two three four nine = absurd (two e)
only_told status (inr (inl (inr (inl e)))) two three four nine = absurd (three e)
only_told status (inr (inl (inr (inr e)))) two three four nine = absurd (nine e)
only_told status (inr (inr e)) two three four nine = absurd (four e)

whole_is_not_eight : (status : ℕ) → IsReadWhole status → status ≡ 8 → ⊥
whole_is_not_eight status (inl (inl z)) e = omega (arith, z, e)
whole_is_not_eight status (inl (inr o)) e = omega (arith, o, e)
whole_is_not_eight status (inr (inl x)) e = omega (arith, x, e)
whole_is_not_eight status (inr (inr x)) e = omega (arith, x, e)

-- five goes with a fault of the script alone
pub whole_is_not_five : (status : ℕ) → IsReadWhole status → status ≡ 5 → ⊥
whole_is_not_five status (inl (inl z)) e = omega (arith, z, e)
whole_is_not_five status (inl (inr o)) e = omega (arith, o, e)
whole_is_not_five status (inr (inl x)) e = omega (arith, x, e)
whole_is_not_five status (inr (inr x)) e = omega (arith, x, e)

not_five : (status : ℕ) → IsReadWhole status ⊎ (status ≡ 8) → status ≡ 5 → ⊥
not_five status (inl whole) e = whole_is_not_five status whole e
not_five status (inr eight) e = omega (arith, eight, e)

pub line_of_five : (way : Way) (task : Task) (read written : List ℕ) (status : ℕ) → IsAnswer way task read written status → status ≡ 5 → (fault : ScriptFault) × (written ≡ fault_line fault)
line_of_five way task read written status answer five = by answer.told
  where
    by : AnswersParts way task answer.upper answer.lower written status → (fault : ScriptFault) × (written ≡ fault_line fault)
    by (inl of) = absurd (not_five status (told_of_script way task answer.lower of.script written status of.told) five)
    by (inr fault) = (fault.fault, fault.line)

-- parts that are short are of short bytes
size_of_both : (read upper lower : List ℕ) → AreParts read upper lower → length upper ≤ 1048576 → length lower ≤ 67108864 → length read ≤ 68157444
size_of_both read upper lower (inr (none, same, over)) size few = (let e : length read ≡ length upper = ap length same in omega (arith, e, size))
size_of_both read upper lower (inl (rule, least)) size few = by rule.ruled
  where
    count : length read ≡ length upper + length rule.behind
    count = ap length rule.whole ∙ length-append upper rule.behind

    by : IsRuled rule.behind lower → length read ≤ 68157444
    by (inl at) = (let four : length rule.behind ≡ length (45 ∷ 45 ∷ 45 ∷ 10 ∷ lower) = ap length at in omega (arith, count, four, size, few))
    by (inr (at, none)) = (let three : length rule.behind ≡ 3 = ap length at in omega (arith, count, three, size))

size_of_parts : (way : Way) (task : Task) (read upper lower : List ℕ) (script : Program) (written : List ℕ) (status : ℕ)
    → PartsFor task read upper lower → length upper ≤ 1048576 → Tells way task lower script written status
    → IsReadWhole status → length read ≤ most_of task
size_of_parts way (tasks.Run budget) read upper lower script written status parts size told whole = subst (λ (bytes : List ℕ). length bytes ≤ 1048576) (sym parts.0) size
size_of_parts way tasks.Print read upper lower script written status parts size told whole = subst (λ (bytes : List ℕ). length bytes ≤ 1048576) (sym parts.0) size
size_of_parts way (tasks.Check budget) read upper lower script written status parts size told whole = elim told [
  | inl legal ↦ size_of_both read upper lower parts size legal.legal.read.few
  | inr (inl undecided) ↦ size_of_both read upper lower parts size undecided.read.few
  | inr (inr faulty) ↦ absurd (whole_is_not_eight status whole faulty.status_is)
]
size_of_parts way tasks.Lift read upper lower script written status parts size told whole = elim told [
  | inl lifted ↦ size_of_both read upper lower parts size lifted.read.few
  | inr none ↦ absurd (whole_is_not_eight status whole none.status_is)
]

-- an answer that is read whole fits what is read of the source
pub whole_has_size : (way : Way) (task : Task) (read written : List ℕ) (status : ℕ) → IsAnswer way task read written status → IsReadWhole status → length read ≤ most_of task
whole_has_size way task read written status answer whole = by answer.told
  where
    by : AnswersParts way task answer.upper answer.lower written status → length read ≤ most_of task
    by (inl of) = size_of_parts way task read answer.upper answer.lower of.script written status answer.parts of.text.size of.told whole
    by (inr fault) = absurd (whole_is_not_five status whole fault.status_is)

-- a text of a script is run or printed
pub whole_at_script : (way : Way) (budget : ℕ) (read written : List ℕ) (status : ℕ) → IsAnswer way (tasks.Run budget) read written status → IsScriptText read → IsReadWhole status
whole_at_script way budget read written status answer some = by answer.told
  where
    by : AnswersParts way (tasks.Run budget) answer.upper answer.lower written status → IsReadWhole status
    by (inl of) = status_of_run of.told.history of.told.ending status of.told.status_is
    by (inr fault) = absurd (fault.no_script (subst IsScriptText answer.parts.0 some))

pub printed_at_script : (way : Way) (read written : List ℕ) (status : ℕ) → IsAnswer way tasks.Print read written status → IsScriptText read → status ≡ 0
printed_at_script way read written status answer some = by answer.told
  where
    by : AnswersParts way tasks.Print answer.upper answer.lower written status → status ≡ 0
    by (inl of) = of.told.1
    by (inr fault) = absurd (fault.no_script (subst IsScriptText answer.parts.0 some))

-- ---- the headline

done_closes : (status : ℕ) → IsDone status → (status ≡ 6 → ⊥) × (status ≡ 7 → ⊥)
done_closes status (inl z) = (λ e. omega (arith, z, e), λ e. omega (arith, z, e))
done_closes status (inr o) = (λ e. omega (arith, o, e), λ e. omega (arith, o, e))

headline_of_run : (way : Way) (budget : ℕ) (read written : List ℕ) (status : ℕ) (script : Program) → Text read script
    → IsRunReport way budget script written status → IsDone status → IsHeadline way read written status
headline_of_run way budget read written status script text told done = by told.ending refl
  where
    by : (e : Ending) → told.ending ≡ e → IsHeadline way read written status
    by endings.Closed is = record {
      script = script;
      history = told.history;
      text = text;
      run = subst (λ (e : Ending). RunEndsSo way budget script told.history e) is told.run;
      report = subst (λ (e : Ending). IsReport second script told.history e written) is told.report;
      status_of = subst (λ (e : Ending). IsStatusAt told.history e status) is told.status_is;
    }
    by endings.Full is = absurd ((done_closes status done).0 (subst (λ (e : Ending). IsStatusAt told.history e status) is told.status_is))
    by (endings.Spent front paths groups) is = absurd ((done_closes status done).1 (subst (λ (e : Ending). IsStatusAt told.history e status) is told.status_is))

pub headline_of : (way : Way) (budget : ℕ) (read written : List ℕ) (status : ℕ) → IsAnswer way (tasks.Run budget) read written status → IsDone status → IsHeadline way read written status
headline_of way budget read written status answer done = by answer.told
  where
    by : AnswersParts way (tasks.Run budget) answer.upper answer.lower written status → IsHeadline way read written status
    by (inl of) = headline_of_run way budget read written status of.script (subst (λ (bytes : List ℕ). Text bytes of.script) (sym answer.parts.0) of.text) of.told done
    by (inr fault) = absurd (whole_is_not_five status (inl done) fault.status_is)

-- a text of a script is read, where there is memory
no_text : (bytes : List ℕ) (r : Result Program ScriptFault) (told : ScriptFault) → r ≡ Err told → told ≢ faults.Memory
    → ((p : Program) → Text bytes p → (r ≡ Ok p) ⊎ (r ≡ Err faults.Memory)) → IsScriptText bytes → ⊥
no_text bytes r told is named text t = by (text t.0 t.1)
  where
    by : (r ≡ Ok t.0) ⊎ (r ≡ Err faults.Memory) → ⊥
    by (inl e) = cc
    by (inr e) = named cc

-- the line of a fault is an answer where the script's part of the bytes has it
pub fault_is_answer : {W E : Type 0} (way : Way) (task : Task) (text : W → List ℕ) (status : W → ℕ) (read upper lower : List ℕ)
    (told : ScriptFault) (script : Result Program ScriptFault) (answered : Result W E) → PartsFor task read upper lower → script ≡ Err told
    → ((p : Program) → Text upper p → (script ≡ Ok p) ⊎ (script ≡ Err faults.Memory)) → (told ≡ faults.Memory) ⊎ HasFault upper told
    → IfOk answered (λ told_so. told ≢ faults.Memory) → IfOk answered (λ told_so. (text told_so ≡ fault_line told) × (status told_so ≡ 5))
    → IfOk answered (λ told_so. IsAnswer way task read (text told_so) (status told_so))
fault_is_answer way task text status read upper lower told script (Ok written) parts refused reads stands named line =
    record {
      upper = upper;
      lower = lower;
      parts = parts;
      told =
          inr (record {
            no_script = no_text upper script told refused named reads;
            fault = told;
            stands = elim stands [ inl e ↦ absurd (named e) | inr h ↦ h ];
            line = line.0;
            status_is = line.1;
          });
    }
fault_is_answer way task text status read upper lower told script (Err e) parts refused reads stands named line = line

-- and so is what is told of the script
pub told_is_answer : {W E : Type 0} (way : Way) (task : Task) (text : W → List ℕ) (status : W → ℕ) (read upper lower : List ℕ)
    (script : Program) (answered : Result W E) → PartsFor task read upper lower → Text upper script
    → IfOk answered (λ told_so. Tells way task lower script (text told_so) (status told_so))
    → IfOk answered (λ told_so. IsAnswer way task read (text told_so) (status told_so))
told_is_answer way task text status read upper lower script (Ok written) parts spelled told =
    record {
      upper = upper;
      lower = lower;
      parts = parts;
      told =
          inl (record { script = script; text = spelled; told = told });
    }
told_is_answer way task text status read upper lower script (Err e) parts spelled told = told
