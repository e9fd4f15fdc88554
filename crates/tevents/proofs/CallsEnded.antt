-- How a call ends that has read its bytes and has an answer to them: what is answered to the bytes that were read is an
-- answer to all bytes, and the status tells what was written.
use Rattle.std.proofs.Common.{◌≡◌, ◌≢◌, ◌⊎◌, ◌+◌, ◌≤◌, ℕ, List, [], length, take, Option, Some, subst, sym, ◌∙◌, inl, inr, arith}
use Rattle.te_io.specs.Stream.{GrewBy, GrewByPrefix, GaveFirst, GaveAll}
use Rattle.te_reader.specs.declared.fault.ScriptFault.{ScriptFault}
use Rattle.tevents.specs.declared.task.Task.{Task}
use Rattle.tevents.specs.FaultLines.{fault_line}
use Rattle.tevents.specs.Runs.{Way}
use Rattle.tevents.specs.Causes.{IsAnswer, IsStatus, IsTold, IsSilent, IsReadWhole, most_of}
use Rattle.tevents.proofs.AnswersTold.{told_of_answer, told_apart, line_of_five, whole_has_size, as_told}
use Rattle.tevents.proofs.PartsRead.{answer_to_all}
use Rattle.tevents.proofs.PostsCounted.{same_or_apart}

-- the status of what is told is the answer, but where the sink failed
as_written : (status result : ℕ) → IsTold status → (result ≢ 4 → result ≡ status) → (result ≡ 4) ⊎ IsTold result
as_written status result told whole = go (same_or_apart result 4)
  where
    go : (result ≡ 4) ⊎ (result ≡ 4 → ⊥) → (result ≡ 4) ⊎ IsTold result
    go (inl e) = inl e
    go (inr no_four) = inr (subst IsTold (sym (whole no_four)) told)

four_is_not_silent : (status : ℕ) → status ≡ 4 → IsSilent status → ⊥
four_is_not_silent status e (inl two) = omega (arith, e, two)
four_is_not_silent status e (inr (inl three)) = omega (arith, e, three)
four_is_not_silent status e (inr (inr nine)) = omega (arith, e, nine)

not_silent : (result : ℕ) → (result ≡ 4) ⊎ IsTold result → IsSilent result → ⊥
not_silent result (inl e) silent = four_is_not_silent result e silent
not_silent result (inr told) silent = (told_apart result told).1 silent

-- what the sink grew by, where it is known to be this text
grew_by : (before after : Option (List ℕ)) (written line : List ℕ) → written ≡ line → GrewBy before after written → GrewBy before after line
grew_by before after written line e h = subst (λ (text : List ℕ). GrewBy before after text) e h

module _ (way : Way) (task : Task) (most : ℕ) (given text : List ℕ) (status result : ℕ) (left rest held holds : Option (List ℕ)) (Failed : Type 0)
    (is : most ≡ most_of task) (answer : IsAnswer way task given text status) (first : GaveFirst (most + 1) left rest given)
    (whole : length given ≤ most → GaveAll left rest given) (written : result ≢ 4 → (result ≡ status) × GrewBy held holds text)
    (cut : result ≡ 4 → (status ≡ 4) ⊎ (Failed × GrewByPrefix held holds text)) where
  told : IsTold status
  told = told_of_answer way task given text status answer

  comes_to : (result ≡ 4) ⊎ IsTold result
  comes_to = as_written status result told (λ h. (written h).0)

  -- what is answered to the first bytes, one more than the task reads at most, is answered to all
  answered : (read : List ℕ) → left ≡ Some read → IsAnswer way task read text status
  answered read at = answer_to_all read given way task text status
      (subst (λ (n : ℕ). given ≡ take (n + 1) read) is (first read at).0) (λ few. (whole (subst (λ (n : ℕ). length given ≤ n) (sym is) few) read at).0) answer

  pub ended_statuses : IsStatus result
  ended_statuses = elim comes_to [ inl e ↦ inr (inr e) | inr told_so ↦ inl told_so ]

  pub ended_told : IsTold result → (read : List ℕ) → left ≡ Some read → (all : List ℕ) × IsAnswer way task read all result × GrewBy held holds all
  ended_told told_so read at =
      let grew = written (told_apart result told_so).0 in
      (text, subst (λ (s : ℕ). IsAnswer way task read text s) (sym grew.0) (answered read at), grew.1)

  pub ended_whole : IsReadWhole result → (read : List ℕ) → left ≡ Some read → rest ≡ Some []
  ended_whole read_whole read at =
      let same = (written (told_apart result (as_told result read_whole)).0).0 in
      let few : length given ≤ most_of task = whole_has_size way task given text status answer (subst IsReadWhole same read_whole) in
      (whole (subst (λ (n : ℕ). length given ≤ n) (sym is) few) read at).1

  pub ended_line : result ≡ 5 → (fault : ScriptFault) × GrewBy held holds (fault_line fault)
  ended_line five =
      let grew = written (λ four. (let bad : 4 ≡ 5 = sym four ∙ five in omega (arith, bad))) in
      let line = line_of_five way task given text status answer (sym grew.0 ∙ five) in
      (line.0, grew_by held holds text (fault_line line.0) line.1 grew.1)

  pub ended_silent : IsSilent result → ⊥
  ended_silent silent = not_silent result comes_to silent

  pub ended_failed : result ≡ 4 → Failed
  ended_failed four = elim (cut four) [ inl same ↦ absurd ((told_apart status told).0 same) | inr failed ↦ failed.0 ]

  pub ended_cut : result ≡ 4 → (read : List ℕ) → left ≡ Some read
      → (all : List ℕ) × (so : ℕ) × IsAnswer way task read all so × GrewByPrefix held holds all
  ended_cut four read at = elim (cut four) [
    | inl same ↦ absurd ((told_apart status told).0 same)
    | inr failed ↦ (text, status, answered read at, failed.1)
  ]
