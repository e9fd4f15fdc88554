-- What is answered to the first bytes of an input that is too long is an answer to all of it.
use Rattle.std.proofs.Common.{◌≡◌, ◌≤◌, ◌<◌, ◌⊎◌, ℕ, suc, ◌+◌, ◌-◌, List, [], ◌∷◌, ◌++◌, length, take, drop, refl, ap, sym, ◌∙◌, subst, inl, inr, arith, length-append, length-take, append_assoc}
use Rattle.std.proofs.lemmas.List.{take-append-drop}
use Rattle.std.proofs.lemmas.Bool.{cases_lt}
use Rattle.std.proofs.Math.Seq.{take-append-add}
use Rattle.te_script.specs.Scripts.{Program}
use Rattle.te_reader.specs.declared.fault.ScriptFault.{ScriptFault}
use Rattle.te_reader.specs.Places.{HasFault, StandsIn, place_in, place_behind, fault_from}
use Rattle.te_report.specs.declared.fault.ReportFault.{ReportFault}
use Rattle.te_report.specs.declared.fault.ReportFault.TheVariants as faults
use Rattle.te_report.specs.Told.{IsRefusedFor}
use Rattle.tevents.specs.declared.task.Task.{Task}
use Rattle.tevents.specs.declared.task.Task.TheVariants as tasks
use Rattle.tevents.specs.Parts.{HasRule, IsRuled, AreParts}
use Rattle.tevents.specs.Checks.{IsDecided, IsLifted, IsRefusedReport}
use Rattle.tevents.specs.Runs.{Way}
use Rattle.tevents.specs.Causes.{ReportsFault, Tells, PartsFor, AnswersParts, IsAnswer, most_of}
use Rattle.tevents.proofs.RulesFound.{parts_of}

-- ---- faults of what is too long

-- the place at which all bytes are left is the first
at_front : (bytes : List ℕ) (left : ℕ) → left ≡ length bytes → place_in bytes left ≡ place_behind []
at_front bytes left e = rw e (ap (λ k. place_behind (take k bytes)) (none_left (length bytes)) ∙ ap place_behind (take_none bytes)) where
  none_left : (n : ℕ) → n - n ≡ 0
  none_left n = omega arith

  take_none : (xs : List ℕ) → take 0 xs ≡ []
  take_none [] = refl
  take_none (x ∷ xs) = refl

fault_of_long : (xs ys : List ℕ) (e : ScriptFault) → 1048576 < length xs → 1048576 < length ys → HasFault xs e → HasFault ys e
fault_of_long xs ys e more most h = by h.stands
  where
    by : StandsIn xs h.cause h.left → HasFault ys e
    by (inl long) = record {
      cause = h.cause;
      left = length ys;
      stands = inl (most, long.1, refl);
      told =
          h.told ∙ ap (fault_from h.cause) (at_front xs h.left long.2 ∙ sym (at_front ys (length ys) refl));
    }
    by (inr short) = absurd (let few : length xs ≤ 1048576 = short.0 in omega (arith, more, few))

is_fault_of_long : (xs ys written : List ℕ) (status : ℕ) → 1048576 < length xs → 1048576 < length ys → ReportsFault xs written status → ReportsFault ys written status
is_fault_of_long xs ys written status more most h = record {
  no_script = λ t. (let few : length ys ≤ 1048576 = t.1.size in omega (arith, most, few));
  fault = h.fault;
  stands = fault_of_long xs ys h.fault more most h.stands;
  line = h.line;
  status_is = h.status_is;
}

-- ---- reports that are too long

refused_of_long : (script : Program) (xs ys written : List ℕ) → 67108864 < length xs → 67108864 < length ys → IsRefusedReport script xs written → IsRefusedReport script ys written
refused_of_long script xs ys written more most h = by h.fault refl
  where
    short : length xs ≤ 67108864 → ⊥
    short few = omega (arith, more, few)

    by : (f : ReportFault) → h.fault ≡ f → IsRefusedReport script ys written
    by faults.Head is = absurd (short (subst (IsRefusedFor script xs) is h.because).few)
    by (faults.Line n) is = absurd (short (subst (IsRefusedFor script xs) is h.because).stands.few)
    by (faults.Illegal n cause) is = absurd (short (subst (IsRefusedFor script xs) is h.because).stands.few)
    by (faults.Tail n) is = absurd (short (subst (IsRefusedFor script xs) is h.because).stands.few)
    by faults.Long is = record { fault = h.fault; named = h.named; because = subst (IsRefusedFor script ys) (sym is) most; line = h.line }
    by faults.Memory is = absurd (h.named is)

checked_of_long : (budget : ℕ) (script : Program) (xs ys written : List ℕ) (status : ℕ) → 67108864 < length xs
    → 67108864 < length ys → IsDecided budget script xs written status → IsDecided budget script ys written status
checked_of_long budget script xs ys written status more most h = elim h [
  | inl legal ↦ absurd (short legal.legal.read.few)
  | inr (inl undecided) ↦ absurd (short undecided.read.few)
  | inr (inr faulty) ↦ inr (inr (record {
    none = λ history legal. (let few : length ys ≤ 67108864 = legal.read.few in omega (arith, most, few));
    because = elim faulty.because [
      | inl refused ↦ inl (refused_of_long script xs ys written more most refused)
      | inr (inl ends) ↦ absurd (short ends.read.few)
      | inr (inr commits) ↦ absurd (short commits.read.few)
    ];
    status_is = faulty.status_is;
  }))
]
  where
    short : length xs ≤ 67108864 → ⊥
    short few = omega (arith, more, few)

lifted_of_long : (script : Program) (xs ys written : List ℕ) (status : ℕ) → 67108864 < length xs → 67108864 < length ys → IsLifted script xs written status → IsLifted script ys written status
lifted_of_long script xs ys written status more most h = elim h [
  | inl lifted ↦ absurd (let few : length xs ≤ 67108864 = lifted.read.few in omega (arith, more, few))
  | inr none ↦ inr (record {
    none = λ history ending read. (let few : length ys ≤ 67108864 = read.few in omega (arith, most, few));
    refused = refused_of_long script xs ys written more most none.refused;
    status_is = none.status_is;
  })
]

-- ---- rules in the first bytes

module _ (read given : List ℕ) (most : ℕ) (first : given ≡ take (most + 1) read) (long : most < length given) where
  all_long : most < length read
  all_long = (let cut : length given ≡ length (take (most + 1) read) = ap length first in
      let least : length (take (most + 1) read) ≤ length read = least_taken (most + 1) read in
      omega (arith, long, cut, least))
    where
      least_taken : (n : ℕ) (xs : List ℕ) → length (take n xs) ≤ length xs
      least_taken n xs = omega (arith, length-take n xs)

  abbrev rest : List ℕ
  rest = drop (most + 1) read

  parted : read ≡ given ++ rest
  parted = sym (take-append-drop (most + 1) read) ∙ ap (λ (xs : List ℕ). xs ++ rest) (sym first)

  -- a rule that ends within the first bytes stands there too
  rule_given : (before lower : List ℕ) → HasRule read before lower → length before + 4 ≤ most + 1 → (r : List ℕ) × HasRule given before r
  rule_given before lower h near = by h.ruled
    where
      k : ℕ
      k = most + 1 - length before - 4

      count : length before + suc (suc (suc (suc k))) ≡ most + 1
      count = omega (arith, near)

      by : IsRuled h.behind lower → (r : List ℕ) × HasRule given before r
      by (inl is) = (
        take k lower,
        record {
          behind = 45 ∷ 45 ∷ 45 ∷ 10 ∷ take k lower;
          whole = first ∙ ap (take (most + 1)) (h.whole ∙ ap (λ (xs : List ℕ). before ++ xs) is)
              ∙ ap (λ n. take n (before ++ 45 ∷ 45 ∷ 45 ∷ 10 ∷ lower)) (sym count) ∙ take-append-add before
              (45 ∷ 45 ∷ 45 ∷ 10 ∷ lower) (suc (suc (suc (suc k))));
          starts = h.starts;
          ruled = inl refl;
        },
      )
      by (inr (is, none)) = absurd (let size : length read ≡ length before + length h.behind =
          ap length h.whole ∙ length-append before h.behind in let three : length h.behind ≡ 3 = ap length is in
          omega (arith, near, size, three, all_long))

  -- a rule of the first bytes, with its line feed, is one of all
  rule_read : (upper lower : List ℕ) (h : HasRule given upper lower) → h.behind ≡ 45 ∷ 45 ∷ 45 ∷ 10 ∷ lower → HasRule read upper (lower ++ rest)
  rule_read upper lower h is = record {
    behind = 45 ∷ 45 ∷ 45 ∷ 10 ∷ (lower ++ rest);
    whole = parted ∙ ap (λ (xs : List ℕ). xs ++ rest) (h.whole ∙ ap (λ (xs : List ℕ). upper ++ xs) is) ∙ append_assoc upper (45 ∷ 45 ∷ 45 ∷ 10 ∷ lower) rest;
    starts = h.starts;
    ruled = inl refl;
  }

  -- a part that is too long for a script is so in all bytes
  upper_long : (upper lower other more : List ℕ) → 1048580 < most → AreParts given upper lower → AreParts read other more → 1048576 < length upper → 1048576 < length other
  upper_long upper lower other more wide parts all size = by (cases_lt 1048576 (length other)) all
    where
      by : (1048576 < length other) ⊎ (length other ≤ 1048576) → AreParts read other more → 1048576 < length other
      by (inl far) p = far
      by (inr near) (inr (none, same, over)) = absurd (let e : length read ≡ length other = ap length same in omega (arith, e, near, wide, all_long))
      by (inr near) (inl (rule, least)) = absurd (hit (rule_given other more rule (omega (arith, near, wide))) parts)
        where
          hit : (r : List ℕ) × HasRule given other r → AreParts given upper lower → ⊥
          hit r (inl (own, sooner)) = (let low : length upper ≤ length other = sooner other r.0 r.1 in omega (arith, low, near, size))
          hit r (inr (none, same, over)) = none other r.0 r.1

  -- else the rule stands in both, and what stands behind it is too long for a report
  lower_long : (upper lower : List ℕ) → most ≡ 68157444 → AreParts given upper lower → length upper ≤ 1048576 → (67108864 < length lower) × AreParts read upper (lower ++ rest)
  lower_long upper lower is (inr (none, same, over)) size = absurd (let e : length given ≡ length upper = ap length same in omega (arith, e, size, long, is))
  lower_long upper lower is (inl (rule, least)) size = by rule.ruled
    where
      count : length given ≡ length upper + length rule.behind
      count = ap length rule.whole ∙ length-append upper rule.behind

      by : IsRuled rule.behind lower → (67108864 < length lower) × AreParts read upper (lower ++ rest)
      by (inr (at, none)) = absurd (let three : length rule.behind ≡ 3 = ap length at in omega (arith, count, three, size, long, is))
      by (inl at) = (let four : length rule.behind ≡ length (45 ∷ 45 ∷ 45 ∷ 10 ∷ lower) = ap length at in omega (arith, count, four, size, long, is), inl (rule_read upper lower rule at, sooner))
        where
          sooner : (before r : List ℕ) → HasRule read before r → length upper ≤ length before
          sooner before r h = go (cases_lt (length before) (length upper))
            where
              go : (length before < length upper) ⊎ (length upper ≤ length before) → length upper ≤ length before
              go (inr l) = l
              go (inl near) = (let mine : (q : List ℕ) × HasRule given before q = rule_given before r h (omega (arith, near, size, is)) in least before mine.0 mine.1)

-- ---- answers

abbrev wants_report : Task → Type 0
wants_report (tasks.Run budget) = ⊥
wants_report tasks.Print = ⊥
wants_report (tasks.Check budget) = Unit {0}
wants_report tasks.Lift = Unit {0}

told_of_long : (way : Way) (task : Task) → wants_report task → (xs ys : List ℕ) (script : Program) (written : List ℕ) (status : ℕ)
    → 67108864 < length xs → 67108864 < length ys → Tells way task xs script written status
    → Tells way task ys script written status
told_of_long way (tasks.Run budget) w xs ys script written status more most h = absurd w
told_of_long way tasks.Print w xs ys script written status more most h = absurd w
told_of_long way (tasks.Check budget) w xs ys script written status more most h = checked_of_long budget script xs ys written status more most h
told_of_long way tasks.Lift w xs ys script written status more most h = lifted_of_long script xs ys written status more most h

module _ (read given : List ℕ) where
  -- where a script alone is wanted, more than it may have is a fault of its bytes
  alone : (way : Way) (task : Task) (written : List ℕ) (status : ℕ) → ((xs : List ℕ) → PartsFor task xs xs [])
      → ((xs upper lower : List ℕ) → PartsFor task xs upper lower → xs ≡ upper) → given ≡ take 1048577 read
      → 1048576 < length given → IsAnswer way task given written status → IsAnswer way task read written status
  alone way task written status whole same first long answer = by answer.told
    where
      is : length given ≡ length answer.upper
      is = ap length (same given answer.upper answer.lower answer.parts)

      far : 1048576 < length read
      far = all_long read given 1048576 first long

      by : AnswersParts way task answer.upper answer.lower written status → IsAnswer way task read written status
      by (inl of) = absurd (let few : length answer.upper ≤ 1048576 = of.text.size in omega (arith, few, is, long))
      by (inr fault) = record { upper = read; lower = []; parts = whole read; told = inr (is_fault_of_long answer.upper read written status (omega (arith, is, long)) far fault) }

  beside : (way : Way) (task : Task) (written : List ℕ) (status : ℕ) → wants_report task
      → ((xs upper lower : List ℕ) → PartsFor task xs upper lower → AreParts xs upper lower)
      → ((xs upper lower : List ℕ) → AreParts xs upper lower → PartsFor task xs upper lower) → given ≡ take 68157445 read
      → 68157444 < length given → IsAnswer way task given written status → IsAnswer way task read written status
  beside way task written status wants as_parts from_parts first long answer = by (cases_lt 1048576 (length answer.upper)) answer.told
    where
      parts : AreParts given answer.upper answer.lower
      parts = as_parts given answer.upper answer.lower answer.parts

      by : (1048576 < length answer.upper) ⊎ (length answer.upper ≤ 1048576) → AnswersParts way task answer.upper answer.lower written status → IsAnswer way task read written status
      by (inl far) (inl of) = absurd (let few : length answer.upper ≤ 1048576 = of.text.size in omega (arith, few, far))
      by (inl far) (inr fault) = (let all : (upper : List ℕ) × (lower : List ℕ) × AreParts read upper lower = parts_of read in record {
        upper = all.0;
        lower = all.1;
        parts = from_parts read all.0 all.1 all.2;
        told = inr (is_fault_of_long answer.upper all.0 written status far (upper_long read given 68157444 first long answer.upper answer.lower all.0 all.1 (omega arith) parts all.2 far) fault);
      })
      by (inr near) told = (let both : (67108864 < length answer.lower) × AreParts read answer.upper
          (answer.lower ++ rest read given 68157444 first long) =
          lower_long read given 68157444 first long answer.upper answer.lower refl parts near in
          let more : 67108864 < length (answer.lower ++ rest read given 68157444 first long) =
          (let size : length (answer.lower ++ rest read given 68157444 first long) ≡ length answer.lower + length
          (rest read given 68157444 first long) = length-append answer.lower
          (rest read given 68157444 first long) in omega (arith, size, both.0)) in
          record {
            upper = answer.upper;
            lower = answer.lower ++ rest read given 68157444 first long;
            parts = from_parts read answer.upper (answer.lower ++ rest read given 68157444 first long) both.1;
            told = elim told [
              | inl of ↦ inl (record {
                script = of.script;
                text = of.text;
                told =
                    told_of_long way task wants answer.lower (answer.lower ++ rest read given 68157444 first long) of.script
                    written status both.0 more of.told;
              })
              | inr fault ↦ inr fault
            ];
          })

  long_answer : (way : Way) (task : Task) (written : List ℕ) (status : ℕ) → given ≡ take (most_of task + 1) read
      → most_of task < length given → IsAnswer way task given written status → IsAnswer way task read written status
  long_answer way (tasks.Run budget) written status first long answer = alone way (tasks.Run budget) written status (λ xs. (refl, refl)) (λ xs upper lower p. p.0) first long answer
  long_answer way tasks.Print written status first long answer = alone way tasks.Print written status (λ xs. (refl, refl)) (λ xs upper lower p. p.0) first long answer
  long_answer way (tasks.Check budget) written status first long answer = beside way (tasks.Check budget) written status tt (λ xs upper lower p. p) (λ xs upper lower p. p) first long answer
  long_answer way tasks.Lift written status first long answer = beside way tasks.Lift written status tt (λ xs upper lower p. p) (λ xs upper lower p. p) first long answer

  pub answer_to_all : (way : Way) (task : Task) (written : List ℕ) (status : ℕ) → given ≡ take (most_of task + 1) read
      → (length given ≤ most_of task → given ≡ read) → IsAnswer way task given written status
      → IsAnswer way task read written status
  answer_to_all way task written status first whole answer = by (cases_lt (most_of task) (length given))
    where
      by : (most_of task < length given) ⊎ (length given ≤ most_of task) → IsAnswer way task read written status
      by (inl long) = long_answer way task written status first long answer
      by (inr short) = subst (λ (bytes : List ℕ). IsAnswer way task bytes written status) (whole short) answer
