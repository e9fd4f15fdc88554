-- Words say one thing.
use Rattle.std.proofs.Common.{◌≡◌, ◌∙◌, ℕ, List, Some, refl, ap, sym, subst, slice_index, codes, inl, inr, nat_eq, if◌then◌else◌}
use Rattle.std.specs.Str.Parse.{digits_value, without_leading_plus}
use Rattle.clap.specs.Words.{Text}
use Rattle.tevents.specs.declared.words.Words.{Words}
use Rattle.tevents.specs.declared.words.Mode.{Mode}
use Rattle.tevents.specs.declared.words.Mode.TheVariants as modes
use Rattle.tevents.specs.Words.{mode_name, HasNumber, Says, AreRefused}
use Rattle.tevents.specs.Causes.{AnswersIn, Answers}

-- the first letters of the modes differ
abbrev letter : Mode → ℕ
letter m = slice_index (mode_name m) 0

abbrev mode_of_letter : ℕ → Mode
mode_of_letter n = if nat_eq n 115 then modes.Serial else (if nat_eq n 114 then modes.Run else (if nat_eq n 112 then modes.Print
    else (if nat_eq n 103 then modes.Gen else (if nat_eq n 99 then modes.Check else modes.Lift))))

letter_tells : (m : Mode) → mode_of_letter (letter m) ≡ m
letter_tells modes.Serial = refl
letter_tells modes.Run = refl
letter_tells modes.Print = refl
letter_tells modes.Gen = refl
letter_tells modes.Check = refl
letter_tells modes.Lift = refl

mode_once : (m n : Mode) → mode_name m ≡ mode_name n → m ≡ n
mode_once m n e = sym (letter_tells m) ∙ ap (λ (t : Text). mode_of_letter (slice_index t 0)) e ∙ letter_tells n

some_once : (a b : Text) → Some a ≡ Some b → a ≡ b
some_once a b e = cc

number_once : (words : List Text) (name : Text) (low high n m : ℕ) → HasNumber words name low high n → HasNumber words name low high m → n ≡ m
number_once words name low high n m a b = a.value ∙ ap (λ (t : Text). digits_value 10 (without_leading_plus t)) (some_once a.text b.text (sym a.given ∙ b.given)) ∙ sym b.value

same_words : (w v : Words) → w.mode ≡ v.mode → w.budget ≡ v.budget → w.number ≡ v.number → w ≡ v
same_words w v m b n = ap (λ (x : Mode). made x w.budget w.number) m ∙ ap (λ (x : ℕ). made v.mode x w.number) b ∙ ap (λ (x : ℕ). made v.mode v.budget x) n
  where
    made : Mode → ℕ → ℕ → Words
    made m b n = record { mode = m; budget = b; number = n }

pub says_once : (words : List Text) (w v : Words) → Says words w → Says words v → w ≡ v
says_once words w v a b =
    same_words w v (mode_once w.mode v.mode (some_once (mode_name w.mode) (mode_name v.mode) (sym a.mode_is ∙ b.mode_is)))
    (number_once words (codes "budget") 1 1000000 w.budget v.budget a.budget_is b.budget_is)
    (number_once words (codes "number") 0 999 w.number v.number a.number_is b.number_is)

-- words that say something aren't refused
pub not_refused : (words : List Text) (w : Words) → Says words w → AreRefused words → ⊥
not_refused words w says (inl faulty) = faulty says.taken
not_refused words w says (inr none) = none w.mode says.mode_is

-- ---- what is answered to them

-- what is answered in the mode at hand
pub answers_in : (w v : Words) (m : Mode) (read written : List ℕ) (status : ℕ) → w ≡ v → v.mode ≡ m → AnswersIn m v.budget v.number read written status → Answers w read written status
answers_in w v m read written status is mode answer = subst (λ (u : Words). Answers u read written status) (sym is)
    (subst (λ (n : Mode). AnswersIn n v.budget v.number read written status) (sym mode) answer)
