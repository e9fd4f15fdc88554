-- A letter with a number behind it is a name, and so is a letter by itself.
use Rattle.std.proofs.Common.{◌≡◌, ◌≢◌, ℕ, suc, ◌^◌, ◌<◌, ◌≤◌, Bool, true, false, nat_le, List, [], ◌∷◌, length, get_or, refl, sym, ap, arith}
use Rattle.std.specs.Prelude.{if◌then◌else◌}
use Rattle.std.specs.List.{AllByRecursion}
use Rattle.std.specs.Fmt.{decimal}
use Rattle.std.specs.Str.Parse.{AllDigits}
use Rattle.std.specs.Char.{is_ascii_alphabetic}
use Rattle.std.proofs.lemmas.Bool.Decides.{nat_tests}
use Rattle.std.proofs.lemmas.Fmt.{decimal_is_IsNumeral, length-decimal-le}
use Rattle.std.proofs.lemmas.Str.Parse.{digit_from_value}
use Rattle.te_script.specs.Names.{reserved_words, is_word_byte, IsIdentifier, IsName}

-- the second byte of each of these words is a letter
abbrev go_on_with_letters : List (List ℕ) → Bool
go_on_with_letters [] = true
go_on_with_letters (w ∷ ws) = if nat_le 97 (get_or w 1 0) then go_on_with_letters ws else false

unlike_words : (ws : List (List ℕ)) (n : List ℕ) → get_or n 1 0 < 97 → go_on_with_letters ws ≡ true → AllByRecursion (λ w. w ≢ n) ws
unlike_words [] n low h = tt
unlike_words (w ∷ ws) n low h = by (nat_le 97 (get_or w 1 0)) refl (unlike_words ws n low) h where
  by : (b : Bool) → nat_le 97 (get_or w 1 0) ≡ b → (go_on_with_letters ws ≡ true → AllByRecursion (λ x. x ≢ n) ws)
      → (if b then go_on_with_letters ws else false) ≡ true → (w ≢ n) × AllByRecursion (λ x. x ≢ n) ws
  by true f later e = (λ same. let second : get_or w 1 0 ≡ get_or n 1 0 = ap (λ xs. get_or xs 1 0) same in absurd (grind (arith, nat_tests, second, f, low)), later e)
  by false f later e = absurd (let no : false ≡ true = e in cc)

-- a name whose second byte is no letter is no reserved word
not_reserved : (n : List ℕ) → get_or n 1 0 < 97 → AllByRecursion (λ w. w ≢ n) reserved_words
not_reserved n low = unlike_words reserved_words n low refl

-- digits are bytes of a word
pub word_bytes : (ds : List ℕ) → AllDigits 10 ds → AllByRecursion (λ x. is_word_byte x ≡ true) ds
word_bytes [] all = tt
word_bytes (d ∷ ds) all = (let digit = digit_from_value d all.0 in grind (arith, nat_tests, digit), word_bytes ds all.1)

low_first : (ds : List ℕ) → AllDigits 10 ds → get_or ds 0 0 < 97
low_first [] all = omega arith
low_first (d ∷ ds) all = omega (arith, digit_from_value d all.0)

pub numbered_name : (letter n : ℕ) → is_ascii_alphabetic letter ≡ true → n < 1000 → IsName (letter ∷ decimal n)
numbered_name letter n alphabetic few =
    let all = (decimal_is_IsNumeral n (omega (arith, few))).0.1 in
    record {
      identifier = (alphabetic, word_bytes (decimal n) all, not_reserved (letter ∷ decimal n) (low_first (decimal n) all));
      short = omega (arith, length-decimal-le 3 n (omega arith) (omega (arith, few)) (omega (arith, few)));
    }

pub letter_name : (letter : ℕ) → is_ascii_alphabetic letter ≡ true → IsName (letter ∷ [])
letter_name letter alphabetic = record { identifier = (alphabetic, tt, not_reserved (letter ∷ []) (omega arith)); short = omega arith }
