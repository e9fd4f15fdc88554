-- How the kinds of bytes exclude one another.
use Rattle.std.proofs.Common.{◌≡◌, ℕ, true, false, nat_eq, arith}
use Rattle.std.proofs.lemmas.Bool.Decides.{nat_tests}
use Rattle.std.specs.Char.{is_ascii_alphabetic, is_ascii_digit}
use Rattle.te_script.specs.Names.{is_word_byte}
use Rattle.te_reader.specs.Tokens.{is_blank}

pub letter_is_no_gap : (b : ℕ) → is_ascii_alphabetic b ≡ true → (is_blank b ≡ false) × (nat_eq b 35 ≡ false)
letter_is_no_gap b e = grind (arith, nat_tests)

pub letter_is_word : (b : ℕ) → is_ascii_alphabetic b ≡ true → is_word_byte b ≡ true
letter_is_word b e = grind (arith, nat_tests)

pub digit_is_no_gap : (b : ℕ) → is_ascii_digit b ≡ true → (is_blank b ≡ false) × (nat_eq b 35 ≡ false)
digit_is_no_gap b e = grind (arith, nat_tests)

pub digit_is_no_letter : (b : ℕ) → is_ascii_digit b ≡ true → is_ascii_alphabetic b ≡ false
digit_is_no_letter b e = grind (arith, nat_tests)
