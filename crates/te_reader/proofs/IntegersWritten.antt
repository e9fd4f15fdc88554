-- The integer that decimal digits denote is the one that they were written of.
use Rattle.std.proofs.Common.{◌≡◌, ℕ, suc, ◌^◌, ◌<◌, ℤ, pos, negsuc, true, false, List, [], ◌∷◌, length, refl, ◌∙◌, ap, arith}
use Rattle.std.specs.Prelude.{◌-ℤ◌, ◌==◌}
use Rattle.std.specs.List.{AllByRecursion}
use Rattle.std.specs.Char.{is_ascii_digit}
use Rattle.std.specs.Fmt.{decimal, signed_decimal}
use Rattle.std.specs.Str.Parse.{AllDigits}
use Rattle.std.proofs.lemmas.Bool.Decides.{nat_tests}
use Rattle.std.proofs.lemmas.Int.{ints}
use Rattle.std.proofs.lemmas.Fmt.{decimal_is_IsNumeral, digits_value-decimal}
use Rattle.std.proofs.lemmas.Str.Parse.{digit_from_value, IsNumeralModel, numerals_by_fold, tells_digits}
use Rattle.te_terms.specs.Values.{fits_i64}
use Rattle.te_reader.specs.Tokens.{integer}
use Rattle.te_reader.specs.Integers.{digits_value, integer_value}
use Rattle.te_reader.specs.Grammar.{is, spells_integer}
use Rattle.te_reader.proofs.TokensWritten.{Writes, token_writes, digits_end, negative_ends}

own : IsNumeralModel (AllDigits 10) (digits_value 0)
own = numerals_by_fold _ tells_digits digits_value (record { empty = λ n. refl; more = λ n c cs k. refl })

digit_bytes : (ds : List ℕ) → AllDigits 10 ds → AllByRecursion (λ x. is_ascii_digit x ≡ true) ds
digit_bytes [] all = tt
digit_bytes (d ∷ ds) all = (let digit = digit_from_value d all.0 in grind (arith, nat_tests, digit), digit_bytes ds all.1)

integer_token : (text digits : List ℕ) (z : ℤ) → integer_value digits ≡ z → Writes text (is (integer digits)) → Writes text (spells_integer z)
integer_token text digits z denotes f = record { before = λ rest behind h k. let w = f.before rest behind h k in (w.0, (digits, denotes, w.1), w.2) }

-- digits that are there denote their number
positive_writes : (n : ℕ) (ds : List ℕ) → 0 < length ds → AllDigits 10 ds → digits_value 0 ds ≡ n → Writes ds (spells_integer (pos n))
positive_writes n [] some all value = absurd (omega arith)
positive_writes n (d ∷ ds) some all value =
    let bytes = digit_bytes (d ∷ ds) all in
    let digit = digit_from_value d all.0 in
    let no_minus : (d == 45) ≡ false = grind (arith, nat_tests, digit) in
    let denotes : integer_value (d ∷ ds) ≡ pos n = rw no_minus (ap pos value) in
    integer_token (d ∷ ds) (d ∷ ds) (pos n) denotes (token_writes (integer (d ∷ ds)) (λ b apart. digits_end d ds b bytes.0 bytes.1 apart))

below : (n : ℕ) → pos 0 -ℤ pos (suc n) ≡ negsuc n
below n = omega (arith, ints)

negative_writes : (n : ℕ) (ds : List ℕ) → 0 < length ds → AllDigits 10 ds → digits_value 0 ds ≡ suc n → Writes (45 ∷ ds) (spells_integer (negsuc n))
negative_writes n [] some all value = absurd (omega arith)
negative_writes n (d ∷ ds) some all value =
    let bytes = digit_bytes (d ∷ ds) all in
    let denotes : integer_value (45 ∷ d ∷ ds) ≡ negsuc n = ap (λ m. pos 0 -ℤ pos m) value ∙ below n in
    integer_token (45 ∷ d ∷ ds) (45 ∷ d ∷ ds) (negsuc n) denotes (token_writes (integer (45 ∷ d ∷ ds)) (λ b apart. negative_ends d ds b bytes.0 bytes.1 apart))

pub decimal_writes : (n : ℕ) → n < 2 ^ 64 → Writes (decimal n) (spells_integer (pos n))
decimal_writes n few = let is = (decimal_is_IsNumeral n few).0 in positive_writes n (decimal n) is.0 is.1 (digits_value-decimal own n few)

pub integer_writes : (z : ℤ) → fits_i64 z ≡ true → Writes (signed_decimal z) (spells_integer z)
integer_writes (pos n) fits = decimal_writes n (grind (arith, nat_tests, fits))
integer_writes (negsuc n) fits =
    let few : suc n < 2 ^ 64 = grind (arith, nat_tests, fits) in
    let is = (decimal_is_IsNumeral (suc n) few).0 in
    negative_writes n (decimal (suc n)) is.0 is.1 (digits_value-decimal own (suc n) few)
