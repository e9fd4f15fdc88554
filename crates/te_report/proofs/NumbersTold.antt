-- Numbers and integers in decimal are told as they are, and have digits alone.
use Rattle.std.proofs.Common.{◌≡◌, ℕ, suc, ◌+◌, ◌-◌, ◌*◌, ◌^◌, ◌<◌, ◌≤◌, Bool, true, false, ℤ, pos, negsuc, List, [], ◌∷◌, length, refl, ap, ◌∙◌, arith}
use Rattle.std.specs.Prelude.{◌==◌, ◌-ℤ◌, nat_lt}
use Rattle.std.specs.Fmt.{decimal, signed_decimal}
use Rattle.std.specs.Str.Parse.{AllDigits}
use Rattle.std.proofs.lemmas.Bool.Decides.{nat_tests}
use Rattle.std.proofs.lemmas.Int.{ints}
use Rattle.std.proofs.lemmas.Fmt.{decimal_is_IsNumeral, digits_value-decimal}
use Rattle.std.proofs.lemmas.Str.Parse.{digit_from_value, IsNumeralModel, numerals_by_fold, tells_digits}
use Rattle.te_terms.specs.Values.{fits_i64}
use Rattle.te_script.specs.Names.{is_word_byte}
use Rattle.te_report.specs.Sayings.{decimal_value, below, said_number, said_ticket, fitting_number, or_zero, said_integer}
use Rattle.te_report.proofs.Cuts.{lacks, lacks_cons}

own : IsNumeralModel (AllDigits 10) (decimal_value 0)
own = numerals_by_fold _ tells_digits decimal_value (record { empty = λ n. refl; more = λ n c cs k. refl })

pub grows : (so_far : ℕ) (ds : List ℕ) → so_far ≤ decimal_value so_far ds
grows so_far [] = omega arith
grows so_far (d ∷ ds) = omega (arith, grows (so_far * 10 + (d - 48)) ds)

decimal_told : (n : ℕ) → n < 2 ^ 64 → decimal_value 0 (decimal n) ≡ n
decimal_told n few = digits_value-decimal own n few

below_is : (bound n : ℕ) → n < bound → below bound n ≡ n
below_is bound n h = let yes_below : nat_lt n bound ≡ true = grind (arith, nat_tests) in rw yes_below refl

pub number_told : (n : ℕ) → n < 2 ^ 64 → said_number (decimal n) ≡ n
unfolding said_number
number_told n few = ap (below (2 ^ 64)) (decimal_told n few) ∙ below_is (2 ^ 64) n few

pub ticket_told : (n : ℕ) → n < 2 ^ 32 → said_ticket (decimal n) ≡ n
ticket_told n few = ap (below (2 ^ 32)) (number_told n (omega arith)) ∙ below_is (2 ^ 32) n few

-- ---- digits

digit_is_word : (d : ℕ) → 48 ≤ d → d ≤ 57 → is_word_byte d ≡ true
digit_is_word d low high = grind (arith, nat_tests)

other_digit : (c d : ℕ) → is_word_byte c ≡ false → 48 ≤ d → d ≤ 57 → (d == c) ≡ false
other_digit c d sign low high = by (d == c) refl where
  by : (t : Bool) → (d == c) ≡ t → t ≡ false
  by false e = refl
  by true e =
      let same : d ≡ c = grind (arith, nat_tests) in
      absurd (let no_word : is_word_byte d ≡ false = ap is_word_byte same ∙ sign in let word = digit_is_word d low high in cc)

digits_lack : (c : ℕ) (ds : List ℕ) → is_word_byte c ≡ false → AllDigits 10 ds → lacks c ds ≡ true
digits_lack c [] sign all = refl
digits_lack c (d ∷ ds) sign all =
    let digit = digit_from_value d all.0 in
    lacks_cons c d ds (other_digit c d sign digit.0 digit.1) (digits_lack c ds sign all.1)

pub number_lacks : (c n : ℕ) → is_word_byte c ≡ false → n < 2 ^ 64 → lacks c (decimal n) ≡ true
number_lacks c n sign few = digits_lack c (decimal n) sign (decimal_is_IsNumeral n few).0.1

pub number_some : (n : ℕ) → n < 2 ^ 64 → 0 < length (decimal n)
number_some n few = (decimal_is_IsNumeral n few).0.0

-- ---- integers

below_zero : (n : ℕ) → pos 0 -ℤ pos (suc n) ≡ negsuc n
below_zero n = omega (arith, ints)

fits : (z : ℤ) → fits_i64 z ≡ true → or_zero (fitting_number z) ≡ z
fits z h = rw h refl

-- digits that are there, by their first one
pub digits_told : (n : ℕ) (ds : List ℕ) → 0 < length ds → AllDigits 10 ds → decimal_value 0 ds ≡ n → fits_i64 (pos n) ≡ true → said_integer ds ≡ pos n
unfolding said_integer
digits_told n [] some all value h = absurd (omega arith)
digits_told n (d ∷ ds) some all value h =
    let digit = digit_from_value d all.0 in
    let no_minus : (d == 45) ≡ false = grind (arith, nat_tests, digit) in
    rw no_minus (ap (λ m. or_zero (fitting_number (pos m))) value ∙ fits (pos n) h)

minus_told : (n : ℕ) (ds : List ℕ) → decimal_value 0 ds ≡ suc n → fits_i64 (negsuc n) ≡ true → said_integer (45 ∷ ds) ≡ negsuc n
unfolding said_integer
minus_told n ds value h = ap (λ m. or_zero (fitting_number (pos 0 -ℤ pos m))) value ∙ ap (λ z. or_zero (fitting_number z)) (below_zero n) ∙ fits (negsuc n) h

pub integer_told : (z : ℤ) → fits_i64 z ≡ true → said_integer (signed_decimal z) ≡ z
integer_told (pos n) h =
    let few : n < 2 ^ 64 = grind (arith, nat_tests, h) in
    let is = (decimal_is_IsNumeral n few).0 in
    digits_told n (decimal n) is.0 is.1 (decimal_told n few) h
integer_told (negsuc n) h =
    let few : suc n < 2 ^ 64 = grind (arith, nat_tests, h) in
    minus_told n (decimal (suc n)) (decimal_told (suc n) few) h

pub integer_lacks : (c : ℕ) (z : ℤ) → is_word_byte c ≡ false → (45 == c) ≡ false → fits_i64 z ≡ true → lacks c (signed_decimal z) ≡ true
integer_lacks c (pos n) sign minus h = let few : n < 2 ^ 64 = grind (arith, nat_tests, h) in number_lacks c n sign few
integer_lacks c (negsuc n) sign minus h = let few : suc n < 2 ^ 64 = grind (arith, nat_tests, h) in lacks_cons c 45 (decimal (suc n)) minus (number_lacks c (suc n) sign few)

-- a text that is there and begins with no @
abbrev pub NoAt : List ℕ → Type 0
NoAt [] = ⊥
NoAt (b ∷ bs) = (b == 64) ≡ false

digits_begin : (ds : List ℕ) → 0 < length ds → AllDigits 10 ds → NoAt ds
digits_begin [] some all = absurd (omega arith)
digits_begin (d ∷ ds) some all = let digit = digit_from_value d all.0 in grind (arith, nat_tests, digit)

pub integer_begins : (z : ℤ) → fits_i64 z ≡ true → NoAt (signed_decimal z)
integer_begins (pos n) h = let few : n < 2 ^ 64 = grind (arith, nat_tests, h) in let is = (decimal_is_IsNumeral n few).0 in digits_begin (decimal n) is.0 is.1
integer_begins (negsuc n) h = refl

pub integer_some : (z : ℤ) → fits_i64 z ≡ true → 0 < length (signed_decimal z)
integer_some (pos n) h = let few : n < 2 ^ 64 = grind (arith, nat_tests, h) in number_some n few
integer_some (negsuc n) h = omega arith
