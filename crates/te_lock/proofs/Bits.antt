-- The lowest bit of a word.
use Rattle.std.proofs.Common.{◌≡◌, ℕ, ◌+◌, ◌*◌, ◌^◌, ◌≤◌, bit_or, bit_and, ap, ◌∙◌, sym, arith}
use Rattle.std.proofs.lemmas.Nat.{or_shifted, or_block, or_disjoint, and_le_r}

or-zero : (n : ℕ) → bit_or n 0 ≡ n
or-zero n =
    let none : bit_and n 0 ≡ 0 = let least : bit_and n 0 ≤ 0 = and_le_r n 0 in omega arith in
    or_disjoint n 0 none ∙ omega arith

-- an even word gets the bit
pub or_one-even : (n : ℕ) → bit_or (2 * n) 1 ≡ 2 * n + 1
or_one-even n =
    let twice : 2 * n ≡ n * 2 ^ 1 = omega arith in
    ap (λ k. bit_or k 1) twice ∙ or_shifted n 1 1 (omega arith) ∙ ap (λ k. k + 1) (sym twice)

-- an odd word has it
pub or_one-odd : (n : ℕ) → bit_or (2 * n + 1) 1 ≡ 2 * n + 1
or_one-odd n =
    let twice : 2 * n + 1 ≡ n * 2 ^ 1 + 1 = omega arith in
    ap (λ k. bit_or k 1) twice ∙ or_block 1 n 0 1 1 (omega arith) (omega arith) ∙ ap (λ k. k * 2 ^ 1 + 1) (or-zero n) ∙ sym twice
