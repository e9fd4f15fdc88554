-- A value is told by at most four atoms.
use Rattle.std.proofs.Common.{◌≡◌, ◌≢◌, ℕ, zero, suc, ◌+◌, ◌<◌, ◌≤◌, Bool, true, false, List, [], ◌∷◌, ◌++◌, length, map, take, slice_set, refl, sym, ap, ◌∙◌, arith, length-append, add-one}
use Rattle.std.specs.Prelude.{◌==◌, nat_le}
use Rattle.std.proofs.lemmas.Bool.Decides.{nat_tests}
use Rattle.te_terms.specs.declared.value.Atom.{Atom}
use Rattle.te_terms.specs.Limits.{most_atoms}
use Rattle.te_report.specs.Sayings.{up_to, cut_behind, words, few_atoms}
use Rattle.te_report.proofs.Cuts.{some_left, next_of_some}

pub few_kept : (v : List Atom) → length v ≤ 4 → few_atoms v ≡ v
few_kept v few = let some_few : nat_le (length v) most_atoms ≡ true = grind (arith, nat_tests) in rw some_few refl

pub many_gone : (v : List Atom) → 4 < length v → few_atoms v ≡ []
many_gone v many = let too_many : nat_le (length v) most_atoms ≡ false = grind (arith, nat_tests) in rw too_many refl

-- one atom more is put behind the first so many
pub take_set : {A : Type 0} (xs : List A) (n : ℕ) (x : A) → n < length xs → take (suc n) (slice_set xs n x) ≡ take n xs ++ x ∷ []
take_set [] n x lt = absurd (omega arith)
take_set (y ∷ ys) zero x lt = refl
take_set (y ∷ ys) (suc n) x lt = ap (λ zs. y ∷ zs) (take_set ys n x (omega arith))

pub length_set : {A : Type 0} (xs : List A) (n : ℕ) (x : A) → length (slice_set xs n x) ≡ length xs
length_set [] n x = refl
length_set (y ∷ ys) zero x = refl
length_set (y ∷ ys) (suc n) x = ap suc (length_set ys n x)

whole_taken : {A : Type 0} (xs : List A) (n : ℕ) → length xs ≡ n → length (take n xs) ≡ n
whole_taken [] zero e = refl
whole_taken [] (suc n) e = absurd (omega arith)
whole_taken (x ∷ xs) zero e = absurd (omega arith)
whole_taken (x ∷ xs) (suc n) e = ap suc (whole_taken xs n (omega arith))

-- four atoms and words left are too many
pub over_four : (f : List ℕ → Atom) (atoms : List Atom) (len c : ℕ) (rest : List ℕ) (b : Bool) (whole : List Atom) → length atoms ≡ 4 → len ≡ 4 → b ≡ (length rest == 0) → b ≡ false
    → take len atoms ++ map f (words c rest) ≡ whole → few_atoms whole ≡ []
over_four f atoms len c rest b whole four full is some so_far =
    let more : map f (words c rest) ≡ f (up_to c rest) ∷ map f (words c (cut_behind c rest)) = ap (map f) (next_of_some c rest (some_left rest b is some)) in
    let counted : length (map f (words c rest)) ≡ suc (length (map f (words c (cut_behind c rest)))) = ap length more in
    let taken_four : length (take len atoms) ≡ len = whole_taken atoms len (four ∙ sym full) in
    many_gone whole (omega (arith, ap length so_far, length-append (take len atoms) (map f (words c rest)), counted, taken_four, full))

-- one more atom
pub one_more : (atoms : List Atom) (len : ℕ) (x : Atom) → length atoms ≡ 4 → len ≤ 4 → len ≢ 4 → take (len + 1) (slice_set atoms len x) ≡ take len atoms ++ x ∷ []
one_more atoms len x four low other = ap (λ n. take n (slice_set atoms len x)) (add-one len) ∙ take_set atoms len x (omega arith)

pub few_taken : {A : Type 0} (xs : List A) (n : ℕ) → n ≤ 4 → length (take n xs) ≤ 4
few_taken xs n low = omega (arith, taken_le xs n)
  where
    taken_le : {A : Type 0} (xs : List A) (n : ℕ) → length (take n xs) ≤ n
    taken_le [] zero = omega arith
    taken_le [] (suc n) = omega arith
    taken_le (x ∷ xs) zero = omega arith
    taken_le (x ∷ xs) (suc n) = let le = taken_le xs n in omega arith
