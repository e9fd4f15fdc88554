-- The cores before any entry.
use Rattle.std.proofs.Common.{◌≡◌, ℕ, zero, suc, ◌≤◌, List, [], ◌∷◌, length, map, take, refl, ap, arith}
use Rattle.te_script.specs.Scripts.{Thread}
use Rattle.te_script.specs.Cores.{At, core_after}
use Rattle.te_report.specs.Following.{cores_from}

pub first_of_each : {A : Type 0} (text : A → Thread) (k : ℕ) (xs : List A) → map (λ a. core_after (text a) []) xs ≡ cores_from [] k (map text xs)
first_of_each text k [] = refl
first_of_each text k (x ∷ xs) = ap (λ (cs : List At). core_after (text x) [] ∷ cs) (first_of_each text (suc k) xs)

-- all of a list is taken up to its end
pub take_past : {A : Type 0} (n : ℕ) (xs : List A) → length xs ≤ n → take n xs ≡ xs
take_past zero [] le = refl
take_past (suc n) [] le = refl
take_past zero (x ∷ xs) le = absurd (omega arith)
take_past (suc n) (x ∷ xs) le = ap (λ ys. x ∷ ys) (take_past n xs (omega arith))
