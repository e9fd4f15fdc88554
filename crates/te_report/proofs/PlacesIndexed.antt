-- A table of places tells first places, and so finds a name.
use Rattle.std.proofs.Common.{◌≡◌, ◌<◌, ℕ, zero, suc, List, [], ◌∷◌, Some, replicate, slice_get, slice_index_or, slice_set, refl, sym, ◌∙◌, subst, arith}
use Rattle.std.specs.Str.{bytes_eq}
use Rattle.std.proofs.lemmas.Slice.Eq.{bytes_eq-Decides}
use Rattle.te_report.specs.FirstPlaces.{place_of_name, IsFirstPlace, AreFirstPlaces}
use Rattle.te_report.proofs.NamesTold.{position_is, first_found}

-- the name at the first place stands there first
first_of_all : (names : List (List ℕ)) → IsFirstPlace names 0
unfolding place_of_name
first_of_all names n there =
    position_is (λ x. bytes_eq x n) names ∙ first_found (λ x. bytes_eq x n) names 0 n there ((bytes_eq-Decides n n).1 refl) (λ k y lt. absurd (omega (arith, lt)))

zeros : (count k place : ℕ) → slice_get (replicate count 0) k ≡ Some place → 0 ≡ place
zeros zero k place there = cc
zeros (suc count) zero place there = cc
zeros (suc count) (suc k) place there = zeros count k place there

-- a table of zeros
pub none_told : (names : List (List ℕ)) (count : ℕ) → AreFirstPlaces names (replicate count 0)
none_told names count k place there = subst (IsFirstPlace names) (zeros count k place there) (first_of_all names)

-- a place whose name stands there first
pub stands_first : (names : List (List ℕ)) (place : ℕ) (n : List ℕ) → slice_get names place ≡ Some n → place_of_name names n ≡ Some place → IsFirstPlace names place
stands_first names place n there first m there' =
    let same : n ≡ m = (let both : Some n ≡ Some m = sym there ∙ there' in cc) in subst (λ x. place_of_name names x ≡ Some place) same first

-- one place more is told
pub one_told : (names : List (List ℕ)) (table : List ℕ) (at place : ℕ) → AreFirstPlaces names table → IsFirstPlace names place → AreFirstPlaces names (slice_set table at place)
one_told names [] at place told first k p there = cc
one_told names (x ∷ table) zero place told first zero p there = (let same : place ≡ p = cc in subst (IsFirstPlace names) same first)
one_told names (x ∷ table) zero place told first (suc k) p there = told (suc k) p there
one_told names (x ∷ table) (suc at) place told first zero p there = told zero p there
one_told names (x ∷ table) (suc at) place told first (suc k) p there = one_told names table at place (λ j. told (suc j)) first k p there

-- what the table tells under any number
pub told_at : (names : List (List ℕ)) (table : List ℕ) (k : ℕ) → AreFirstPlaces names table → IsFirstPlace names (slice_index_or table k 0)
told_at names [] k told = first_of_all names
told_at names (x ∷ table) zero told = told 0 x refl
told_at names (x ∷ table) (suc k) told = told_at names table k (λ j. told (suc j))
