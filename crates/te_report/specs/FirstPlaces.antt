-- Where names stand in a list.
use Rattle.std.specs.Prelude.{◌≡◌, ℕ, List, Option, Some, slice_get}
use Rattle.std.specs.List.{position}
use Rattle.std.specs.Str.{bytes_eq}

-- the first place of a name
unfoldable pub place_of_name : List (List ℕ) → List ℕ → Option ℕ
place_of_name names n = position (λ x. bytes_eq x n) names

-- ---- a table of places, which no public clause cites

-- a place is the first of the name that stands there, if one does
abbrev pub IsFirstPlace : List (List ℕ) → ℕ → Type 0
IsFirstPlace names place = (n : List ℕ) → slice_get names place ≡ Some n → place_of_name names n ≡ Some place

-- so is each place in the table
abbrev pub AreFirstPlaces : List (List ℕ) → List ℕ → Type 0
AreFirstPlaces names table = (k place : ℕ) → slice_get table k ≡ Some place → IsFirstPlace names place
