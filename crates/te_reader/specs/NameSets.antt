-- The index of a list of names, by which it is found whether a name is among them.
use Rattle.std.specs.Prelude.{◌≡◌, ℕ, ◌≤◌, List, Some, slice_get}
use Rattle.std.specs.Borrow.{Bor}
use Rattle.std.specs.BTreeMap.{BTreeMap, get_by}
use Rattle.std.specs.Cmp.Lexicographic.{slice_cmp}
use Rattle.std.specs.Ordering.{nat_cmp}

-- each name is found at its place or at an earlier one that has the same name
abbrev pub FindsEachName : List (List ℕ) → BTreeMap (Bor (List ℕ)) ℕ → Type 0
FindsEachName names numbers =
    (i : ℕ) (n : List ℕ) → slice_get names i ≡ Some n
    → (j : ℕ) × (get_by (λ k. slice_cmp nat_cmp n k.now) numbers ≡ Some j) × (j ≤ i) × (slice_get names j ≡ Some n)
