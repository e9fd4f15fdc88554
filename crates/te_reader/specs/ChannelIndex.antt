-- The index that finds the number of a channel by its name.
use Rattle.std.specs.Prelude.{◌≡◌, ℕ, ◌+◌, ◌*◌, ◌%◌, ◌<◌, ◌≤◌, List, [], ◌∷◌, length, slice_index}
use Rattle.std.specs.Borrow.{Bor}
use Rattle.std.specs.BTreeMap.{BTreeMap, get_by}
use Rattle.std.specs.Cmp.Lexicographic.{slice_cmp}
use Rattle.std.specs.Ordering.{nat_cmp}
use Rattle.te_script.specs.Scripts.{AreDistinct}
use Rattle.te_script.specs.Limits.{most_channels}
use Rattle.te_reader.specs.Grammar.{IsAt}
use Rattle.te_reader.specs.NameReads.{first_place_of}

-- the slot of a name, of which there are 256: its bytes are digits of a number
abbrev pub slot_behind : ℕ → List ℕ → ℕ
slot_behind so_far [] = so_far
slot_behind so_far (b ∷ bs) = slot_behind ((so_far * 31 + b) % 256) bs

-- at most 256 names, all different, each found at its place; the slot of each is marked
pub record IsIndex (names : List (List ℕ)) (numbers : BTreeMap (Bor (List ℕ)) ℕ) (slots : List ℕ) : Type 0 where
  pub few : length names ≤ most_channels
  pub distinct : AreDistinct names
  pub finds : (q : List ℕ) → get_by (λ k. slice_cmp nat_cmp q k.now) numbers ≡ first_place_of names q
  pub size : length slots ≡ 256
  pub marked : (i : ℕ) (n : List ℕ) → IsAt names i n → 0 < slice_index slots (slot_behind 0 n)
