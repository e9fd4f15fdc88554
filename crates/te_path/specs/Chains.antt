-- Cells of which each names an earlier one as its parent, or none. A link is a cell's number and one; 0 names none.
use Rattle.std.specs.Prelude.{◌≡◌, ℕ, zero, suc, ◌<◌, ◌≤◌, List, [], ◌∷◌, ◌++◌, length, map, reverse, Option, Some, None, slice_get}
use Rattle.te_terms.specs.declared.value.Atom.{Atom}
use Rattle.te_path.specs.declared.values.ValueCell.{ValueCell}
use Rattle.te_path.specs.declared.frames.FrameCell.{FrameCell}

abbrev pub linked : {A : Type 0} → (ℕ → List A) → (A → ℕ) → Option A → List A
linked rest parent None = []
linked rest parent (Some c) = c ∷ rest (parent c)

-- at most so many cells from a link on
abbrev pub chain_within : {A : Type 0} → ℕ → (A → ℕ) → List A → ℕ → List A
chain_within zero parent cells k = []
chain_within (suc rounds) parent cells zero = []
chain_within (suc rounds) parent cells (suc i) = linked (chain_within rounds parent cells) parent (slice_get cells i)

-- the cell of a link, its parent, and so on; parents are earlier, so as many rounds as the link suffice
abbrev pub chain : {A : Type 0} → (A → ℕ) → List A → ℕ → List A
chain parent cells k = chain_within k parent cells k

-- each cell's parent is an earlier one
abbrev pub IsLinked : {A : Type 0} → (A → ℕ) → List A → Type 0
IsLinked {A = A} parent cells = (i : ℕ) (c : A) → slice_get cells i ≡ Some c → parent c ≤ i

-- the new cells stand behind the old
abbrev pub Extends : {A : Type 0} → List A → List A → Type 0
Extends {A = A} old new = (more : List A) × (new ≡ old ++ more)

-- ---- inner values

abbrev pub value_parent : ValueCell → ℕ
value_parent c = c.parent

abbrev pub value_in_cell : ValueCell → List Atom
value_in_cell c = c.value

-- the inner values of a link, from level 0 on
abbrev pub inner_at : List ValueCell → ℕ → List (List Atom)
inner_at cells k = reverse (map value_in_cell (chain value_parent cells k))

pub record AreValues (cells : List ValueCell) : Type 0 where
  pub few : length cells < 4294967296
  pub linked : IsLinked value_parent cells
  pub levels : (i : ℕ) (c : ValueCell) → slice_get cells i ≡ Some c → c.level ≡ length (inner_at cells c.parent)

-- ---- frames

abbrev pub frame_parent : FrameCell → ℕ
frame_parent c = c.parent

-- the frames of a link, the innermost first
abbrev pub frames_at : List FrameCell → ℕ → List FrameCell
frames_at cells k = chain frame_parent cells k

pub record AreFrames (cells : List FrameCell) : Type 0 where
  pub few : length cells < 4294967296
  pub linked : IsLinked frame_parent cells
