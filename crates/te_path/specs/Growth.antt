-- Cells that are put behind others, and what a mark of them keeps.
use Rattle.std.specs.Prelude.{◌≡◌, length, take}
use Rattle.te_path.specs.declared.cells.Cells.{Cells}
use Rattle.te_path.specs.declared.cells.CellMark.{CellMark}
use Rattle.te_path.specs.Chains.{IsLinked, Extends, value_parent, frame_parent}

-- each cell names an earlier one, or none
pub record AreLinked (cells : Cells) : Type 0 where
  pub values : IsLinked value_parent cells.values
  pub frames : IsLinked frame_parent cells.frames

-- the new cells have the old in front
pub record Grows (old new : Cells) : Type 0 where
  pub values : Extends old.values new.values
  pub frames : Extends old.frames new.frames
  pub linked : AreLinked new

-- the mark tells how many cells there are
pub record IsMarkOf (cells : Cells) (mark : CellMark) : Type 0 where
  pub values : mark.values ≡ length cells.values
  pub frames : mark.frames ≡ length cells.frames

-- the cells up to a mark
abbrev pub cut_to : CellMark → Cells → Cells
cut_to mark cells = record { values = take mark.values cells.values; frames = take mark.frames cells.frames }
