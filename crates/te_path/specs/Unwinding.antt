-- Which frame takes an outcome. No public clause cites this module.
use Rattle.std.specs.Prelude.{Bool, true, false, List, [], ◌∷◌, Option, Some, None}
use Rattle.te_terms.specs.declared.value.Atom.{Atom}
use Rattle.te_terms.specs.declared.event.Outcome.{Outcome}
use Rattle.te_terms.specs.declared.event.Outcome.TheVariants.{Gives, Raises}
use Rattle.te_path.specs.declared.frames.Awaits.{Awaits}
use Rattle.te_path.specs.declared.frames.Awaits.TheVariants.{Given, Raised}
use Rattle.te_path.specs.declared.frames.FrameCell.{FrameCell}
use Rattle.te_path.specs.Chains.{frames_at}

-- `then` goes on with what is given, `catch` with what is raised
abbrev pub takes : Awaits → Outcome → Bool
takes Given (Gives v) = true
takes Given (Raises v) = false
takes Raised (Gives v) = false
takes Raised (Raises v) = true

abbrev pub value_in : Outcome → List Atom
value_in (Gives v) = v
value_in (Raises v) = v

-- the frame that takes an outcome, where one does, and those outside it
pub record Unwound : Type 0 where
  pub rest : List FrameCell
  pub taker : Option FrameCell

abbrev pub or_outer : FrameCell → List FrameCell → Bool → Unwound → Unwound
or_outer f fs true outer = record { rest = fs; taker = Some f }
or_outer f fs false outer = outer

-- of frames, the innermost first
abbrev pub unwound : Outcome → List FrameCell → Unwound
unwound o [] = record { rest = []; taker = None }
unwound o (f ∷ fs) = or_outer f fs (takes f.awaits o) (unwound o fs)

-- with the frames outside the taker found by its link
abbrev pub rest_of : List FrameCell → Option FrameCell → Unwound
rest_of cells None = record { rest = []; taker = None }
rest_of cells (Some f) = record { rest = frames_at cells f.parent; taker = Some f }
