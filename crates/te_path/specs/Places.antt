-- How a node, with inner values and frames in cells, stands for a term. No public clause cites this module.
use Rattle.std.specs.Prelude.{◌≡◌, ℕ, suc, ◌+◌, ◌<◌, ◌≤◌, List, [], ◌∷◌, length, map}
use Rattle.std.specs.List.{AllByRecursion}
use Rattle.te_terms.specs.declared.value.Atom.{Atom}
use Rattle.te_terms.specs.declared.code.Node.{Node}
use Rattle.te_terms.specs.declared.event.Outcome.{Outcome}
use Rattle.te_terms.specs.declared.event.Outcome.TheVariants.{Gives, Raises}
use Rattle.te_terms.specs.Terms.{Term, replaced, scoped}
use Rattle.te_terms.specs.Steps.{Member, giving, raising}
use Rattle.te_terms.specs.Codes.{term_at}
use Rattle.te_terms.specs.Settling.{settled}
use Rattle.te_terms.specs.Measures.{node_count}
use Rattle.te_path.specs.declared.values.ValueCell.{ValueCell}
use Rattle.te_path.specs.declared.frames.FrameCell.{FrameCell}
use Rattle.te_path.specs.declared.cells.Cells.{Cells}
use Rattle.te_path.specs.declared.place.Place.{Place}
use Rattle.te_path.specs.Chains.{inner_at, frames_at}
use Rattle.te_path.specs.Growth.{AreLinked}
use Rattle.te_path.specs.Layers.{Layer, in_layers}
use Rattle.te_path.specs.Origins.{Origin, member_at}
use Rattle.te_path.specs.Paths.{all_fresh, HasFewFresh}

-- the term that gives or raises
abbrev pub ended : Outcome → Term
ended (Gives v) = giving v
ended (Raises v) = raising v

-- the term under node i, over the registers and all inner values
abbrev pub node_term : List Node → List (List Atom) → List (List Atom) → ℕ → Term
node_term code regs inner i = replaced (scoped regs inner) (term_at code (length inner) i)

-- the term under a second part, whose own name has no value yet
abbrev pub second_term : List Node → List (List Atom) → List (List Atom) → ℕ → Term
second_term code regs inner i = replaced (scoped regs inner) (term_at code (suc (length inner)) i)

abbrev pub layer_of : List Node → List (List Atom) → List ValueCell → FrameCell → Layer
layer_of code regs values f = record { awaits = f.awaits; level = length (inner_at values f.values); rest = second_term code regs (inner_at values f.values) f.second }

-- the frames of a link, the innermost first
abbrev pub layers_at : List Node → List (List Atom) → Cells → ℕ → List Layer
layers_at code regs cells k = map (layer_of code regs cells.values) (frames_at cells.frames k)

abbrev pub head_term : List Node → List (List Atom) → Cells → Place → Term
head_term code regs cells p = node_term code regs (inner_at cells.values p.values) p.node

abbrev pub term_of : List Node → List (List Atom) → Cells → Place → Term
term_of code regs cells p = in_layers (layers_at code regs cells p.frames) (head_term code regs cells p)

-- the member at a place, and the member at its node alone
abbrev pub placed : Origin → Cells → Place → Member
placed o cells p = member_at o p.count (term_of o.code o.regs cells p)

abbrev pub headed : Origin → Cells → Place → Member
headed o cells p = member_at o p.count (head_term o.code o.regs cells p)

-- the member at an outcome in these frames
abbrev pub ending_in : Origin → Cells → ℕ → ℕ → Outcome → Member
ending_in o cells count frames outcome = member_at o count (in_layers (layers_at o.code o.regs cells frames) (ended outcome))

-- ---- what is kept

pub record FrameFits (code : List Node) (values : List ValueCell) (f : FrameCell) : Type 0 where
  pub second : f.second < length code
  pub within : f.values ≤ length values

abbrev pub FramesFit : List Node → List ValueCell → List FrameCell → Type 0
FramesFit code values fs = AllByRecursion (FrameFits code values) fs

-- inner values and frames of some node of the code
pub record AreAround (code : List Node) (cells : Cells) (values frames : ℕ) : Type 0 where
  pub linked : AreLinked cells
  pub values_in : values ≤ length cells.values
  pub frames_in : frames ≤ length cells.frames
  pub fit : FramesFit code cells.values (frames_at cells.frames frames)

pub record IsPlace (o : Origin) (cells : Cells) (p : Place) : Type 0 where
  pub node_in : p.node < length o.code
  pub around : AreAround o.code cells p.values p.frames
  pub few : HasFewFresh (placed o cells p)

-- ---- what is left to do

abbrev pub node_left : List Node → ℕ → ℕ → ℕ
node_left code level i = node_count (term_at code level i)

abbrev pub frames_left : List Node → List ValueCell → List FrameCell → ℕ
frames_left code values [] = 0
frames_left code values (f ∷ fs) = node_left code (suc (length (inner_at values f.values))) f.second + frames_left code values fs

-- the nodes that the frames of a link have not come to
abbrev pub left_at : List Node → Cells → ℕ → ℕ
left_at code cells frames = frames_left code cells.values (frames_at cells.frames frames)

-- the nodes that the head and the frames have not come to
abbrev pub nodes_left : List Node → Cells → Place → ℕ
nodes_left code cells p = node_left code (length (inner_at cells.values p.values)) p.node + left_at code cells p.frames

-- ---- members compared

-- both settle as one, and no more fresh channels are made or may be made
pub record Alike (m n : Member) : Type 0 where
  pub settles : settled m ≡ settled n
  pub no_more : all_fresh n ≤ all_fresh m
