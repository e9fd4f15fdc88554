-- Which member a spot spells over cells, and what is kept.
use Rattle.std.specs.Prelude.{◌≡◌, ℕ, zero, suc, List, slice_get, Some}
use Rattle.te_terms.specs.declared.value.Atom.{Atom}
use Rattle.te_terms.specs.declared.code.Node.{Node}
use Rattle.te_terms.specs.declared.code.Node.TheVariants as nodes
use Rattle.te_terms.specs.declared.event.Outcome.{Outcome}
use Rattle.te_terms.specs.declared.event.Outcome.TheVariants.{Gives, Raises}
use Rattle.te_terms.specs.Terms.{Term, never}
use Rattle.te_terms.specs.Steps.{Member, giving, raising, head, IsSettled}
use Rattle.te_path.specs.declared.cells.Cells.{Cells}
use Rattle.te_path.specs.declared.spot.Stop.{Stop}
use Rattle.te_path.specs.declared.spot.Stop.TheVariants as stops
use Rattle.te_path.specs.declared.spot.Spot.{Spot}
use Rattle.te_path.specs.Chains.{inner_at}
use Rattle.te_path.specs.Layers.{in_layers}
use Rattle.te_path.specs.Origins.{Origin, member_at}
use Rattle.te_path.specs.Paths.{StandsAt, HasFewFresh}
use Rattle.te_path.specs.Places.{node_term, layers_at, AreAround}

-- where no node is left, the outcome's own term
abbrev pub ended_at : Stop → Term
ended_at (stops.Done v) = giving v
ended_at (stops.Raised v) = raising v
ended_at _ = never

abbrev pub stop_of : Outcome → Stop
stop_of (Gives v) = stops.Done v
stop_of (Raises v) = stops.Raised v

-- a node by its number and one
abbrev pub head_at : List Node → List (List Atom) → List (List Atom) → Stop → ℕ → Term
head_at code regs inner stop zero = ended_at stop
head_at code regs inner stop (suc i) = node_term code regs inner i

abbrev pub head_of : List Node → List (List Atom) → Cells → Spot → Term
head_of code regs cells s = head_at code regs (inner_at cells.values s.values) s.stop s.node

-- the term that a spot of an event with this code and these registers spells
abbrev pub spelled_term : List Node → List (List Atom) → Cells → Spot → Term
spelled_term code regs cells s = in_layers (layers_at code regs cells s.frames) (head_of code regs cells s)

-- the member that it spells
abbrev pub spelled : Origin → Cells → Spot → Member
spelled o cells s = member_at o s.count (spelled_term o.code o.regs cells s)

pub record IsChoiceNode (code : List Node) (k : ℕ) : Type 0 where
  pub number : ℕ
  pub left : ℕ
  pub right : ℕ
  pub at : k ≡ suc number
  pub is : slice_get code number ≡ Some (nodes.Choose left right)

-- a spot with no quiet step left, whose stop is where its term stands
pub record IsSpot (o : Origin) (cells : Cells) (s : Spot) : Type 0 where
  pub around : AreAround o.code cells s.values s.frames
  pub own_head : head (head_of o.code o.regs cells s) ≡ head_of o.code o.regs cells s
  pub settled : IsSettled (spelled o cells s)
  pub stands : StandsAt (spelled o cells s).term s.stop
  pub choice : s.stop ≡ stops.Choice → IsChoiceNode o.code s.node
  pub few : HasFewFresh (spelled o cells s)
