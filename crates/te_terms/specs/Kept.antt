-- What an event code keeps beside its nodes. No public clause cites this module.
use Rattle.std.specs.Prelude.{Bool, ◌≡◌, ◌↔◌, ℕ, zero, suc, ◌<◌, ◌≤◌, true, false, cond, List, [], ◌∷◌, length, Option, Some, None, slice_index_or, IsTrue}
use Rattle.std.specs.List.{sum_by}
use Rattle.te_terms.specs.declared.value.Atom.{Atom}
use Rattle.te_terms.specs.declared.code.Node.{Node}
use Rattle.te_terms.specs.declared.code.Node.TheVariants as nodes
use Rattle.te_terms.specs.declared.code.Mark.{Mark}
use Rattle.te_terms.specs.Terms.{Term, always, never, fresh, throw, send, recv, and_then, choose, catch, when, replaced, registers_to}
use Rattle.te_terms.specs.Codes.{term_at, term_under, primitive_of, expression_of}
use Rattle.te_terms.specs.Measures.{height, choice_count, send_count, receive_count, node_count, fresh_count}
use Rattle.te_terms.specs.Limits.{most_nodes, greatest_height, most_fresh}
use Rattle.te_terms.specs.Shape.{times_named, fresh_nodes, IsForest, term_over}

-- the mark of node i
pub record MarkTells (code : List Node) (i : ℕ) (mark : Mark) : Type 0 where
  pub nodes_are : mark.nodes ≡ node_count (term_under code i)
  pub choices_are : mark.choices ≡ choice_count (term_under code i)
  pub sends_are : mark.sends ≡ send_count (term_under code i)
  pub receives_are : mark.receives ≡ receive_count (term_under code i)
  pub height_is : mark.height ≡ height (term_under code i)
  pub fresh_are : mark.fresh ≡ fresh_count (term_under code i)
  pub has_parent : IsTrue mark.is_child ↔ (0 < times_named i code)

-- a count of the marks, where a node with a parent counts with that one
abbrev pub open_count : (Mark → ℕ) → Mark → ℕ
open_count of m = cond m.is_child 0 (of m)

abbrev pub nodes_under : Mark → ℕ
nodes_under m = m.nodes

abbrev pub fresh_of : Mark → ℕ
fresh_of m = m.fresh

pub record IsKept (code : List Node) (marks : List Mark) (fresh : ℕ) : Type 0 where
  pub forest : IsForest code
  pub as_many : length marks ≡ length code
  pub tells : (i : ℕ) (other : Mark) → i < length code → MarkTells code i (slice_index_or marks i other)
  pub all_nodes : sum_by (open_count nodes_under) marks ≡ length code
  pub all_fresh : sum_by (open_count fresh_of) marks ≡ fresh_nodes code
  pub fresh_are : fresh ≡ fresh_nodes code

-- what a mark can say
pub record IsLow (mark : Mark) : Type 0 where
  pub few : mark.nodes ≤ most_nodes
  pub few_choices : mark.choices ≤ most_nodes
  pub few_sends : mark.sends ≤ most_nodes
  pub few_receives : mark.receives ≤ most_nodes
  pub low : mark.height ≤ greatest_height
  pub few_fresh : mark.fresh ≤ most_fresh

-- two children as a list
abbrev pub listed : Option (ℕ × ℕ) → List ℕ
listed None = []
listed (Some p) = p.0 ∷ p.1 ∷ []

-- what a node itself adds to such a count of its term
abbrev pub own_weighing : ℕ → ℕ → ℕ → Node → ℕ
own_weighing c s r (nodes.Choose a b) = c
own_weighing c s r (nodes.Send p e) = s
own_weighing c s r (nodes.Recv p) = r
own_weighing c s r _ = 0

-- an earlier number that has no parent yet
abbrev pub IsFree : List Node → ℕ → Type 0
IsFree code i = (i < length code) × (times_named i code ≡ 0)

-- ---- marks of children

abbrev pub as_child : Mark → Mark
as_child m = record m { is_child = true }

abbrev pub adopt : ℕ → List Mark → List Mark
adopt i [] = []
adopt zero (m ∷ ms) = as_child m ∷ ms
adopt (suc i) (m ∷ ms) = m ∷ adopt i ms

-- the marks where each of these has got a parent
abbrev pub adopted : List ℕ → List Mark → List Mark
adopted [] ms = ms
adopted (c ∷ cs) ms = adopted cs (adopt c ms)

-- the mark of a node that is appended
pub record TellsNew (code : List Node) (node : Node) (mark : Mark) : Type 0 where
  pub nodes_are : mark.nodes ≡ node_count (term_over code node)
  pub choices_are : mark.choices ≡ choice_count (term_over code node)
  pub sends_are : mark.sends ≡ send_count (term_over code node)
  pub receives_are : mark.receives ≡ receive_count (term_over code node)
  pub height_is : mark.height ≡ height (term_over code node)
  pub fresh_are : mark.fresh ≡ fresh_count (term_over code node)
  pub no_parent : mark.is_child ≡ false

-- ---- a node over the terms of its children

-- the level of the second part
abbrev pub second_level : Node → ℕ → ℕ
second_level (nodes.Then a b) level = suc level
second_level (nodes.Catch a b) level = suc level
second_level _ level = level

-- the term of a node whose parts are these terms
abbrev pub formed : Node → ℕ → Term → Term → Term
formed (nodes.Always x) level e f = always (expression_of x)
formed nodes.Never level e f = never
formed nodes.Fresh level e f = fresh
formed (nodes.Throw x) level e f = throw (expression_of x)
formed (nodes.Send p x) level e f = send (primitive_of p) (expression_of x)
formed (nodes.Recv p) level e f = recv (primitive_of p)
formed (nodes.Then a b) level e f = and_then e level f
formed (nodes.Choose a b) level e f = choose e f
formed (nodes.Catch a b) level e f = catch e level f
formed (nodes.If c a b) level e f = when c.test (primitive_of c.left) (primitive_of c.right) e f

-- the test tells whether the terms under two nodes are the same, at each level
pub record Compares (test : Bool) (code : List Node) (i : ℕ) (regs : List (List Atom)) (other : List Node) (j : ℕ) (others : List (List Atom)) : Type 0 where
  pub at : (level : ℕ) → IsTrue test ↔ (replaced (registers_to regs) (term_at code level i) ≡ replaced (registers_to others) (term_at other level j))
