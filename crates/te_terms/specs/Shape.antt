-- The shape of a code of nodes. All of it is this project's own.
use Rattle.std.specs.Prelude.{◌≡◌, ℕ, ◌<◌, ◌≤◌, List, [], ◌∷◌, ◌++◌, length, Some, slice_get, ◌==◌}
use Rattle.std.specs.List.{sum_by, count_by, AllByRecursion}
use Rattle.te_terms.specs.declared.code.Node.{Node}
use Rattle.te_terms.specs.declared.code.Node.TheVariants as nodes
use Rattle.te_terms.specs.Terms.{Term}
use Rattle.te_terms.specs.Measures.{height, node_count, fresh_count}
use Rattle.te_terms.specs.Limits.{most_nodes, greatest_height, most_fresh}
use Rattle.te_terms.specs.Codes.{over, term_at, term_under}

-- ---- children

-- the children of a node, by their numbers, the first part first
abbrev pub children : Node → List ℕ
children (nodes.Then a b) = a ∷ b ∷ []
children (nodes.Choose a b) = a ∷ b ∷ []
children (nodes.Catch a b) = a ∷ b ∷ []
children (nodes.If c a b) = a ∷ b ∷ []
children _ = []

-- how often a node names a number as its child
abbrev pub times_in : ℕ → Node → ℕ
times_in c node = count_by (λ x. x == c) (children node)

-- how often the nodes name it
abbrev pub times_named : ℕ → List Node → ℕ
times_named c code = sum_by (times_in c) code

-- the children are earlier than node i
abbrev pub NamesEarlier : ℕ → Node → Type 0
NamesEarlier i node = AllByRecursion (λ c. c < i) (children node)

-- the number of `Fresh` nodes
abbrev pub one_if_fresh : Node → ℕ
one_if_fresh nodes.Fresh = 1
one_if_fresh _ = 0

abbrev pub fresh_nodes : List Node → ℕ
fresh_nodes code = sum_by one_if_fresh code

-- what a code keeps
pub record IsForest (code : List Node) : Type 0 where
  pub few : length code ≤ most_nodes
  pub earlier : (i : ℕ) (node : Node) → slice_get code i ≡ Some node → NamesEarlier i node
  pub one_parent : (c : ℕ) → times_named c code ≤ 1
  pub low : (i : ℕ) → i < length code → height (term_under code i) ≤ greatest_height
  pub few_under : (i : ℕ) → i < length code → node_count (term_under code i) ≤ length code
  pub fresh_under : (i : ℕ) → i < length code → fresh_count (term_under code i) ≤ fresh_nodes code
  pub few_fresh : fresh_nodes code ≤ most_fresh

-- ---- one node more

-- each child of the node is an earlier one that has no parent yet, and is named once
abbrev pub HasFreeChildren : List Node → Node → Type 0
HasFreeChildren code node = (c : ℕ) → 0 < times_in c node → (c < length code) × (times_named c (code ++ node ∷ []) ≡ 1)

-- the term under a node that is appended to the code
abbrev pub term_over : List Node → Node → Term
term_over code node = over (term_at code) 0 (Some node)
