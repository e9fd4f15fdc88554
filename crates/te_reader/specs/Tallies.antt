-- How many nodes stand before an event, and how many of them are fresh channels. It is this project's own.
use Rattle.std.specs.Prelude.{ℕ, suc, ◌+◌, ◌≤◌, List, length}
use Rattle.te_terms.specs.declared.code.Node.{Node}
use Rattle.te_terms.specs.Terms.{Term}
use Rattle.te_terms.specs.Measures.{node_count, fresh_count}
use Rattle.te_terms.specs.Shape.{fresh_nodes}
use Rattle.te_terms.specs.Limits.{most_nodes, most_fresh}

pub record Tally : Type 0 where
  pub nodes : ℕ
  pub fresh : ℕ

abbrev pub no_node : Tally
no_node = record { nodes = 0; fresh = 0 }

-- with one node more
abbrev pub one_node : Tally → Tally
one_node u = record { nodes = suc u.nodes; fresh = u.fresh }

-- with one fresh channel more
abbrev pub one_channel : Tally → Tally
one_channel u = record { nodes = suc u.nodes; fresh = suc u.fresh }

-- with an event more
abbrev pub tally_with_event : Tally → Term → Tally
tally_with_event u t = record { nodes = u.nodes + node_count t; fresh = u.fresh + fresh_count t }

-- an event still has room behind them
abbrev pub HasRoom : Tally → Term → Type 0
HasRoom u t = (u.nodes + node_count t ≤ most_nodes) × (u.fresh + fresh_count t ≤ most_fresh)

-- the nodes of a code
abbrev pub tally : List Node → Tally
tally code = record { nodes = length code; fresh = fresh_nodes code }
