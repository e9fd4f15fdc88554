-- The limits of values, names, registers, events and threads, each named once. All of them are this project's own.
use Rattle.std.specs.Prelude.{ℕ, ◌≤◌}
use Rattle.te_terms.specs.Terms.{Term}
use Rattle.te_terms.specs.Measures.{height, node_count, fresh_count}

abbrev pub most_atoms : ℕ
most_atoms = 4

abbrev pub most_registers : ℕ
most_registers = 8

abbrev pub longest_name : ℕ
longest_name = 32

abbrev pub most_nodes : ℕ
most_nodes = 4096

abbrev pub greatest_height : ℕ
greatest_height = 32

abbrev pub most_fresh : ℕ
most_fresh = 16

abbrev pub most_threads : ℕ
most_threads = 64

-- what the term of an event keeps
pub record IsWithinLimits (t : Term) : Type 0 where
  pub low : height t ≤ greatest_height
  pub few : node_count t ≤ most_nodes
  pub few_fresh : fresh_count t ≤ most_fresh
