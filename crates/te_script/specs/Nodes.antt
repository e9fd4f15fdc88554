-- Nodes that the generator puts behind others. No public clause cites this module.
use Rattle.std.specs.Prelude.{◌≡◌, ℕ, ◌<◌, ◌≤◌, List, length, map}
use Rattle.std.specs.List.{AllByRecursion}
use Rattle.te_terms.specs.declared.code.Node.{Node}
use Rattle.te_terms.specs.Codes.{term_at, term_under}
use Rattle.te_terms.specs.Terms.{Term}

-- what stands under the nodes that were there stays
pub record CodeGrows (before after : List Node) : Type 0 where
  pub longer : length before ≤ length after
  pub stays : (level i : ℕ) → i < length before → term_at after level i ≡ term_at before level i

-- the terms under the roots, one by one
pub record HasEvents (code : List Node) (roots : List ℕ) (events : List Term) : Type 0 where
  pub within : AllByRecursion (λ i. i < length code) roots
  pub events_are : map (term_under code) roots ≡ events
