-- Counts of nodes.
use Rattle.std.proofs.Common.{◌≡◌, ap, ◌∙◌}
use Rattle.te_reader.specs.Tallies.{Tally}

-- the same counts are the same tally
pub tally_same : (m n : Tally) → m.nodes ≡ n.nodes → m.fresh ≡ n.fresh → m ≡ n
tally_same m n e f = ap (λ x. record m { nodes = x }) e ∙ ap (λ x. record n { fresh = x }) f
