use Rattle.std.proofs.Common.{◌≡◌, take}
use Rattle.te_forms.proofs.building.event_of.Given as goal

abbrev pub invariant-loop-node : goal.invariant-loop-node
invariant-loop-node l = l.code ≡ take l.node-index l.nodes
