use Rattle.te_script.specs.Generated.{each, starting}
use Rattle.te_script.specs.Nodes.{HasEvents}
use Rattle.te_script.proofs.generator.starting_events.Given as goal

abbrev pub invariant-loop-round : goal.invariant-loop-round
invariant-loop-round l = HasEvents l.code l.roots.items (each (starting l.p l.r) l.round)
