use Rattle.te_forms.proofs.EventsMade.{made}
use Rattle.te_forms.proofs.building.event_of.Goals as goal

pub returns : goal.returns
returns c =
    made c.args.nodes.now c.loop-node.code c.in_ok-new.field-0.value c.loop-node.node-index c.len-root.result c.args.value c.unit-regs.result c.in-Some.event
    c.in_ok-new.ensures.ok c.loop-node.invariant c.loop-node-test.false c.len-root.ensures.value c.unit-regs.ensures c.in-Some.ensures.some
