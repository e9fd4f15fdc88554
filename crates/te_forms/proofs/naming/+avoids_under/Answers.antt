use Rattle.std.proofs.Common.{true, sym}
use Rattle.te_terms.specs.Views.{node_seen}
use Rattle.te_forms.proofs.NodesRead.{leaf_tells, node_names, first_names, second_tells}
use Rattle.te_forms.proofs.naming.+avoids_under.Goals as goal

pub returns-then-not-node_avoids : goal.returns-then-not-node_avoids
returns-then-not-node_avoids t c =
    node_names c.args.ring.now c.args.regs.now c.args.code.now c.args.i (node_seen c.in-Some.node) c.in-Some.ensures.forest c.in-Some.ensures.value
    c.if-not-node_avoids.ensures

pub returns-in_default-children_of : goal.returns-in_default-children_of
returns-in_default-children_of t c =
    leaf_tells c.args.ring.now c.args.regs.now c.args.code.now c.args.i (node_seen c.in-Some.node) c.in-Some.ensures.forest c.in-Some.ensures.value
    true (sym c.in_default-children_of.ensures) c.if-not-node_avoids.ensures

pub returns-then-not-avoids_under : goal.returns-then-not-avoids_under
returns-then-not-avoids_under t c =
    first_names c.args.ring.now c.args.regs.now c.args.code.now c.args.i (node_seen c.in-Some.node) c.in-Some.ensures.forest c.in-Some.ensures.value
    c.in-Some-children_of.a c.in-Some-children_of.b (sym c.in-Some-children_of.ensures) c.if-not-avoids_under.ensures

pub returns : goal.returns
returns t c =
    second_tells c.args.ring.now c.args.regs.now c.args.code.now c.args.i (node_seen c.in-Some.node) c.in-Some.ensures.forest c.in-Some.ensures.value
    c.avoids_under-2.result c.in-Some-children_of.a c.in-Some-children_of.b (sym c.in-Some-children_of.ensures) c.if-not-node_avoids.ensures
    c.if-not-avoids_under.ensures c.avoids_under-2.ensures
