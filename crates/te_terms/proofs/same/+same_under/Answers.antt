use Rattle.std.proofs.Common.{refl, sym}
use Rattle.te_terms.specs.Views.{node_seen}
use Rattle.te_terms.proofs.CompareLemmas.{nodes_differ, leaves_same, leaves_same', firsts_differ, seconds_tell}
use Rattle.te_terms.proofs.same.+same_under.Goals as goal

pub returns-then-not-same_node : goal.returns-then-not-same_node
returns-then-not-same_node t c =
    nodes_differ c.args.code.now c.args.i (node_seen c.in-Some-Some.m) c.args.regs.now c.args.other.now c.args.j (node_seen c.in-Some-Some.n) c.args.others.now
    (c.in-Some-Some.ensures.forest, sym c.in-Some-Some.ensures.value) (c.in-Some-Some.ensures'.forest, sym c.in-Some-Some.ensures'.value) c.if-not-same_node.ensures

pub returns-in_default-children : goal.returns-in_default-children
returns-in_default-children t c =
    leaves_same c.args.code.now c.args.i (node_seen c.in-Some-Some.m) c.args.regs.now c.args.other.now c.args.j (node_seen c.in-Some-Some.n) c.args.others.now
    (c.in-Some-Some.ensures.forest, sym c.in-Some-Some.ensures.value) (c.in-Some-Some.ensures'.forest, sym c.in-Some-Some.ensures'.value)
    (sym c.in_default-children.ensures) (λ l. (c.if-not-same_node.ensures l).0 refl)

pub returns-in_default-children-2 : goal.returns-in_default-children-2
returns-in_default-children-2 t c =
    leaves_same' c.args.code.now c.args.i (node_seen c.in-Some-Some.m) c.args.regs.now c.args.other.now c.args.j (node_seen c.in-Some-Some.n) c.args.others.now
    (c.in-Some-Some.ensures.forest, sym c.in-Some-Some.ensures.value) (c.in-Some-Some.ensures'.forest, sym c.in-Some-Some.ensures'.value)
    (sym c.in_default-children-2.ensures) (λ l. (c.if-not-same_node.ensures l).0 refl)

pub returns-then-not-same_under : goal.returns-then-not-same_under
returns-then-not-same_under t c =
    firsts_differ c.args.code.now c.args.i (node_seen c.in-Some-Some.m) c.args.regs.now c.args.other.now c.args.j (node_seen c.in-Some-Some.n) c.args.others.now
    (c.in-Some-Some.ensures.forest, sym c.in-Some-Some.ensures.value) (c.in-Some-Some.ensures'.forest, sym c.in-Some-Some.ensures'.value)
    c.in-Some.a c.in-Some.b c.in-Some-children.c c.in-Some-children.d (sym c.in-Some.ensures) (sym c.in-Some-children.ensures) c.if-not-same_under.ensures

pub returns : goal.returns
returns t c =
    seconds_tell c.args.code.now c.args.i (node_seen c.in-Some-Some.m) c.args.regs.now c.args.other.now c.args.j (node_seen c.in-Some-Some.n) c.args.others.now
    (c.in-Some-Some.ensures.forest, sym c.in-Some-Some.ensures.value) (c.in-Some-Some.ensures'.forest, sym c.in-Some-Some.ensures'.value)
    c.in-Some.a c.in-Some.b c.in-Some-children.c c.in-Some-children.d c.same_under-2.result (sym c.in-Some.ensures) (sym c.in-Some-children.ensures)
    (λ l. (c.if-not-same_node.ensures l).0 refl) c.if-not-same_under.ensures c.same_under-2.ensures
