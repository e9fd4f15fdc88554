use Rattle.std.proofs.Common.{arith}
use Rattle.te_terms.proofs.SlotLemmas.{Grown, grown}
use Rattle.te_terms.proofs.slot.store.Goals as goal
use Rattle.te_terms.proofs.slot.store.Goals.{After-push_reserved}

written : (c : After-push_reserved) → Grown c.args.slots.now.items c.push_reserved.new.self.items c.args.list.now.items c.put.new.list.items c.args.node.now
written c =
    grown c.args.slots.now.items c.push_reserved.new.self.items c.args.list.now.items c.put.new.list.items c.args.node.now
    c.args.form c.len-from.result c.requires.stored c.requires.few_calculations c.requires.form
    (omega (arith, c.len-from.ensures)) c.push_reserved.ensures.items c.put.ensures

pub returns-clause-nodes : goal.returns-clause-nodes
returns-clause-nodes c = (written c).nodes

pub returns-clause-stored : goal.returns-clause-stored
returns-clause-stored c = (written c).stored
