use Rattle.std.proofs.Common.{sym}
use Rattle.te_terms.proofs.ChildLemmas.{first_free, second_free}
use Rattle.te_terms.proofs.KeptLemmas.{new_over}
use Rattle.te_terms.proofs.code.EventCode.mark_over.Goals as goal

pub mark-first-requires : goal.mark-first-requires
mark-first-requires c = (first_free c.args.self.now c.args.node.now c.in-Some.a c.in-Some.b (sym c.in-Some.ensures) c.requires).0

pub mark-second-requires : goal.mark-second-requires
mark-second-requires c = (second_free c.args.self.now c.args.node.now c.in-Some.a c.in-Some.b (sym c.in-Some.ensures) c.requires).0

pub returns-in-Some : goal.returns-in-Some
returns-in-Some c =
    new_over c.args.self.now c.args.node.now c.in-Some.a c.in-Some.b c.mark-first.result c.mark-second.result
    c.own_choices-in-Some.result c.own_sends-in-Some.result c.own_receives-in-Some.result c.own_fresh-in-Some.result
    c.max.result
    (sym c.in-Some.ensures) c.mark-first.ensures.tells c.mark-second.ensures.tells c.own_choices-in-Some.ensures
    c.own_sends-in-Some.ensures c.own_receives-in-Some.ensures c.own_fresh-in-Some.ensures c.max.ensures
