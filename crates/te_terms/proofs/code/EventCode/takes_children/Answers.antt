use Rattle.std.proofs.Common.{sym}
use Rattle.te_terms.proofs.ChildLemmas.{two_free, two_differ, first_free, second_free}
use Rattle.te_terms.proofs.code.EventCode.takes_children.Goals as goal

pub returns-in-Some : goal.returns-in-Some
returns-in-Some c =
    let two = sym c.in-Some.ensures in (
      λ yes. let free = c.are_free.ensures.0 yes in two_free c.args.self.now c.args.node.now c.in-Some.a c.in-Some.b two free.0 free.1 free.2,
      λ free. c.are_free.ensures.1 (
        two_differ c.args.self.now c.args.node.now c.in-Some.a c.in-Some.b two free,
        first_free c.args.self.now
            c.args.node.now c.in-Some.a c.in-Some.b two free,
        second_free c.args.self.now c.args.node.now c.in-Some.a c.in-Some.b two free,
      ),
    )
