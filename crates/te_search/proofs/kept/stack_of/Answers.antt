use Rattle.std.proofs.Common.{refl}
use Rattle.te_search.proofs.StacksMove.{empty_stack}
use Rattle.te_search.proofs.kept.stack_of.Goals as goal

pub returns-clause-stack : goal.returns-clause-stack
returns-clause-stack c = empty_stack _ c.requires.rise c.new-2.ensures c.new-3.ensures.items c.in_ok-store.ensures c.new-4.ensures.items c.new-5.ensures.items
    c.new-6.ensures c.new-7.ensures refl
