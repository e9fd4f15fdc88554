use Rattle.std.proofs.Common.{arith, ◌≡◌, refl, length}
use Rattle.te_terms.proofs.Lists.{get_some, found_here}
use Rattle.te_search.proofs.StackLevels.{cut_stack}
use Rattle.te_search.proofs.stack.Stack.cut.Goals as goal

pub returns-clause-stack : goal.returns-clause-stack
returns-clause-stack c =
    let m = get_some c.args.self.now.work.store.marks c.args.i
    (let a : length c.args.self.now.levels.items ≡ length c.args.self.now.work.store.marks = c.requires.levels.levels.as_long in omega (arith, a, c.requires.low)) in
    cut_stack c.args.self.now _ c.args.i c.index-level.result.now m.0 c.requires.levels
    (found_here c.args.self.now.levels.items c.args.i c.index-level.result.now c.requires.low c.index-level.ensures) m.1 refl
    c.cut-4.ensures c.truncate-2.ensures.items (c.cut.ensures m.0 m.1) c.truncate.ensures.items c.cut-2.ensures c.cut-3.ensures c.clear.ensures.items refl
