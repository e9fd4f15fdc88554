use Rattle.std.proofs.Common.{arith, rules, ◌≡◌, ◌+◌, length, vec_len}
use Rattle.te_search.proofs.StacksMove.{nothing_used}
use Rattle.te_search.proofs.stack.Stack.cut_within.Goals as goal

pub returns-then-count-eq0-clause-within : goal.returns-then-count-eq0-clause-within
returns-then-count-eq0-clause-within c =
    let one : vec_len c.levels.self.levels ≡ length c.levels.self.levels.items = search rules in
    let z : length c.levels.self.levels.items ≡ 0 = omega (arith, one, c.len-count.ensures, c.if-count-eq0.true) in
    let u : length c.levels.self.work.store.paths + c.levels.self.work.groups ≡ 0 = nothing_used c.levels.self c.levels.invariant.0 z in
    omega (arith, u)
