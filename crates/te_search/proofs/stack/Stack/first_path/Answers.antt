use Rattle.std.proofs.Common.{arith, rules, ◌≡◌, length, vec_len}
use Rattle.te_terms.proofs.Lists.{found_here}
use Rattle.te_search.proofs.PastsBegin.{Begun, begun, none_below}
use Rattle.te_search.proofs.stack.Stack.first_path.Goals as goal

pub overflow_cast-result : goal.overflow_cast-result
overflow_cast-result c =
    let long : vec_len c.args.self.now.levels ≡ length c.args.self.now.levels.items = search rules in
    let b : Begun c.args.self.now c.named_from-i.result c.index-level.result.now = begun c.args.self.now c.named_from-i.result c.index-level.result.now
    c.requires.levels (found_here c.args.self.now.levels.items c.named_from-i.result c.index-level.result.now
    (omega (arith, long, c.if-i-len.true, c.len.ensures)) c.index-level.ensures) in
    omega (arith, b.low, c.len-paths.ensures.number)

pub returns-then-i-len-clause-low : goal.returns-then-i-len-clause-low
returns-then-i-len-clause-low c =
    let long : vec_len c.args.self.now.levels ≡ length c.args.self.now.levels.items = search rules in
    (begun c.args.self.now c.named_from-i.result c.index-level.result.now
    c.requires.levels (found_here c.args.self.now.levels.items c.named_from-i.result c.index-level.result.now
    (omega (arith, long, c.if-i-len.true, c.len.ensures)) c.index-level.ensures)).low

pub returns-then-i-len-clause-none : goal.returns-then-i-len-clause-none
returns-then-i-len-clause-none c =
    let long : vec_len c.args.self.now.levels ≡ length c.args.self.now.levels.items = search rules in
    none_below c.args.self.now c.args.joined.now c.named_from-i.result c.index-level.result.now c.requires.levels
    (found_here c.args.self.now.levels.items c.named_from-i.result c.index-level.result.now
    (omega (arith, long, c.if-i-len.true, c.len.ensures)) c.index-level.ensures)
    c.named_from-i.ensures
