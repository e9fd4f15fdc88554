use Rattle.std.proofs.Common.{arith, ◌≤◌}
use Rattle.te_search.proofs.NumbersListed.{place_is, place_below}
use Rattle.te_search.proofs.certifying.place_among.Goals as goal

pub overflow_cast-result : goal.overflow_cast-result
overflow_cast-result c = let l : c.in-Some.i ≤ c.args.thread = place_below c.args.names.now c.in-Some.i c.args.thread c.requires.rise c.in-Some.ensures.0 in omega (arith, l, c.ranges.thread)

pub returns : goal.returns
returns c group e = place_is c.args.names.now group c.args.thread c.in-Some.i e c.in-Some.ensures.0 c.in-Some.ensures.1
