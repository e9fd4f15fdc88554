use Rattle.std.proofs.Common.{arith, false, true}
use Rattle.std.proofs.lemmas.Bool.{lt-ltb, le-ltb}
use Rattle.te_trail.proofs.TicksMerge.{next_right, next_left, next_lower, next_higher, next_both}
use Rattle.te_trail.proofs.ticks.next_tick.Goals as goal

pub returns-then-i-i_end-clause-tick : goal.returns-then-i-i_end-clause-tick
returns-then-i-i_end-clause-tick c = next_right c.args.ticks.now c.args.i c.args.i_end c.args.j c.args.j_end _ c.if-i-i_end.true (omega (arith, c.if-i-i_end.true, c.requires.some)) c.requires.j_within

pub returns-then-j-j_end-clause-tick : goal.returns-then-j-j_end-clause-tick
returns-then-j-j_end-clause-tick c = next_left c.args.ticks.now c.args.i c.args.i_end c.args.j c.args.j_end _ c.if-j-j_end.true (omega (arith, c.if-j-j_end.true, c.requires.some)) c.requires.i_within

pub returns-then-a-b-clause-tick : goal.returns-then-a-b-clause-tick
returns-then-a-b-clause-tick c = next_lower c.args.ticks.now c.args.i c.args.i_end c.args.j c.args.j_end _
    (omega (arith, c.if-i-i_end.false, c.requires.i_low)) c.requires.i_within
    (omega (arith, c.if-j-j_end.false, c.requires.j_low)) c.requires.j_within c.if-a-b.true

pub returns-then-b-a-clause-tick : goal.returns-then-b-a-clause-tick
returns-then-b-a-clause-tick c = next_higher c.args.ticks.now c.args.i c.args.i_end c.args.j c.args.j_end _
    (omega (arith, c.if-i-i_end.false, c.requires.i_low)) c.requires.i_within
    (omega (arith, c.if-j-j_end.false, c.requires.j_low)) c.requires.j_within c.if-b-a.true

pub returns-then-a-b-2-clause-tick : goal.returns-then-a-b-2-clause-tick
returns-then-a-b-2-clause-tick c = next_both c.args.ticks.now c.args.i c.args.i_end c.args.j c.args.j_end _
    (omega (arith, c.if-i-i_end.false, c.requires.i_low)) c.requires.i_within
    (omega (arith, c.if-j-j_end.false, c.requires.j_low)) c.requires.j_within c.if-b-a.false c.if-a-b.false true
    (lt-ltb _ _ c.if-a-b-2.true)

pub returns-clause-tick : goal.returns-clause-tick
returns-clause-tick c = next_both c.args.ticks.now c.args.i c.args.i_end c.args.j c.args.j_end _
    (omega (arith, c.if-i-i_end.false, c.requires.i_low)) c.requires.i_within
    (omega (arith, c.if-j-j_end.false, c.requires.j_low)) c.requires.j_within c.if-b-a.false c.if-a-b.false false
    (le-ltb _ _ c.if-a-b-2.false)
