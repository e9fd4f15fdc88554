use Rattle.std.proofs.Common.{◌≡◌, ◌≤◌, true, false, length, sym, ◌∙◌, arith}
use Rattle.tevents.proofs.StuckEnds.{none_next, none_at_all}
use Rattle.tevents.proofs.reporting.has_stuck_end.Goals as goal

pub loop-at-preserved : goal.loop-at-preserved
loop-at-preserved c =
    none_next c.args.hist.now.entries c.loop-at.at c.loop-at.invariant
    (λ at. let both : true ≡ false = sym (c.is_stuck_at.ensures.1 at) ∙ c.if-is_stuck_at.false in cc)

pub returns : goal.returns
returns c =
    let past : length c.args.hist.now.entries ≤ c.loop-at.at = let ends = c.loop-at-test.false in omega (arith, c.len-at-end.ensures.value) in
    (λ yes. absurd cc, λ any. absurd (none_at_all c.args.hist.now.entries c.loop-at.at past c.loop-at.invariant any))
