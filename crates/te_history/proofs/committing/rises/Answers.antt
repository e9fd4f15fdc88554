use Rattle.std.proofs.Common.{◌≡◌, ◌+◌, ◌-◌, refl, arith}
use Rattle.te_terms.proofs.Lists.{get_at}
use Rattle.te_history.proofs.Rising.{rises_more, rise_by, rise_not}
use Rattle.te_history.proofs.committing.rises.Goals as goal

pub returns-then-members-i : goal.returns-then-members-i
returns-then-members-i c =
    let low = c.loop-i.auto.i in
    let within = c.loop-i-test.true in
    let next : c.loop-i.i ≡ (c.loop-i.i - 1) + 1 = omega (arith, low) in (
      λ no. absurd cc,
      λ rise. absurd (rise_not c.args.members.now c.loop-i.i (c.loop-i.i - 1) _ _ next
          (get_at c.args.members.now (c.loop-i.i - 1) c.index-members-i-in-loop-i.result (omega (arith, low, within)))
          (get_at c.args.members.now c.loop-i.i c.index-members-i.result within) c.if-members-i.true rise),
    )

pub loop-i-preserved : goal.loop-i-preserved
loop-i-preserved c =
    let low = c.loop-i.auto.i in
    let within = c.loop-i-test.true in
    let next : c.loop-i.i ≡ (c.loop-i.i - 1) + 1 = omega (arith, low) in
    rises_more c.args.members.now c.loop-i.i (c.loop-i.i - 1) _ _ next
    (get_at c.args.members.now (c.loop-i.i - 1) c.index-members-i-in-loop-i.result (omega (arith, low, within)))
    (get_at c.args.members.now c.loop-i.i c.index-members-i.result within) c.if-members-i.false c.loop-i.invariant

pub returns : goal.returns
returns c = (λ _. rise_by c.args.members.now c.loop-i.i c.loop-i-test.false c.loop-i.invariant, λ _. refl)
