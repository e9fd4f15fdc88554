use Rattle.std.proofs.Common.{arith, rules, refl, ap, ◌++◌, ◌∷◌, [], ◌∙◌, ◌≡◌, sym}
use Rattle.te_trail.specs.Ticks.{marked}
use Rattle.te_trail.proofs.TicksMerge.{raising_step}
use Rattle.te_trail.proofs.ticks.raise.Goals as goal

pub copy-preserved : goal.copy-preserved
copy-preserved c = raising_step _ c.copy.ticks.items _ _ _ _ c.index-tick.result.now _ _ c.requires c.copy-test.true
    c.copy.invariant (c.push_reserved.ensures.items ∙ ap (λ k. c.copy.ticks.items ++ (k ∷ []))
    (c.mark.ensures ∙ ap (marked c.args.own c.args.own) c.index-tick.ensures)) c.push_reserved.ensures.capacity
