use Rattle.std.proofs.Common.{sym, ◌∙◌, subst}
use Rattle.te_steal.specs.Stolen.{AreLooksAt}
use Rattle.te_steal.proofs.SameParties.{thief_on}
use Rattle.te_steal.proofs.robbing.steal_some.Goals as goal

pub steals-preserved : goal.steals-preserved
steals-preserved c =
    let is = c.steals.invariant in
    let told = c.in-Some.ensures in (
      thief_on _ _ _ is.0 told.same,
      c.look_into.ensures.count ∙ is.1,
      subst (λ took. AreLooksAt c.args.search.now c.args.batch.now took c.look_into.new.looks c.look_into.new.whole) (sym told.took)
          (c.look_into.ensures.looks c.steals.thief.took is.2),
    )

pub steals-preserved-in-None : goal.steals-preserved-in-None
steals-preserved-in-None c =
    let is = c.steals.invariant in
    let told = c.in-None.ensures in (
      thief_on _ _ _ is.0 told.same,
      is.1,
      subst (λ took. AreLooksAt c.args.search.now c.args.batch.now took c.steals.looks c.steals.whole) (sym told.took) is.2,
    )
