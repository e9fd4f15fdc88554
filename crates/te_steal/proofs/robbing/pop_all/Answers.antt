use Rattle.std.proofs.Common.{[], ◌∷◌, length, ap, sym, ◌∙◌, subst, arith, length-append}
use Rattle.te_steal.specs.Stolen.{AreLooksAt}
use Rattle.te_steal.proofs.OrderKept.{no_longer}
use Rattle.te_steal.proofs.SameParties.{owner_on}
use Rattle.te_steal.proofs.robbing.pop_all.Goals as goal

pub pops-smaller : goal.pops-smaller
pops-smaller c =
    let told = c.in-Some.ensures in
    let took = ap length told.took ∙ length-append c.pops.owner.took (c.in-Some.place ∷ []) in
    let pushed = ap length told.pushed in
    let within = no_longer c.pop.new.self.took c.pop.new.self.pushed told.order in
    omega (arith, took, pushed, within)

pub pops-preserved : goal.pops-preserved
pops-preserved c =
    let is = c.pops.invariant in
    let told = c.in-Some.ensures in (
      owner_on _ _ _ is.0 told.same,
      told.pushed ∙ is.1,
      c.look_into.ensures.count ∙ is.2,
      subst (λ took. AreLooksAt c.args.search.now c.args.batch.now took c.look_into.new.looks c.look_into.new.whole) (sym told.took)
          (c.look_into.ensures.looks c.pops.owner.took is.3),
    )
