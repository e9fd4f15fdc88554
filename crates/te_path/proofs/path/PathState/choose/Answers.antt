use Rattle.std.proofs.Common.{subst}
use Rattle.std.specs.Prelude.{OnOk}
use Rattle.te_path.specs.Origins.{Origin}
use Rattle.te_path.specs.Spots.{IsSpot}
use Rattle.te_path.proofs.Growing.{spot_after, same_after}
use Rattle.te_path.proofs.path.PathState.choose.Goals as goal

pub invariant_of-self : goal.invariant_of-self
invariant_of-self c =
    let o : Origin = record { code = c.self.inside.code.value; regs = c.self.inside.regs; thread = c.self.inside.thread; ticket = c.self.inside.ticket } in
    spot_after c.choose.result o c.self.inside.cells c.choose.new.self c.self.inside.spot c.choose.new.spot c.choose.ensures.grows c.self.invariant
    (subst (λ code. OnOk c.choose.result (IsSpot (record o { code = code }) c.choose.new.self c.choose.new.spot)) c.deref.ensures c.choose.ensures.spot) c.choose.ensures.err

pub returns-clause-err : goal.returns-clause-err
returns-clause-err c =
    let o : Origin = record { code = c.self.inside.code.value; regs = c.self.inside.regs; thread = c.self.inside.thread; ticket = c.self.inside.ticket } in
    same_after c.choose.result o c.self.inside.cells c.choose.new.self c.self.inside.spot c.choose.new.spot c.choose.ensures.grows c.self.invariant c.args.self.now c.self.view_is c.choose.ensures.err
