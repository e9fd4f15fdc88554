use Rattle.std.proofs.Common.{subst}
use Rattle.std.specs.Prelude.{OnOk}
use Rattle.te_path.specs.Origins.{Origin}
use Rattle.te_path.specs.Spots.{IsSpot}
use Rattle.te_path.proofs.Growing.{spot_after, same_after}
use Rattle.te_path.proofs.path.PathState.sent.Goals as goal

pub invariant_of-self : goal.invariant_of-self
invariant_of-self c =
    let o : Origin = record { code = c.self.inside.code.value; regs = c.self.inside.regs; thread = c.self.inside.thread; ticket = c.self.inside.ticket } in
    spot_after c.sent.result o c.self.inside.cells c.sent.new.self c.self.inside.spot c.sent.new.spot c.sent.ensures.grows c.self.invariant
    (subst (λ code. OnOk c.sent.result (IsSpot (record o { code = code }) c.sent.new.self c.sent.new.spot)) c.deref.ensures c.sent.ensures.spot) c.sent.ensures.err

pub returns-clause-err : goal.returns-clause-err
returns-clause-err c =
    let o : Origin = record { code = c.self.inside.code.value; regs = c.self.inside.regs; thread = c.self.inside.thread; ticket = c.self.inside.ticket } in
    same_after c.sent.result o c.self.inside.cells c.sent.new.self c.self.inside.spot c.sent.new.spot c.sent.ensures.grows c.self.invariant c.args.self.now c.self.view_is c.sent.ensures.err
