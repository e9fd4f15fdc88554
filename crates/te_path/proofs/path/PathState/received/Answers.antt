use Rattle.std.proofs.Common.{subst}
use Rattle.std.specs.Prelude.{OnOk}
use Rattle.te_path.specs.Origins.{Origin}
use Rattle.te_path.specs.Spots.{IsSpot}
use Rattle.te_path.proofs.Growing.{spot_after, same_after}
use Rattle.te_path.proofs.path.PathState.received.Goals as goal

pub invariant_of-self : goal.invariant_of-self
invariant_of-self c =
    let o : Origin = record { code = c.self.inside.code.value; regs = c.self.inside.regs; thread = c.self.inside.thread; ticket = c.self.inside.ticket } in
    spot_after c.received.result o c.self.inside.cells c.received.new.self c.self.inside.spot c.received.new.spot c.received.ensures.grows c.self.invariant
    (subst (λ code. OnOk c.received.result (IsSpot (record o { code = code }) c.received.new.self c.received.new.spot)) c.deref.ensures c.received.ensures.spot) c.received.ensures.err

pub returns-clause-err : goal.returns-clause-err
returns-clause-err c =
    let o : Origin = record { code = c.self.inside.code.value; regs = c.self.inside.regs; thread = c.self.inside.thread; ticket = c.self.inside.ticket } in
    same_after c.received.result o c.self.inside.cells c.received.new.self c.self.inside.spot c.received.new.spot c.received.ensures.grows
    c.self.invariant c.args.self.now c.self.view_is c.received.ensures.err
