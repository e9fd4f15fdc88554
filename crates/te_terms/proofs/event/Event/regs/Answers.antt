use Rattle.std.proofs.Common.{sym}
use Rattle.te_terms.specs.Made.{IsMadeOf}
use Rattle.te_terms.proofs.event.Event.regs.Goals as goal

pub returns : goal.returns
returns c =
    let made : IsMadeOf c.self.inside.code.value c.self.inside.root c.self.inside.regs c.args.self.now = record { within = c.self.invariant; term_is = sym c.self.view_is } in
    (c.self.inside.code.value, (c.self.inside.root, made))
