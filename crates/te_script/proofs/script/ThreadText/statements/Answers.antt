use Rattle.std.proofs.Common.{subst, sym, map}
use Rattle.te_script.specs.Cores.{HasBodies}
use Rattle.te_script.specs.Texts.{statement_of}
use Rattle.te_script.proofs.EmitsCounted.{thread_bodies}
use Rattle.te_script.proofs.script.ThreadText.statements.Goals as goal

pub returns-clause-bodies : goal.returns-clause-bodies
returns-clause-bodies c = subst (λ ss. HasBodies (map statement_of ss)) (sym c.as_slice.ensures) (thread_bodies 256 _ c.self.invariant.thread)
