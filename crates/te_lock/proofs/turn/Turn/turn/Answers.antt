use Rattle.std.proofs.Common.{All, subst}
use mathlib.Core.List.{IsPrefix}
use Rattle.te_lock.proofs.turn.Turn.turn.Goals as goal

pub returns-in-Ok-clause-begins_known : goal.returns-in-Ok-clause-begins_known
returns-in-Ok-clause-begins_known g c = subst (λ known. All (λ l. IsPrefix l c.try_turn.new.pass.read) known) c.loop.invariant.known c.in-Ok.ensures.begins_known
