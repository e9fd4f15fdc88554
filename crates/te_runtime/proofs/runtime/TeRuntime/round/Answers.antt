use Rattle.std.proofs.Common.{[]}
use Rattle.te_runtime.proofs.TicketsHeld.{holds_called}
use Rattle.te_runtime.proofs.RoundsOfSync.{answered_at_once}
use Rattle.te_runtime.proofs.runtime.TeRuntime.round.Goals as goal

pub returns-in-Over : goal.returns-in-Over
returns-in-Over g c =
    answered_at_once c.args.budget c.args.ticket c.args.pass.now c.look_after.new.pass c.in-Over.answer c.in-Over.ensures
    (λ call. holds_called c.args.ticket [] c.requires.whole call tt c.requires.holds)
