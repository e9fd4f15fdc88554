use Rattle.std.proofs.Common.{◌≡◌, ℕ, sym, ◌∙◌, subst}
use Rattle.te_board.specs.Boards.{state_of}
use Rattle.te_runtime.specs.Rounds.{HoldsTicket}
use Rattle.te_runtime.proofs.TicketsHeld.{holds_entered}
use Rattle.te_runtime.proofs.TurnsOfSync.{looked}
use Rattle.te_runtime.proofs.runtime.TeRuntime.look_after.Goals as goal

pub begin-outlook-requires-clause-holds : goal.begin-outlook-requires-clause-holds
begin-outlook-requires-clause-holds g c =
    let e = c.wait_in-board.ensures in
    let by : c.wait_in-board.new.pass.caller ≡ c.caller-by.result = e.same.1 ∙ sym c.caller-by.ensures.caller in
    subst (λ (k : ℕ). HoldsTicket (state_of c.wait_in-board.result) k c.args.ticket) by (holds_entered c.args.ticket c.requires.whole e c.requires.holds)

pub returns : goal.returns
returns g c =
    looked c.begin-outlook.new.board c.caller-by.result c.args.ticket c.begin-outlook.result c.wait_in-board.ensures c.begin-outlook.ensures.looked c.exit.ensures
    c.caller-by.ensures.caller
