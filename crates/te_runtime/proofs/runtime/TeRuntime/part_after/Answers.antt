use Rattle.std.proofs.Common.{◌≡◌, ℕ, sym, ◌∙◌, subst}
use Rattle.te_board.specs.Boards.{state_of}
use Rattle.te_runtime.specs.Rounds.{HoldsTicket}
use Rattle.te_runtime.proofs.TicketsHeld.{holds_entered}
use Rattle.te_runtime.proofs.TurnsOfSync.{parted}
use Rattle.te_runtime.proofs.runtime.TeRuntime.part_after.Goals as goal

pub part-answer-requires-clause-holds : goal.part-answer-requires-clause-holds
part-answer-requires-clause-holds g c =
    let e = c.wait_in-board.ensures in
    let by : c.wait_in-board.new.pass.caller ≡ c.caller-by.result = e.same.1 ∙ sym c.caller-by.ensures.caller in
    subst (λ (k : ℕ). HoldsTicket (state_of c.wait_in-board.result) k c.args.ticket) by (holds_entered c.args.ticket c.requires.whole e c.requires.holds)

pub returns : goal.returns
returns g c =
    parted c.part-answer.new.board c.caller-by.result c.args.ticket c.args.reason c.part-answer.result c.wait_in-board.ensures c.part-answer.ensures.parted
    c.exit.ensures c.caller-by.ensures.caller
