use Rattle.std.proofs.Common.{ap, ◌∙◌}
use Rattle.te_board.proofs.Reserving.{reserved_first}
use Rattle.te_board.proofs.board.Board.new.Goals as goal

pub invariant_of-result : goal.invariant_of-result
invariant_of-result c =
    let r = c.reserve.ensures in
    let made = c.in_ok-hist.ensures in
    reserved_first c.reserve.new.self c.args.callers (r.callers ∙ ap (λ h. h.callers) made) c.requires.few (r.entries ∙ ap (λ h. h.entries) made)
    c.in_ok-reserve.ensures.ok
