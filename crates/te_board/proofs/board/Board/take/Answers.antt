use Rattle.std.proofs.Common.{sym, subst}
use Rattle.te_history.specs.declared.entry.Entry.{Entry}
use Rattle.te_history.specs.Follows.{Follows}
use Rattle.te_board.proofs.TakesFollow.{take_follows}
use Rattle.te_board.proofs.board.Board.take.Goals as goal

pub add-requires-clause-follows : goal.add-requires-clause-follows
add-requires-clause-follows c =
    let h = c.self.inside.hist in
    subst (λ (e : Entry). Follows h.callers h.entries e) (sym c.take_of-entry.ensures)
    (take_follows h.callers h.entries c.args.by c.in-Given.ticket c.in-Given.outcome c.self.invariant.legal c.in-Given.ensures)
