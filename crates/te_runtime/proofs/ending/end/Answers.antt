use Rattle.std.proofs.Common.{◌≡◌, true, sym, ◌∙◌}
use Rattle.te_history.specs.declared.status.How.TheVariants as ways
use Rattle.te_history.proofs.Lasting.{stuck_exactly}
use Rattle.te_board.specs.Boards.{state_of}
use Rattle.te_board.specs.Denials.{DeniesEnd}
use Rattle.te_board.specs.declared.fault.BoardFault.TheVariants as board
use Rattle.te_runtime.proofs.EndsRefused.{end_not_idle}
use Rattle.te_runtime.proofs.ending.end.Goals as goal
use Rattle.te_runtime.proofs.ending.end.Goals.{else-is_stuck-via-then-is_stuck+else-not-is_as_stuck, else-is_stuck-via-else-is_stuck}

pub end-requires-clause-how : goal.end-requires-clause-how
end-requires-clause-how c = (
  λ stuck. elim c.else-is_stuck.branch [
    | else-is_stuck-via-then-is_stuck+else-not-is_as_stuck w ↦ w.is_as_stuck.ensures.0 w.if-not-is_as_stuck.false
    | else-is_stuck-via-else-is_stuck w ↦ let value = c.is_stuck.ensures.value in let no = w.if-is_stuck.false in absurd cc
  ],
  λ is. (stuck_exactly c.args.board.now.callers c.args.board.now.entries).1 (c.requires.how is),
)

pub returns-in-Err-NotIdle-clause-cause : goal.returns-in-Err-NotIdle-clause-cause
returns-in-Err-NotIdle-clause-cause c =
    let denies : DeniesEnd c.args.board.now c.args.by (board.NotIdle c.in-Err-NotIdle.status) = rw c.in-Err-NotIdle.field-0-is at c.in-Err-NotIdle.ensures.cause in
    end_not_idle c.args.board.now c.args.by c.args.how c.in-Err-NotIdle.status c.requires.how denies
