use Rattle.std.proofs.Common.{arith}
use Rattle.std.proofs.lemmas.Result.{err_from_is_err_and}
use Rattle.te_io.proofs.PiecesWritten.{piece_written, prefix_written}
use Rattle.te_io.proofs.writing.write_whole.Goals as goal

pub returns-in_err-taken-clause-err : goal.returns-in_err-taken-clause-err
returns-in_err-taken-clause-err g c =
    let failed = err_from_is_err_and c.from_residual.result c.from_residual.ensures.1 in
    rw failed.1 (prefix_written c.pieces.invariant.0 c.in_err-taken.ensures.err)

pub pieces-preserved : goal.pieces-preserved
pieces-preserved g c = (
  piece_written c.in_ok-taken.taken c.pieces.invariant.0 c.in_ok-taken.ensures.bound c.in_ok-taken.ensures.ok,
  omega arith,
)
