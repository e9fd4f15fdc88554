use Rattle.std.proofs.Common.{◌≤◌, length}
use Rattle.te_io.proofs.PiecesWritten.{IsWritten}
use Rattle.te_io.proofs.writing.write_whole.Given as goal

-- what was written so far, and that the count of faults didn't fall
abbrev pub invariant-pieces : goal.invariant-pieces
invariant-pieces g l =
    IsWritten (g.K.Sink.bytes_held l.fn.sink) (g.K.Sink.bytes_held l.sink) l.fn.bytes l.rest
    × (g.K.Sink.faults l.fn.sink ≤ g.K.Sink.faults l.sink)

abbrev pub decreases-pieces : goal.decreases-pieces
decreases-pieces g l = length l.rest
