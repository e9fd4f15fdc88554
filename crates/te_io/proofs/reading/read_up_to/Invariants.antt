use Rattle.std.proofs.Common.{◌+◌, ◌-◌, ◌≤◌, vec_len}
use Rattle.te_io.proofs.PiecesRead.{IsRead}
use Rattle.te_io.proofs.reading.read_up_to.Given as goal

-- what was read so far, and that the count of faults didn't fall
abbrev pub invariant-pieces : goal.invariant-pieces
invariant-pieces g l =
    IsRead (g.S.Source.bytes_left l.fn.source) (g.S.Source.bytes_left l.source) l.bytes.items l.most
    × (g.S.Source.faults l.fn.source ≤ g.S.Source.faults l.source)

abbrev pub decreases-pieces : goal.decreases-pieces
decreases-pieces g l = l.most + 1 - vec_len l.bytes
