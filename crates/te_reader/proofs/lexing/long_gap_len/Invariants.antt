use Rattle.te_reader.specs.Lexed.{between_place}
use Rattle.te_reader.proofs.TokenSteps.{StillSame}
use Rattle.te_reader.proofs.lexing.long_gap_len.Given as goal

abbrev pub invariant-loop-i : goal.invariant-loop-i
invariant-loop-i l = StillSame (between_place l.in_comment) l.i l.text
