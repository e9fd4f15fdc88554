use Rattle.std.proofs.Common.{◌≡◌, ◌-◌, map, take, length}
use Rattle.te_terms.specs.Codes.{calculation_of}
use Rattle.te_reader.specs.ExpressionReads.{read_calculations}
use Rattle.te_reader.specs.Behind.{behind}
use Rattle.te_reader.proofs.expression.read_calculations.Given as goal

abbrev pub invariant-loop-i : goal.invariant-loop-i
invariant-loop-i l =
    (behind (map calculation_of (take l.i l.list)) (read_calculations (4 - l.i) l.names l.cursor.tokens) ≡ read_calculations 4 l.fn.names l.initial.cursor.tokens)
    × (l.cursor.whole ≡ l.initial.cursor.whole)
    × (length l.list ≡ 4)
