use Rattle.std.proofs.Common.{◌≡◌, ◌-◌, [], length}
use Rattle.te_reader.specs.Reads.{read_names}
use Rattle.te_reader.proofs.script.read_names.Given as goal

abbrev pub invariant-names : goal.invariant-names
invariant-names l = (read_names (256 - length l.channels) l.channels l.cursor.tokens ≡ read_names 256 [] l.initial.cursor.tokens) × (l.cursor.whole ≡ l.initial.cursor.whole)

abbrev pub decreases-names : goal.decreases-names
decreases-names l = 256 - length l.channels
