use Rattle.std.proofs.Common.{◌≡◌, ◌-◌, ◌≤◌, [], true, length, map}
use Rattle.std.specs.List.{AllByRecursion}
use Rattle.te_script.specs.Texts.{statement_of, RootIsNode}
use Rattle.te_reader.specs.Reads.{read_body}
use Rattle.te_reader.specs.Behind.{behind_syncs}
use Rattle.te_reader.proofs.thread.read_inside.Given as goal

abbrev pub invariant-syncs : goal.invariant-syncs
invariant-syncs l =
    (behind_syncs (map statement_of l.syncs.items) (read_body
    (l.room - length l.syncs.items) l.channels true l.registers l.cursor.tokens) ≡ behind_syncs []
    (read_body (l.room - 0) l.channels true l.initial.registers l.initial.cursor.tokens))
    × (l.cursor.whole ≡ l.initial.cursor.whole)
    × (length l.registers ≤ 8)
    × AllByRecursion RootIsNode l.syncs.items

abbrev pub decreases-syncs : goal.decreases-syncs
decreases-syncs l = l.room - length l.syncs.items
