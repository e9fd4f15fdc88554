-- How the value of a board is stored. No contract cites this module.
use Rattle.std.specs.Prelude.{ℕ, List, refl}
use Rattle.std.specs.Coded.{Coded, code_by, coded×, coded_ℕ, coded_list}
use Rattle.te_history.specs.declared.entry.Entry.{Entry}
use Rattle.te_history.specs.contracts.entry.Entry as entry
use Rattle.te_board.specs.Boards.{BoardLog}

abbrev pub board_code : Coded BoardLog
board_code =
    code_by (ℕ × List Entry) (coded× coded_ℕ (coded_list entry.the_row.coded)) (λ b. (b.callers, b.entries))
    (λ p. record { callers = p.0; entries = p.1 }) (λ b. refl)
