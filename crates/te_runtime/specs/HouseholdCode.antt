-- How the value of a house is stored. No contract cites this module.
use Rattle.std.specs.Prelude.{List, refl}
use Rattle.std.specs.Coded.{Coded, code_by, coded×, coded_list}
use Rattle.te_script.specs.Cores.{At}
use Rattle.te_script.specs.Stored.{coded_at}
use Rattle.te_board.specs.Boards.{BoardLog}
use Rattle.te_board.specs.BoardCode.{board_code}
use Rattle.te_runtime.specs.Households.{Household}

abbrev pub household_code : Coded Household
household_code =
    code_by (BoardLog × List At) (coded× board_code (coded_list coded_at)) (λ h. (h.board, h.cores))
    (λ p. record { board = p.0; cores = p.1 }) (λ h. refl)
