use Rattle.std.proofs.Common.{◌∙◌, ap, [], ℕ}
use Rattle.te_serial.proofs.FirstHouse.{first_house}
use Rattle.te_tests_histories.proofs.serial.house.Goals as goal

pub returns : goal.returns
returns c = first_house c.in_ok-board.board c.in_ok-cores.cores (c.in_ok-board.ensures ∙ ap (λ (n : ℕ). record { callers = n; entries = [] }) c.len-callers.ensures) c.in_ok-cores.ensures
