use Rattle.std.proofs.Common.{◌≡◌, take}
use Rattle.std.specs.List.{AllByRecursion}
use Rattle.te_history.specs.State.{ended}
use Rattle.te_board.specs.Boards.{state_of}
use Rattle.te_serial.proofs.rounds.all_ended.Given as goal

abbrev pub invariant-loop-t : goal.invariant-loop-t
invariant-loop-t l = AllByRecursion (λ c. c ≡ ended) (take l.t (state_of l.board).callers)
