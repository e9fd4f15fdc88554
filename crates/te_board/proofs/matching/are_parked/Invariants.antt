use Rattle.te_history.specs.Histories.{now}
use Rattle.te_board.proofs.ParkedLists.{Agrees}
use Rattle.te_board.proofs.matching.are_parked.Given as goal

abbrev pub invariant-loop-thread : goal.invariant-loop-thread
invariant-loop-thread l = Agrees l.next l.thread l.parked (now l.hist)
