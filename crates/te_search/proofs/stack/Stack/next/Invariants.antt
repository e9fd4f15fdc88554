use Rattle.te_search.specs.Stacks.{IsBest}
use Rattle.te_search.proofs.stack.Stack.next.Given as goal

abbrev pub invariant-places : goal.invariant-places
invariant-places l = IsBest l.self.threads l.self.parked l.i l.best
