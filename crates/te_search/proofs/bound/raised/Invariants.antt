use Rattle.std.proofs.Common.{◌≡◌, ◌*◌, ◌^◌, min}
use Rattle.te_search.proofs.bound.raised.Given as goal

abbrev pub invariant-times : goal.invariant-times
invariant-times l = l.product ≡ min (l.number * l.factor ^ l.counter) 1000001
