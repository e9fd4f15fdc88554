use Rattle.std.proofs.Common.{◌≡◌, take, ltb}
use Rattle.std.specs.List.{filter}
use Rattle.te_search.proofs.batched.lower.Given as goal

abbrev pub invariant-found : goal.invariant-found
invariant-found l = l.lower ≡ filter (λ q. ltb q l.p) (take l.i l.found)
