use Rattle.std.proofs.Common.{◌≡◌, take, length}
use Rattle.te_search.specs.Plantings.{IsTabled}
use Rattle.te_search.proofs.planted.PlantedThreads.cut.Given as goal

abbrev pub invariant-back : goal.invariant-back
invariant-back l = IsTabled l.self-inside.threads.items l.self-inside.table × (take l.count l.self-inside.threads.items ≡ take l.count l.initial.self-inside.threads.items)

abbrev pub decreases-back : goal.decreases-back
decreases-back l = length l.self-inside.threads.items
