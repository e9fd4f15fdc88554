use Rattle.std.proofs.Common.{◌≤◌, ◌-◌}
use Rattle.te_search.specs.Assemblies.{AssemblyStand}
use Rattle.te_search.specs.Finals.{numbers_of}
use Rattle.te_search.proofs.Trying.{TriedTo}
use Rattle.te_search.proofs.assembly.+assemble.Given as goal

abbrev pub decreases-assemble : goal.decreases-assemble
decreases-assemble l = l.left.now

abbrev pub invariant-tries : goal.invariant-tries
invariant-tries l = (l.left ≤ l.fn.left) × TriedTo l.store.events l.store.paths l.threads (numbers_of l.finals) l.there l.joined l.thread l.f-index (l.fn.left - l.left)
    × AssemblyStand l.store.events l.store.paths l.threads l.there
