use Rattle.std.proofs.Common.{◌≡◌, map, take, []}
use Rattle.te_script.specs.Cores.{core_after}
use Rattle.tevents.proofs.running.cores_of.Given as goal

-- the cores of the threads so far
abbrev pub invariant-loop-text : goal.invariant-loop-text
invariant-loop-text l = l.cores ≡ map (λ a. core_after a.value []) (take l.text-index l.text-items)
