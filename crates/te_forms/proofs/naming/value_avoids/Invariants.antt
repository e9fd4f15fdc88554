use Rattle.std.proofs.Common.{take}
use Rattle.std.specs.List.{AllByRecursion}
use Rattle.te_forms.specs.Privacy.{AtomAvoids}
use Rattle.te_forms.proofs.naming.value_avoids.Given as goal

abbrev pub invariant-loop-d : goal.invariant-loop-d
invariant-loop-d l = AllByRecursion (AtomAvoids l.ring) (take l.d l.value)
