use Rattle.te_forms.proofs.RingsMade.{SoFar}
use Rattle.te_forms.proofs.ring.Ring.of.Given as goal

abbrev pub invariant-loop-i : goal.invariant-loop-i
invariant-loop-i l = SoFar l.channels l.kept l.i
