use Rattle.te_forms.proofs.NamesTold.{FitBefore}
use Rattle.te_forms.proofs.privacy.is_private.Given as goal

abbrev pub invariant-loop-i : goal.invariant-loop-i
invariant-loop-i l = FitBefore l.ring l.hist.entries l.i
