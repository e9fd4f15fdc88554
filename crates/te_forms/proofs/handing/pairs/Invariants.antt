use Rattle.std.proofs.Common.{◌≡◌, take, filter_map}
use Rattle.te_forms.specs.Reading.{pair_in}
use Rattle.te_forms.proofs.handing.pairs.Given as goal

abbrev pub invariant-loop-i : goal.invariant-loop-i
invariant-loop-i l = l.pairs ≡ filter_map (pair_in l.members l.marks) (take l.i l.meetings)
