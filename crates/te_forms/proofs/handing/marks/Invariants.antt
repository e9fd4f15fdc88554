use Rattle.std.proofs.Common.{◌≡◌, take}
use Rattle.te_forms.specs.Reading.{marks_of}
use Rattle.te_forms.proofs.handing.marks.Given as goal

abbrev pub invariant-loop-i : goal.invariant-loop-i
invariant-loop-i l = l.marks.items ≡ marks_of l.ring (take l.n l.hist.entries) (take l.i l.members)
