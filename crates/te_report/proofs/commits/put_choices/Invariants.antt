use Rattle.std.proofs.Common.{◌≡◌, ◌++◌, take}
use Rattle.std.specs.List.{flat_map}
use Rattle.te_report.specs.Report.{letter}
use Rattle.te_report.proofs.commits.put_choices.Given as goal

-- the letters so far
abbrev pub invariant-loop-left : goal.invariant-loop-left
invariant-loop-left l = l.out.items ≡ l.fn.out.items ++ flat_map letter (take l.left-index l.choices)
