use Rattle.std.proofs.Common.{◌≡◌, ◌++◌, drop}
use Rattle.te_report.specs.Report.{other_atoms}
use Rattle.te_report.proofs.values.put_other_atoms.Given as goal

-- with the atoms that are left it is the whole
abbrev pub invariant-loop-d : goal.invariant-loop-d
invariant-loop-d l = l.out.items ++ other_atoms l.script (drop l.d l.value) ≡ l.fn.out.items ++ other_atoms l.script (drop 1 l.value)
