use Rattle.std.proofs.Common.{◌≡◌, ◌++◌, drop}
use Rattle.te_report.specs.Report.{other_members}
use Rattle.te_report.proofs.commits.put_other_members.Given as goal

-- with the members that are left it is the whole
abbrev pub invariant-loop-i : goal.invariant-loop-i
invariant-loop-i l =
    l.out.items ++ other_members l.script (drop l.i l.members) (drop l.i l.outcomes) ≡ l.fn.out.items ++ other_members l.script l.members l.outcomes
