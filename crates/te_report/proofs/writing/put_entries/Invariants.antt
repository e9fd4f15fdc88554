use Rattle.std.proofs.Common.{◌≡◌, ◌++◌, [], take}
use Rattle.te_report.specs.Report.{second, entry_lines}
use Rattle.te_report.specs.Following.{cores_from}
use Rattle.te_report.proofs.writing.put_entries.Given as goal

-- the cores follow the entries so far, whose lines are written
abbrev pub invariant-loop-at : goal.invariant-loop-at
invariant-loop-at l =
    (l.cores.items ≡ cores_from (take l.at l.hist.entries) 0 l.script.threads)
    × (l.out.items ≡ l.fn.out.items ++ entry_lines second l.script [] (take l.at l.hist.entries))
