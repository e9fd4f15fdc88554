use Rattle.std.proofs.Common.{◌≡◌, ◌++◌, take}
use Rattle.std.specs.List.{flat_map}
use Rattle.te_report.specs.Report.{spaced_value}
use Rattle.te_report.proofs.entries.put_emitted.Given as goal

-- the values so far
abbrev pub invariant-loop-value : goal.invariant-loop-value
invariant-loop-value l = l.out.items ≡ l.fn.out.items ++ flat_map (spaced_value l.script) (take l.value-index l.values)
