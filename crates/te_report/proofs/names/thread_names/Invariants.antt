use Rattle.std.proofs.Common.{◌≡◌, map, take}
use Rattle.te_report.proofs.names.thread_names.Given as goal

-- a name for each thread so far
abbrev pub invariant-loop-text : goal.invariant-loop-text
invariant-loop-text l = l.names ≡ map (λ a. a.value.name) (take l.text-index l.text-items)
