use Rattle.std.proofs.Common.{take}
use Rattle.std.specs.List.{Contains}
use Rattle.te_pair.specs.Ends.{paths_kept}
use Rattle.te_pair.proofs.waiting.Waiting.keeps.Given as goal

abbrev pub invariant-kept : goal.invariant-kept
invariant-kept l = ¬ Contains (paths_kept (take l.i l.self)) l.p
