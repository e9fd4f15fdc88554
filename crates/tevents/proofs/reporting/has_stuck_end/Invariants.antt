use Rattle.tevents.proofs.StuckEnds.{NoneBefore}
use Rattle.tevents.proofs.reporting.has_stuck_end.Given as goal

-- none so far
abbrev pub invariant-loop-at : goal.invariant-loop-at
invariant-loop-at l = NoneBefore l.hist.entries l.at
