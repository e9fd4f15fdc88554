use Rattle.std.proofs.Common.{◌≡◌}
use Rattle.te_path.specs.Chains.{frames_at}
use Rattle.te_path.specs.Unwinding.{unwound}
use Rattle.te_path.proofs.frames.FrameCells.unwind.Given as goal

abbrev pub invariant-loop-link : goal.invariant-loop-link
invariant-loop-link l = record {
  as_far : unwound l.outcome (frames_at l.self l.link) ≡ unwound l.outcome (frames_at l.self l.top);
}

abbrev pub decreases-loop-link : goal.decreases-loop-link
decreases-loop-link l = l.link
