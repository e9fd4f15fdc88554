use Rattle.std.proofs.Common.{◌∙◌, ap, refl, length}
use Rattle.te_board.specs.declared.fault.BoardFault.TheVariants as faults
use Rattle.te_board.specs.Boards.{BoardLog}
use Rattle.te_board.specs.Denials.{DeniesCommit}
use Rattle.te_history.proofs.Lasting.{stuck_exactly}
use Rattle.te_runtime.proofs.Calling.{stays}
use Rattle.te_runtime.proofs.DriveAnswers.{commit_moved}
use Rattle.te_runtime.proofs.driving.commit.Goals as goal

pub returns-in-Closed-clause-cause : goal.returns-in-Closed-clause-cause
returns-in-Closed-clause-cause c =
    let b = c.args.board.now in
    let cause : DeniesCommit b c.args.cert faults.Closed = rw c.in-Closed.is at c.in-Err.ensures.cause in
    (stuck_exactly b.callers b.entries).0 cause

pub returns-in_default : goal.returns-in_default
returns-in_default c =
    let b = c.args.board.now in
    let same = c.in-Err.ensures.same in
    record {
      ok = record {
        same = same;
        from_is = refl;
        front_is = c.len-in_default.ensures.value ∙ ap (λ (x : BoardLog). length x.entries) same;
        differ = commit_moved b c.args.cert c.args.snapshot.now.parked c.in-Err.fault c.requires.group c.in_default.not-Closed c.in_default.not-Memory
            c.in-Err.ensures.cause;
      };
      same = tt;
      goes_on = stays c.args.by same;
      cause = tt;
    }
