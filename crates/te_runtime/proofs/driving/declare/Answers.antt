use Rattle.std.proofs.Common.{◌≡◌, ◌∙◌, ap, subst, List, length}
use Rattle.te_terms.specs.declared.event.Parked.{Parked}
use Rattle.te_terms.specs.Joint.{CanCommit}
use Rattle.te_history.specs.State.{parked_list}
use Rattle.te_history.proofs.Lasting.{stuck_exactly}
use Rattle.te_board.specs.declared.fault.BoardFault.TheVariants as faults
use Rattle.te_board.specs.Boards.{BoardLog, state_of}
use Rattle.te_board.specs.Denials.{DeniesStuck}
use Rattle.te_runtime.proofs.Calling.{stays}
use Rattle.te_runtime.proofs.DriveAnswers.{may_not_declare}
use Rattle.te_runtime.proofs.driving.declare.Goals as goal

pub returns-in-Closed-clause-cause : goal.returns-in-Closed-clause-cause
returns-in-Closed-clause-cause c =
    let b = c.args.board.now in
    let cause : DeniesStuck b c.args.by c.args.snapshot.now.parked faults.Closed = rw c.in-Closed.is at c.in-Err.ensures.cause in
    (stuck_exactly b.callers b.entries).0 cause

pub returns-then-branch : goal.returns-then-branch
returns-then-branch c =
    let b = c.args.board.now in
    let searched = c.args.snapshot.now.parked in
    let same = c.in-Err.ensures.same in
    let told : searched ≡ parked_list (state_of c.declare_stuck.new.self) = rw c.if-branch.true at c.in_ok-is_unmoved-in_default.ensures.ok in
    let unmoved : searched ≡ parked_list (state_of b) = told ∙ ap (λ (x : BoardLog). parked_list (state_of x)) same in
    record {
      ok = record {
        same = same;
        front_is = c.len-front.ensures.value ∙ ap (λ (x : BoardLog). length x.entries) same;
        cannot = subst (λ (l : List Parked). ¬ CanCommit l) unmoved c.requires.cannot;
        may_not = may_not_declare b c.args.by searched c.in-Err.fault c.in_default.not-Closed c.in_default.not-Moved c.in-Err.ensures.cause;
      };
      same = tt;
      goes_on = stays c.args.by same;
      cause = tt;
    }
