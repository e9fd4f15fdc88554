use Rattle.std.proofs.Common.{◌≤◌, sym, subst, length, arith}
use Rattle.te_report.specs.declared.ending.Ending.{Ending}
use Rattle.te_serial.specs.Finishing.{HasCause}
use Rattle.te_serial.specs.declared.fault.FinishFault.{FinishFault}
use Rattle.tevents.specs.Completing.{CompletesSo}
use Rattle.tevents.proofs.running.complete.Goals as goal
use Rattle.tevents.proofs.running.complete.Goals.{in-Ok, in-Err-Full, in-Err-Spent}

pub returns : goal.returns
returns c =
    let old = c.args.board in
    let board = c.finish.new.board in
    let after = c.finish.new.cores in
    let few : length board.entries ≤ 200000 = omega (arith, c.len-whole.ensures.fits) in
    record {
      after = after;
      continues = c.finish.ensures.continues;
      legal = c.finish.ensures.legal;
      few = few;
      ends = elim c.match-finish.branch [
        | in-Ok w ↦ subst (λ (e : Ending). CompletesSo c.args.budget old board after e) (sym w.ending-is)
            (w.in-Ok.ensures.whole, w.in-Ok.ensures.rounds)
        | in-Err-Full w ↦ subst (λ (e : Ending). CompletesSo c.args.budget old board after e) (sym w.ending-is)
            (subst (λ (f : FinishFault). HasCause board after c.args.budget f) w.in-Err-Full.field-0-is w.in-Err-Full.ensures.cause)
        | in-Err-Spent w ↦ subst (λ (e : Ending). CompletesSo c.args.budget old board after e) (sym w.ending-is)
            (subst (λ (f : FinishFault). HasCause board after c.args.budget f) w.in-Err-Spent.field-0-is w.in-Err-Spent.ensures.cause)
      ];
    }
