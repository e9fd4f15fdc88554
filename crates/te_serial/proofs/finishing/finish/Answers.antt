use Rattle.std.proofs.Common.{◌≡◌, ℕ, List, Result, Err, IfErr, arith, subst}
use Rattle.te_script.specs.Cores.{At}
use Rattle.te_history.specs.State.{parked_list}
use Rattle.te_board.specs.Boards.{BoardLog, state_of}
use Rattle.te_search.specs.Findings.{IsUsedUp}
use Rattle.te_serial.specs.declared.fault.FinishFault.{FinishFault}
use Rattle.te_serial.specs.declared.fault.FinishFault.TheVariants as faults
use Rattle.te_serial.specs.Finishing.{HasCause}
use Rattle.te_serial.proofs.finishing.finish.Goals as goal

-- a search has used up its budget
used_up : {A : Type 0} (result : Result A FinishFault) (board : BoardLog) (cores : List At)
    (budget front paths groups : ℕ) → IfErr result (λ fault. HasCause board cores budget fault)
    → result ≡ Err (faults.Spent front paths groups) → IsUsedUp (parked_list (state_of board)) budget paths groups
used_up result board cores budget front paths groups cause is = (subst (λ r. IfErr r (λ fault. HasCause board cores budget fault)) is cause).1

pub returns-clause-enough : goal.returns-clause-enough
returns-clause-enough c h front paths groups e =
    omega (
      arith,
      h,
      (used_up c.finish_cores-finished.result c.finish_cores-finished.new.board c.finish_cores-finished.new.cores.items c.args.budget front paths groups
          c.finish_cores-finished.ensures.cause e).short,
    )
