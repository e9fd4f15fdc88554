-- What is left where serial rounds go on from a house. No clause of a public call cites this module.
use Rattle.std.specs.Prelude.{◌≡◌, ◌≤◌, ℕ, List, [], length}
use Rattle.te_script.specs.Cores.{At}
use Rattle.te_history.specs.Follows.{IsLegal}
use Rattle.te_board.specs.Boards.{BoardLog}
use Rattle.te_report.specs.Whole.{IsWhole}
use Rattle.te_report.specs.declared.ending.Ending.{Ending}
use Rattle.te_report.specs.declared.ending.Ending.TheVariants as endings
use Rattle.te_serial.specs.declared.fault.FinishFault.TheVariants as faults
use Rattle.te_serial.specs.Houses.{Continues}
use Rattle.te_serial.specs.Finishing.{HasCause}
use Rattle.te_serial.specs.Rounds.{IsInRounds}

-- every caller has ended, in rounds where nothing was done before; or the fault of this ending has its cause
abbrev pub CompletesSo : ℕ → BoardLog → BoardLog → List At → Ending → Type 0
CompletesSo budget old new after endings.Closed = IsWhole new.callers new.entries × (old.entries ≡ [] → IsInRounds new.callers new.entries)
CompletesSo budget old new after endings.Full = HasCause new after budget faults.Full
CompletesSo budget old new after (endings.Spent front paths groups) = HasCause new after budget (faults.Spent front paths groups)

-- the board goes on from the house's, and this is how it ends
pub record IsCompleted (budget : ℕ) (old : BoardLog) (cores : List At) (new : BoardLog) (ending : Ending) : Type 0 where
  pub after : List At
  pub continues : Continues old cores new after
  pub legal : IsLegal new.callers new.entries
  pub few : length new.entries ≤ 200000
  pub ends : CompletesSo budget old new after ending
