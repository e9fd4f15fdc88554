-- Why `finish` stops before every caller has ended. This project's own.
use Rattle.std.specs.Prelude.{◌≡◌, ℕ, List, length, Some, slice_get}
use Rattle.te_terms.specs.Terms.{Term}
use Rattle.te_script.specs.Scripts.{Thread}
use Rattle.te_script.specs.Wishes.{syncs, wish}
use Rattle.te_script.specs.Cores.{At}
use Rattle.te_history.specs.State.{idle, parked_list}
use Rattle.te_history.specs.Follows.{Stands}
use Rattle.te_report.specs.OfScript.{taken}
use Rattle.te_board.specs.Boards.{BoardLog, state_of}
use Rattle.te_board.specs.Denials.{IsFull}
use Rattle.te_search.specs.Findings.{IsUsedUp}
use Rattle.te_serial.specs.declared.fault.FinishFault.{FinishFault}
use Rattle.te_serial.specs.declared.fault.FinishFault.TheVariants as faults
use Rattle.te_serial.specs.Houses.{texts_of}

-- an idle caller wishes to synchronise, and there is no room for its post and all that it may then need
pub record LacksRoom (board : BoardLog) (texts : List Thread) : Type 0 where
  pub by : ℕ
  pub text : Thread
  pub event : Term
  pub stands : Stands (state_of board) by idle
  pub has_text : slice_get texts by ≡ Some text
  pub wishes : wish text (taken by board.entries) ≡ syncs event
  pub full : IsFull board

-- the search of the list that is parked now has used up its budget, or a post has no room; want of memory has no cause
abbrev pub HasCause : BoardLog → List At → ℕ → FinishFault → Type 0
HasCause board cores budget (faults.Spent front paths groups) =
    (front ≡ length board.entries) × IsUsedUp (parked_list (state_of board)) budget paths groups
HasCause board cores budget faults.Full = LacksRoom board (texts_of cores)
HasCause board cores budget faults.Memory = Unit {0}
