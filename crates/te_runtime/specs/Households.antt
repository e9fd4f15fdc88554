-- A board with the cores of its callers, as threads of their own leave it. This project's own.
use Rattle.std.specs.Prelude.{ℕ, suc, ◌≤◌, Bool, false, ◌==◌, List, [], ◌∷◌, if◌then◌else◌}
use Rattle.std.specs.List.{AllByRecursion}
use Rattle.te_script.specs.Cores.{At}
use Rattle.te_history.specs.declared.entry.Entry.{Entry}
use Rattle.te_history.specs.declared.entry.Entry.TheVariants as entries
use Rattle.te_board.specs.Boards.{BoardLog}
use Rattle.te_serial.specs.Houses.{IsHouse, CommitsTightly}

-- a house is seen as its board and its cores
pub record Household : Type 0 where
  pub board : BoardLog
  pub cores : List At

abbrev pub is_withdrawal_by : ℕ → Entry → Bool
is_withdrawal_by t (entries.Withdraw by ticket) = by == t
is_withdrawal_by t _ = false

-- how often a caller has taken back its event
abbrev pub withdrawals_by : ℕ → List Entry → ℕ
withdrawals_by t [] = 0
withdrawals_by t (e ∷ es) = if is_withdrawal_by t e then suc (withdrawals_by t es) else withdrawals_by t es

-- one core a caller, each where the outcomes that its caller has taken leave it; the history is of the cores' texts;
-- each commit is tight; no caller has taken back two events
pub record IsHousehold (board : BoardLog) (cores : List At) : Type 0 where
  pub house : IsHouse board cores
  pub tight : AllByRecursion CommitsTightly board.entries
  pub once : (t : ℕ) → withdrawals_by t board.entries ≤ 1
