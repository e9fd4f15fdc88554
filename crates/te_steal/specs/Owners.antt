-- What is seen of the owner and of a thief, by what they know. No public clause cites this module.
use Rattle.std.specs.Prelude.{◌≡◌, ◌≤◌, ℕ, true, false, [], length}
use Rattle.std.specs.Global.{Global}
use Rattle.crossbeam_deque.specs.declared.handles.Worker.{Worker}
use Rattle.crossbeam_deque.specs.declared.handles.Stealer.{Stealer}
use Rattle.crossbeam_deque.specs.Handles.{Pass, view, IsPassOf, worker_deque, worker_view, worker_flavor, worker_index, worker_capacity, stealer_deque, stealer_flavor}
use Rattle.te_steal.specs.declared.rule.Account.{Account}
use Rattle.te_steal.specs.declared.rule.Sharing.{Sharing}
use Rattle.te_steal.specs.Relays.{IsInOrderOf, OwnerOf, ThiefOf}
use Rattle.te_steal.specs.Accounts.{thief_with}

abbrev pub owner_of : Worker ℕ Global Account Sharing → ℕ → OwnerOf
owner_of w most = record {
  relay = (worker_deque w).0;
  heap = (worker_deque w).1;
  most = most;
  thieves = (worker_view w).thieves;
  pushed = (worker_view w).pushed;
  took = (worker_view w).took;
}

abbrev pub thief_of : Stealer ℕ Global Account Sharing → Pass ℕ Account Global → ThiefOf
thief_of s p = record { relay = (stealer_deque s).0; heap = (stealer_deque s).1; took = (view p).took }

-- the worker has room for all that may be pushed, and knows of no thief what it took
pub record IsOwnerAt (w : Worker ℕ Global Account Sharing) (most pushed : ℕ) : Type 0 where
  pub fifo : worker_flavor w ≡ 0
  pub index : worker_index w ≤ pushed
  pub room : most ≤ worker_capacity w
  pub count : pushed ≡ length (worker_view w).pushed
  pub most_pushed : pushed ≤ most
  pub few : most ≤ 64
  pub owns : (worker_view w).owns ≡ true
  pub steals : (worker_view w).steals ≡ false
  pub absorbed : (worker_view w).absorbed ≡ []
  pub order : IsInOrderOf (worker_view w).took (worker_view w).pushed

pub record IsThiefAt (s : Stealer ℕ Global Account Sharing) (p : Pass ℕ Account Global) : Type 0 where
  pub of_deque : IsPassOf (stealer_deque s) p
  pub fifo : stealer_flavor s ≡ 0
  pub steals : view p ≡ thief_with (view p).took
