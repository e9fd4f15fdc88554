-- What a board says of a refused end is what the caller is told.
use Rattle.std.proofs.Common.{◌≡◌, ℕ, true, refl, sym, subst}
use Rattle.te_history.specs.declared.status.How.{How}
use Rattle.te_history.specs.declared.status.How.TheVariants as ways
use Rattle.te_history.specs.declared.status.Status.{Status}
use Rattle.te_history.proofs.Lasting.{stuck_exactly}
use Rattle.te_board.specs.Boards.{BoardLog, state_of}
use Rattle.te_board.specs.Denials.{DeniesEnd}
use Rattle.te_board.specs.declared.fault.BoardFault.TheVariants as board
use Rattle.te_runtime.specs.declared.fault.SyncFault.TheVariants as faults
use Rattle.te_runtime.specs.Refusals.{HasStuck, RefusesEnding}
use Rattle.te_serial.proofs.GroupsGiven.{runs}

pub end_not_idle : (b : BoardLog) (by : ℕ) (how : How) (status : Status) → (how ≡ ways.Stuck → HasStuck b) → DeniesEnd b by (board.NotIdle status)
    → RefusesEnding how b by (faults.Other status)
end_not_idle b by ways.Stuck status asks denies = absurd (runs (state_of b) denies.0 ((stuck_exactly b.callers b.entries).1 (asks refl)))
end_not_idle b by (ways.Done values) status asks denies = ((denies.0, denies.1), denies.2)
end_not_idle b by (ways.Raised value) status asks denies = ((denies.0, denies.1), denies.2)

pub end_not_parked : (b : BoardLog) (by : ℕ) (how : How) (status : Status) → ((state_of b).stuck ≡ true → how ≡ ways.Stuck)
    → DeniesEnd b by (board.NotParked status) → RefusesEnding how b by (faults.Other status)
end_not_parked b by how status tells denies =
    subst (λ (h : How). RefusesEnding h b by (faults.Other status)) (sym (tells denies.0))
    ((stuck_exactly b.callers b.entries).0 denies.0, denies.1, denies.2)

-- an end as other than stuck is refused on a stuck board
pub end_on_stuck : (b : BoardLog) (by : ℕ) (how : How) → ¬ (how ≡ ways.Stuck) → HasStuck b → RefusesEnding how b by faults.Stuck
end_on_stuck b by ways.Stuck other stuck = absurd (other refl)
end_on_stuck b by (ways.Done values) other stuck = stuck
end_on_stuck b by (ways.Raised value) other stuck = stuck
