use Rattle.te_history.proofs.Lasting.{stuck_exactly, resting_exactly}
use Rattle.te_history.proofs.laws.declarations_stand.Goals as goal

pub returns : goal.returns
returns c = record { stuck = stuck_exactly; resting = resting_exactly }
