use Rattle.te_history.proofs.Lasting.{stuck_waits}
use Rattle.te_history.proofs.laws.stuck_boards_wait.Goals as goal

pub returns : goal.returns
returns c = stuck_waits
