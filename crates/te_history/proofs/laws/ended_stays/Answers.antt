use Rattle.te_history.proofs.Lasting.{ended_stays}
use Rattle.te_history.proofs.laws.ended_stays.Goals as goal

pub returns : goal.returns
returns c = ended_stays
