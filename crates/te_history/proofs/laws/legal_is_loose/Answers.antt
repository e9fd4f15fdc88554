use Rattle.te_history.proofs.Growing.{legal_is_loose}
use Rattle.te_history.proofs.laws.legal_is_loose.Goals as goal

pub returns : goal.returns
returns c = legal_is_loose
