use Rattle.te_trail.proofs.NamesApart.{pasts_together}
use Rattle.te_trail.proofs.laws.pasts_are_chains.Goals as goal

pub returns : goal.returns
returns c = pasts_together
