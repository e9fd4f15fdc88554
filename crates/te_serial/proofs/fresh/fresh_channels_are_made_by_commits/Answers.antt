use Rattle.te_serial.proofs.FreshMade.{are_made}
use Rattle.te_serial.proofs.fresh.fresh_channels_are_made_by_commits.Goals as goal

pub returns : goal.returns
returns c = λ script history is legal wished short. are_made script history is legal wished short
