use Rattle.te_serial.proofs.FreshApart.{are_different}
use Rattle.te_serial.proofs.fresh.fresh_channels_are_different.Goals as goal

pub returns : goal.returns
returns c = λ script history is legal wished short. are_different script history is legal wished short
