use Rattle.te_cert.proofs.ReductionsPlay.{reductions_play}
use Rattle.te_cert.proofs.laws.reductions_play.Goals as goal

pub returns : goal.returns
returns c = reductions_play
