use Rattle.te_cert.proofs.PlaysReduce.{plays_reduce}
use Rattle.te_cert.proofs.laws.plays_reduce.Goals as goal

pub returns : goal.returns
returns c = plays_reduce
