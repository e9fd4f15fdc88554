use Rattle.te_cert.proofs.Accepted.{accepted}
use Rattle.te_cert.proofs.laws.checks_accept.Goals as goal

pub returns : goal.returns
returns c = accepted
