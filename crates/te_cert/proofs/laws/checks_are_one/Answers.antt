use Rattle.te_cert.proofs.OneAnswer.{one_answer}
use Rattle.te_cert.proofs.laws.checks_are_one.Goals as goal

pub returns : goal.returns
returns c = one_answer
