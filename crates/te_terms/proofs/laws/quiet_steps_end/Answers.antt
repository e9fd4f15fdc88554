use Rattle.te_terms.proofs.QuietStepsEnd.{step_falls}
use Rattle.te_terms.proofs.laws.quiet_steps_end.Goals as goal

pub returns : goal.returns
returns c = step_falls
