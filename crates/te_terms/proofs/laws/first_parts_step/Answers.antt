use Rattle.te_terms.proofs.OneThing.{choice_under_then, choice_under_catch}
use Rattle.te_terms.proofs.UnderFirst.{quiet_under_then, quiet_under_catch, settled_under_then, settled_under_catch}
use Rattle.te_terms.proofs.laws.first_parts_step.Goals as goal

pub returns : goal.returns
returns c = record {
  quiet_then = quiet_under_then;
  quiet_catch = quiet_under_catch;
  settled_then = settled_under_then;
  settled_catch = settled_under_catch;
  choice_then = choice_under_then;
  choice_catch = choice_under_catch;
}
