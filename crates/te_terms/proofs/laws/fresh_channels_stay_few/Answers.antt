use Rattle.te_terms.proofs.FreshStaysFew.{quiet_makes, choice_few, handed_few}
use Rattle.te_terms.proofs.Settles.{settled_makes}
use Rattle.te_terms.proofs.laws.fresh_channels_stay_few.Goals as goal

pub returns : goal.returns
returns c = record { quiet = quiet_makes; settled = settled_makes; choice = choice_few; meeting = handed_few }
