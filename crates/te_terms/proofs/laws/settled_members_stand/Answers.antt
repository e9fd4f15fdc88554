use Rattle.te_terms.proofs.OneThing.{stands}
use Rattle.te_terms.proofs.laws.settled_members_stand.Goals as goal

pub returns : goal.returns
returns c = λ m h. stands m m.term h
