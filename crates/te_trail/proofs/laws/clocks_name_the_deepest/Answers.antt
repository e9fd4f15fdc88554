use Rattle.te_trail.proofs.NamesApart.{names_deepest}
use Rattle.te_trail.proofs.laws.clocks_name_the_deepest.Goals as goal

pub returns : goal.returns
returns c = names_deepest
