use Rattle.te_terms.proofs.BindingLaws.{closed_scoped, bound_scoped}
use Rattle.te_terms.proofs.laws.bindings_extend.Goals as goal

pub returns : goal.returns
returns c = record { start = closed_scoped; next = bound_scoped }
