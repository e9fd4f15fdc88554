use Rattle.te_terms.specs.Joint.{as_group}
use Rattle.te_search.proofs.NamesAreFew.{names_fit}
use Rattle.te_search.proofs.bound.enough.Goals as goal

pub returns-then-paths-le500000-clause-names : goal.returns-then-paths-le500000-clause-names
returns-then-paths-le500000-clause-names c = λ paths groups dp ap dg ag. names_fit (as_group c.args.parked.now) paths groups c.requires dp ap dg ag

pub returns-else-paths-le500000-clause-names : goal.returns-else-paths-le500000-clause-names
returns-else-paths-le500000-clause-names c = λ paths groups dp ap dg ag. names_fit (as_group c.args.parked.now) paths groups c.requires dp ap dg ag
