use Rattle.te_search.proofs.NamesAreFew.{path_names_few, group_names_few}
use Rattle.te_search.proofs.bound.names_are_few.Goals as goal

pub returns-clause-paths : goal.returns-clause-paths
returns-clause-paths c = path_names_few

pub returns-clause-groups : goal.returns-clause-groups
returns-clause-groups c = group_names_few
