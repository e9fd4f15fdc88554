use Rattle.te_trail.proofs.NamesApart.{known_by_own, has_name, apart_by_name}
use Rattle.te_trail.proofs.laws.paths_have_names.Goals as goal

pub returns-clause-own : goal.returns-clause-own
returns-clause-own c = known_by_own

pub returns-clause-name : goal.returns-clause-name
returns-clause-name c = has_name

pub returns-clause-apart : goal.returns-clause-apart
returns-clause-apart c = apart_by_name
