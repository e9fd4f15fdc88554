use Rattle.te_cert.proofs.AdvancesEnd.{advance_ends}
use Rattle.te_cert.proofs.laws.advances_end.Goals as goal

pub returns-clause-settled : goal.returns-clause-settled
returns-clause-settled c = λ i p a e. (advance_ends i p a e).settled_so

pub returns-clause-no_choice : goal.returns-clause-no_choice
returns-clause-no_choice c = λ i p a e. (advance_ends i p a e).no_choice
