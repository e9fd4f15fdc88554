use Rattle.te_path.proofs.Growing.{spot_grown, spelled_grown, grows_on, grows_none, cells_back}
use Rattle.te_path.proofs.laws.spots_stay.Goals as goal

pub returns-clause-stays : goal.returns-clause-stays
returns-clause-stays c = spot_grown

pub returns-clause-spelled : goal.returns-clause-spelled
returns-clause-spelled c = spelled_grown

pub returns-clause-twice : goal.returns-clause-twice
returns-clause-twice c = grows_on

pub returns-clause-same : goal.returns-clause-same
returns-clause-same c = grows_none

pub returns-clause-back : goal.returns-clause-back
returns-clause-back c = cells_back
