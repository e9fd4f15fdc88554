use Rattle.te_terms.specs.Joint.{receiving}
use Rattle.te_path.specs.Origins.{origin_of}
use Rattle.te_path.specs.Spots.{spelled}
use Rattle.te_path.proofs.Handing.{hands}
use Rattle.te_path.proofs.cells.Cells.received.Goals as goal

pub returns-clause-step : goal.returns-clause-step
returns-clause-step c =
    let m = spelled (origin_of c.args.posted.now) c.args.self.now c.args.spot.now in
    hands (origin_of c.args.posted.now) c.hand.new.cells c.hand.new.spot m (receiving m.term) c.args.value c.hand.result c.requires.receive c.hand.ensures.spot c.hand.ensures.alike
