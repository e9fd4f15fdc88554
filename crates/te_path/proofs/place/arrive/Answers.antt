use Rattle.std.proofs.Common.{◌+◌, add-one, sym}
use Rattle.te_path.specs.Origins.{origin_of}
use Rattle.te_path.proofs.Stepping.{stays, rests_so}
use Rattle.te_path.proofs.place.arrive.Goals as goal

pub returns-in-Some-clause-ok : goal.returns-in-Some-clause-ok
returns-in-Some-clause-ok c =
    stays (origin_of c.args.posted.now) c.args.cells.now c.args.down.place c.requires.place c.in-Some.stop (c.args.down.place.node + 1) (add-one c.args.down.place.node)
    (rests_so (origin_of c.args.posted.now) c.args.cells.now c.args.down.place c.args.down.turn c.in-Some.stop c.requires.turn (sym c.in-Some.ensures))
