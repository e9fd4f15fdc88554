use Rattle.te_path.specs.Origins.{origin_of}
use Rattle.te_path.proofs.Ending.{end_is, taker_sees, resumed}
use Rattle.te_path.proofs.place.end.Goals as goal

pub push-requires : goal.push-requires
push-requires c =
    taker_sees (origin_of c.args.posted.now) c.args.cells.now c.args.count c.args.frames c.requires.around c.args.outcome.now c.requires.few
    c.in-Some.frame c.in-Some.ensures.unwinds c.in-Some.ensures.within

pub returns-in-None-clause-ok : goal.returns-in-None-clause-ok
returns-in-None-clause-ok c =
    end_is (origin_of c.args.posted.now) c.args.cells.now c.args.count c.args.frames c.requires.around c.args.outcome.now c.requires.few c.stop_of.result c.stop_of.ensures c.in-None.ensures.unwinds

pub returns-in_ok-values-in-Some-clause-ok : goal.returns-in_ok-values-in-Some-clause-ok
returns-in_ok-values-in-Some-clause-ok c =
    resumed (origin_of c.args.posted.now) c.args.cells.now c.args.count c.args.frames c.requires.around c.args.outcome.now c.requires.few
    c.in-Some.frame c.in-Some.ensures.unwinds c.in-Some.ensures.within
    c.push.new.self c.in_ok-values-in-Some.values c.push.ensures.extends c.push.ensures.linked c.in_ok-values-in-Some.ensures.ok.0 (rw (← c.value_in.ensures) c.in_ok-values-in-Some.ensures.ok.1)
