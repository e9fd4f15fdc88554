use Rattle.std.proofs.Common.{◌∙◌, subst}
use Rattle.te_path.specs.Origins.{origin_of}
use Rattle.te_path.specs.Places.{placed, nodes_left}
use Rattle.te_path.specs.Wents.{GoesOn, Keeps}
use Rattle.te_path.proofs.Growing.{grows_on}
use Rattle.te_path.proofs.InLayers.{alike_on}
use Rattle.te_path.proofs.place.settle.Goals as goal

pub all-preserved : goal.all-preserved
all-preserved c =
    let o = origin_of c.args.posted.now in
    let start = placed o c.args.cells.now c.args.from in
    let here = placed o c.all.cells c.all.place in
    let down = placed o c.descend.new.cells c.in_ok-down.down.place in
    let on = subst (GoesOn o down (nodes_left c.args.posted.now.code.now c.descend.new.cells c.in_ok-down.down.place) c.arrive.new.cells c.arrive.new.spot) c.in-To.is c.in_ok-next.ensures.ok in
    record {
      place = on.0;
      alike = alike_on start here _ c.all.invariant.alike (alike_on here down _ c.in_ok-down.ensures.ok.alike on.1);
      kept = subst (Keeps c.all.spot c.arrive.new.spot) c.in-To.is c.in_ok-next.ensures.kept ∙ c.all.invariant.kept;
      grows = grows_on c.args.cells.now c.all.cells c.arrive.new.cells c.all.invariant.grows (grows_on c.all.cells c.descend.new.cells
          c.arrive.new.cells c.descend.ensures.grows c.arrive.ensures.grows);
    }

pub returns-in-At-clause-alike : goal.returns-in-At-clause-alike
returns-in-At-clause-alike c =
    let o = origin_of c.args.posted.now in
    let start = placed o c.args.cells.now c.args.from in
    let here = placed o c.all.cells c.all.place in
    let down = placed o c.descend.new.cells c.in_ok-down.down.place in
    let on = subst (GoesOn o down (nodes_left c.args.posted.now.code.now c.descend.new.cells c.in_ok-down.down.place) c.arrive.new.cells c.arrive.new.spot) c.in-At.is c.in_ok-next.ensures.ok in
    alike_on start here _ c.all.invariant.alike (alike_on here down _ c.in_ok-down.ensures.ok.alike on.1)
