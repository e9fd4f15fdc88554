use Rattle.std.proofs.Common.{◌+◌, subst}
use Rattle.te_terms.specs.declared.event.Outcome.TheVariants.{Gives}
use Rattle.te_terms.specs.Steps.{giving}
use Rattle.te_path.specs.Origins.{origin_of}
use Rattle.te_path.specs.Places.{ending_in, left_at}
use Rattle.te_path.specs.Wents.{GoesOn}
use Rattle.te_path.proofs.Handing.{few_handed, goes_by, goes_then_settles}
use Rattle.te_path.proofs.moves.hand.Goals as goal

pub end-requires-clause-few : goal.end-requires-clause-few
end-requires-clause-few c = few_handed (origin_of c.args.posted.now) c.args.cells.now c.args.spot.now c.requires c.args.value

pub returns-in-To-clause-alike : goal.returns-in-To-clause-alike
returns-in-To-clause-alike c =
    let o = origin_of c.args.posted.now in
    let m = ending_in o c.args.cells.now c.args.spot.now.count c.args.spot.now.frames (Gives c.args.value) in
    let on = subst (GoesOn o m (1 + left_at c.args.posted.now.code.now c.args.cells.now c.args.spot.now.frames) c.end.new.cells c.end.new.spot) c.in-To.is c.in_ok-place.ensures.ok in
    goes_then_settles o c.args.cells.now c.args.spot.now c.requires (giving c.args.value) _ c.settle.new.cells c.settle.new.spot c.settle.result on.1 c.settle.ensures.alike

pub returns-in-At-clause-alike : goal.returns-in-At-clause-alike
returns-in-At-clause-alike c =
    let o = origin_of c.args.posted.now in
    let m = ending_in o c.args.cells.now c.args.spot.now.count c.args.spot.now.frames (Gives c.args.value) in
    let on = subst (GoesOn o m (1 + left_at c.args.posted.now.code.now c.args.cells.now c.args.spot.now.frames) c.end.new.cells c.end.new.spot) c.in-At.is c.in_ok-place.ensures.ok in
    goes_by o c.args.cells.now c.args.spot.now c.requires (giving c.args.value) _ on.1
