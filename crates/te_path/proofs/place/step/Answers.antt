use Rattle.std.proofs.Common.{◌+◌, add-one}
use Rattle.te_path.specs.Origins.{origin_of}
use Rattle.te_terms.specs.declared.event.Outcome.TheVariants.{Gives}
use Rattle.te_path.specs.Places.{ending_in}
use Rattle.te_path.proofs.Stepping.{stays, goes, ends, ends_so, few_ending, room_for_one, makes}
use Rattle.te_path.proofs.place.step.Goals as goal

pub returns-in-Stays-clause-ok : goal.returns-in-Stays-clause-ok
returns-in-Stays-clause-ok c = stays (origin_of c.args.posted.now) c.args.cells.now c.args.place c.requires c.in-Stays.stop (c.args.place.node + 1) (add-one c.args.place.node) c.in-Stays.ensures.leads

pub returns-in-Goes-clause-ok : goal.returns-in-Goes-clause-ok
returns-in-Goes-clause-ok c = goes (origin_of c.args.posted.now) c.args.cells.now c.args.place c.requires c.in-Goes.node c.in-Goes.ensures.leads

pub end-requires-clause-few : goal.end-requires-clause-few
end-requires-clause-few c =
    few_ending (origin_of c.args.posted.now) c.args.cells.now c.args.place c.requires c.args.place.count c.in-Ends.outcome
    (ends_so (origin_of c.args.posted.now) c.args.cells.now c.args.place c.requires c.in-Ends.outcome c.in-Ends.ensures.leads)

pub returns-in-Ends-clause-ok : goal.returns-in-Ends-clause-ok
returns-in-Ends-clause-ok c =
    ends (origin_of c.args.posted.now) c.args.cells.now c.args.place c.requires (ending_in (origin_of c.args.posted.now) c.args.cells.now c.args.place.count c.args.place.frames c.in-Ends.outcome)
    c.end.new.cells c.end.new.spot c.end.result
    (ends_so (origin_of c.args.posted.now) c.args.cells.now c.args.place c.requires c.in-Ends.outcome c.in-Ends.ensures.leads) c.end.ensures.ok

pub fresh_value-requires : goal.fresh_value-requires
fresh_value-requires c = room_for_one (origin_of c.args.posted.now) c.args.cells.now c.args.place c.requires c.in-Fresh.ensures.leads

pub end-requires-in-Fresh-clause-few : goal.end-requires-in-Fresh-clause-few
end-requires-in-Fresh-clause-few c =
    few_ending (origin_of c.args.posted.now) c.args.cells.now c.args.place c.requires (c.args.place.count + 1) (Gives c.fresh_value.result)
    (makes (origin_of c.args.posted.now) c.args.cells.now c.args.place c.requires c.in-Fresh.ensures.leads c.fresh_value.result
    (c.args.place.count + 1) c.fresh_value.ensures (add-one c.args.place.count))

pub returns-in-Fresh-clause-ok : goal.returns-in-Fresh-clause-ok
returns-in-Fresh-clause-ok c =
    ends (origin_of c.args.posted.now) c.args.cells.now c.args.place c.requires (ending_in (origin_of c.args.posted.now) c.args.cells.now
    (c.args.place.count + 1) c.args.place.frames (Gives c.fresh_value.result))
    c.end-in-Fresh.new.cells c.end-in-Fresh.new.spot c.end-in-Fresh.result
    (makes (origin_of c.args.posted.now) c.args.cells.now c.args.place c.requires c.in-Fresh.ensures.leads c.fresh_value.result
    (c.args.place.count + 1) c.fresh_value.ensures (add-one c.args.place.count)) c.end-in-Fresh.ensures.ok
