use Rattle.std.proofs.Common.{arith}
use Rattle.te_terms.specs.declared.event.Outcome.TheVariants as outcomes
use Rattle.te_path.specs.declared.spot.Stop.TheVariants as stops
use Rattle.te_search.proofs.Ending.{stop_final, stop_chooses}
use Rattle.te_search.proofs.EndsKept.{send_at_end, receive_at_end, dead_look}
use Rattle.te_search.proofs.batched.Batched.look.Goals as goal

pub stop-requires : goal.stop-requires
stop-requires c = omega (arith, c.requires.path, c.requires.batched.opened.last)

pub returns-in-Done : goal.returns-in-Done
returns-in-Done c x ex = stop_final c.args.self.now.work c.args.p (stops.Done c.in-Done.field-0) c.in-Done.ensures.told
    (λ t h. (outcomes.Gives c.in-Done.field-0, h)) x ex

pub returns-in-Raised : goal.returns-in-Raised
returns-in-Raised c x ex = stop_final c.args.self.now.work c.args.p
    (stops.Raised c.in-Raised.field-0) c.in-Raised.ensures.told (λ t h. (outcomes.Raises c.in-Raised.field-0, h)) x ex

pub lower_partners-requires-clause-stands : goal.lower_partners-requires-clause-stands
lower_partners-requires-clause-stands c = send_at_end c.args.self.now.work c.args.p c.in-Send.field-0 c.in-Send.field-1
    c.in-Send.ensures.told

pub lower_partners-requires-in-Recv-clause-stands : goal.lower_partners-requires-in-Recv-clause-stands
lower_partners-requires-in-Recv-clause-stands c = receive_at_end c.args.self.now.work c.args.p c.in-Recv.field-0
    c.in-Recv.ensures.told

pub returns-in-Choice : goal.returns-in-Choice
returns-in-Choice c = stop_chooses c.args.self.now.work c.args.p stops.Choice c.in-Choice.ensures.told (λ t h. h)

pub returns-in-Dead : goal.returns-in-Dead
returns-in-Dead c = dead_look c.args.self.now c.args.p c.in-Dead.ensures.told
