use Rattle.std.proofs.Common.{◌≡◌, add-one}
use Rattle.te_script.specs.Generated.{each, starting}
use Rattle.te_script.proofs.NodesPut.{one_event_more}
use Rattle.te_script.proofs.generator.starting_events.Goals as goal

pub loop-round-preserved : goal.loop-round-preserved
loop-round-preserved c =
    rw (add-one, c.in_ok-push.ensures.items)
    (one_event_more c.loop-round.code c.put_starting.new.code c.loop-round.roots.items c.in_ok-root.root (each (starting c.args.p c.args.r)
    c.loop-round.round) (starting c.args.p c.args.r c.loop-round.round) c.in_ok-root.ensures.grows c.loop-round.invariant
    c.in_ok-root.ensures.root c.in_ok-root.ensures.event)
