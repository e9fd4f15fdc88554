use Rattle.std.proofs.Common.{◌≡◌, sym}
use Rattle.te_script.specs.Generated.{each, passing_event}
use Rattle.te_script.proofs.NodesPut.{same_events}
use Rattle.te_script.proofs.generator.passing_events.Goals as goal

pub returns : goal.returns
returns c = rw c.in_ok-roots.ensures (same_events c.put_passing.new.code c.in_ok-root.root (passing_event c.args.p c.args.q) c.args.rounds c.in_ok-root.ensures.root c.in_ok-root.ensures.event)
