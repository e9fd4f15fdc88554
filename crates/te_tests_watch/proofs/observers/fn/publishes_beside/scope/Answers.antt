use denote.Param.Send.{sendable}
use Rattle.std.proofs.Crossing.{crosses}
use Rattle.te_tests_watch.proofs.Sending.{observer_send}
use Rattle.te_tests_watch.proofs.observers.fn.publishes_beside.scope.Goals as goal

pub spawn-started-requires-send-F : goal.spawn-started-requires-send-F
spawn-started-requires-send-F g c κs within = search (sendable, crosses, observer_send) depth 40

pub spawn-started-requires-send-T : goal.spawn-started-requires-send-T
spawn-started-requires-send-T g c κs within = search (sendable, crosses, observer_send) depth 40
