use denote.Param.Send.{sendable}
use Rattle.te_tests_watch.proofs.Sending.{observer_send}
use Rattle.te_tests_watch.proofs.observers.fn.publishes_beside.fn.scope.spawn.Goals as goal

pub map_vec-requires-send-J : goal.map_vec-requires-send-J
map_vec-requires-send-J g c κs within = search (sendable, observer_send) depth 20

pub map_vec-requires-send-X : goal.map_vec-requires-send-X
map_vec-requires-send-X g c κs within = search (sendable, observer_send) depth 20
