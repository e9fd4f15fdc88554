-- An observer may go to a thread of its own.
use denote.Param.Send.{IsSend, view_send, recorded_send, struct_send, sendable}
use denote.Struct.Declared.{shape}
use Rattle.std.proofs.Crossing.{crosses, frees, send, sync}
use Rattle.core.proofs.option.Option.TheSendSync as option
use Rattle.left_right.proofs.reader.Reader.TheSendSync as reader
use Rattle.te_watch.proofs.notice.Notice.TheSendSync as notice
use Rattle.te_watch.specs.contracts.observer.Observer as observer
use Rattle.te_watch.specs.contracts.observer.Observer.TheInside as inside

inside_send : IsSend inside.the_row
inside_send = recorded_send _ _ _ (inside.the_type).to_one (struct_send (shape inside.the_type) (
  search (option.the_field_send, reader.the_send, notice.the_sync, frees, send, sync) depth 30,
  (notice.the_send, (search crosses depth 10, (search sendable, tt))),
))

pub observer_send : IsSend observer.the_row
observer_send = view_send inside.the_row _ _ _ _ inside_send
