use Rattle.te_history.specs.State.{state, posts_by}
use Rattle.te_history.specs.Follows.{caller_of}
use Rattle.te_history.proofs.AfterEntry.{state-after}
use Rattle.te_history.proofs.RoomNeverRises.{room_exactly}
use Rattle.te_history.proofs.laws.room_goes_by_entries.Goals as goal

pub returns : goal.returns
returns c = λ callers history e follows. rw (state-after callers history e) (room_exactly callers (state callers history) (posts_by (caller_of e) history) e follows)
