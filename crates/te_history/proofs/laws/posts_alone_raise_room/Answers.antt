use Rattle.std.proofs.Common.{◌∷◌, [], length-append, arith}
use Rattle.te_history.specs.declared.entry.Entry.TheVariants as entries
use Rattle.te_history.specs.State.{state, posts_by}
use Rattle.te_history.specs.Follows.{caller_of}
use Rattle.te_history.proofs.AfterEntry.{state-after}
use Rattle.te_history.proofs.RoomNeverRises.{room_after, room_posted}
use Rattle.te_history.proofs.laws.posts_alone_raise_room.Goals as goal

pub returns : goal.returns
returns c = record {
  others = λ callers history e follows other.
      let falls = room_after callers (state callers history) (posts_by (caller_of e) history) e follows other in
      rw (state-after callers history e) (omega (arith, length-append history (e ∷ []), falls));
  posts = λ callers history by ticket event follows.
      let rises = room_posted callers (state callers history) (posts_by by history) by ticket event follows in
      rw (state-after callers history (entries.Post by ticket event)) (omega (arith, length-append history (entries.Post by ticket event ∷ []), rises));
}
