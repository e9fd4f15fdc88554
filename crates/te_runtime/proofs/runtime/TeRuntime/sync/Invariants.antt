use Rattle.std.proofs.Common.{◌≡◌, [], ◌∷◌}
use Rattle.te_history.specs.declared.entry.Entry.TheVariants as entries
use Rattle.te_board.specs.Boards.{state_of}
use Rattle.te_runtime.specs.Calls.{board_of}
use Rattle.te_runtime.specs.Syncs.{CommitsBetween}
use Rattle.te_runtime.specs.Rounds.{HoldsTicket}
use Rattle.te_runtime.proofs.runtime.TeRuntime.sync.Given as goal

-- the event was posted and groups were committed; the caller holds the ticket of the post
abbrev pub invariant-rounds : goal.invariant-rounds
invariant-rounds g l = record {
  can : (goal.iterator-rounds g).can_next l.iterator';
  ends : (goal.iterator-rounds g).is_finite l.iterator';
  goes : CommitsBetween l.fn.pass l.pass (entries.Post l.pass.caller l.ticket l.event ∷ []) [];
  holds : HoldsTicket (state_of (board_of l.pass)) l.pass.caller l.ticket;
}
