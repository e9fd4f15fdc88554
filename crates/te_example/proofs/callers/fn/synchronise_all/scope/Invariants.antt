use Rattle.std.proofs.Common.{◌≡◌, ◌≤◌, ◌+◌, length}
use Rattle.std.specs.Prelude.{All}
use Rattle.std.specs.Vec.{vec_capacity, vec_len}
use Rattle.te_example.specs.Passes.{IsFreePass}
use Rattle.te_example.proofs.callers.fn.synchronise_all.scope.Given as goal

-- the passes that are left are free, and there is room for as many threads
abbrev pub invariant-starts : goal.invariant-starts
invariant-starts g l = record {
  free : All (IsFreePass l.runtime.now) l.left.items;
  host : IsFreePass l.runtime.now l.host;
  events : length l.left.items ≤ length l.events;
  begun : vec_len l.left + vec_len l.started ≤ vec_capacity l.started;
  told : vec_len l.left + vec_len l.started ≤ vec_capacity l.answers;
  none : length l.answers.items ≡ 0;
}

abbrev pub invariant-joins : goal.invariant-joins
invariant-joins g l = vec_len l.started + vec_len l.answers ≤ vec_capacity l.answers

abbrev pub decreases-starts : goal.decreases-starts
decreases-starts g l = length l.left.items

abbrev pub decreases-joins : goal.decreases-joins
decreases-joins g l = length l.started.items
