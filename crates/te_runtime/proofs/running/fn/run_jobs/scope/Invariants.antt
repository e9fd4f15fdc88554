use Rattle.std.proofs.Common.{◌≡◌, ◌≤◌, ◌+◌, length}
use Rattle.std.specs.Prelude.{All}
use Rattle.std.specs.Vec.{vec_capacity, vec_len}
use Rattle.te_search.specs.Findings.{IsBudget}
use Rattle.te_runtime.specs.Working.{IsJobReady}
use Rattle.te_runtime.specs.Started.{AreStarted, AreJoined}
use Rattle.te_runtime.proofs.running.fn.run_jobs.scope.Given as goal

-- the jobs that are left are ready, and the others are started
abbrev pub invariant-starts : goal.invariant-starts
invariant-starts g l = record {
  ready : All (IsJobReady l.runtime.now) l.queue.items;
  started : AreStarted l.was.value.items l.queue.items l.started.items;
  room : vec_len l.queue + vec_len l.started ≤ vec_capacity l.started;
  count : vec_len l.queue + vec_len l.started ≡ vec_len l.was.value;
}

abbrev pub invariant-joins : goal.invariant-joins
invariant-joins g l = record {
  joined : AreJoined l.was.value.items l.started.items l.passes.items l.cores.items;
  passes : vec_len l.started + vec_len l.passes ≤ vec_capacity l.passes;
  cores : vec_len l.started + vec_len l.cores ≤ vec_capacity l.cores;
}

abbrev pub decreases-starts : goal.decreases-starts
decreases-starts g l = length l.queue.items

abbrev pub decreases-joins : goal.decreases-joins
decreases-joins g l = length l.started.items
