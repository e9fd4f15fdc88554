use Rattle.std.proofs.Common.{◌≡◌, ◌-◌, ◌≤◌, [], length, map}
use Rattle.te_reader.specs.Reads.{read_threads}
use Rattle.te_reader.specs.Behind.{behind}
use Rattle.te_reader.proofs.thread.read_threads.Given as goal

abbrev pub invariant-threads : goal.invariant-threads
invariant-threads l = record {
  read : behind (map (λ a. a.value) l.threads) (read_threads (64 - length l.threads) l.channels l.names l.cursor.tokens) ≡ read_threads 64 l.channels [] l.initial.cursor.tokens;
  whole : l.cursor.whole ≡ l.initial.cursor.whole;
  most : length l.threads ≤ 64;
}

abbrev pub decreases-threads : goal.decreases-threads
decreases-threads l = 64 - length l.threads
