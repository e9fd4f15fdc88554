use Rattle.std.proofs.Common.{◌≡◌, ◌++◌, drop, map}
use Rattle.std.specs.List.{flat_map}
use Rattle.te_reader.specs.Canonical.{thread_text}
use Rattle.te_reader.proofs.printing.put_threads.Given as goal

-- with the threads that are left it is the whole
abbrev pub invariant-loop-thread : goal.invariant-loop-thread
invariant-loop-thread l =
    l.out.items ++ flat_map (thread_text l.channels) (map (λ a. a.value) (drop l.thread-index l.threads)) ≡ l.fn.out.items ++ flat_map (thread_text l.channels) (map (λ a. a.value) l.threads)
