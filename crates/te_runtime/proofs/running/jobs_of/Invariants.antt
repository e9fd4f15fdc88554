use Rattle.std.proofs.Common.{◌≡◌, ◌++◌, length}
use Rattle.std.specs.List.{AllZip}
use Rattle.std.specs.Vec.Iter.{into_iter_items, into_iter_len}
use Rattle.te_runtime.specs.Working.{IsFirstJob}
use Rattle.te_runtime.proofs.running.jobs_of.Given as goal

-- the jobs of the passes so far
abbrev pub invariant-passes : goal.invariant-passes
invariant-passes l = record {
  can : (goal.iterator-passes).can_next l.pass-iterator;
  ends : (goal.iterator-passes).is_finite l.pass-iterator;
  whole : l.yielded ++ into_iter_items l.pass-iterator ≡ l.fn.passes.items;
  left : into_iter_len l.pass-iterator ≡ length (into_iter_items l.pass-iterator);
  first : AllZip (IsFirstJob l.script.threads) l.yielded l.jobs.items;
}
