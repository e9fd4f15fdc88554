use Rattle.te_search.specs.Findings.{IsBudget}
use Rattle.te_runtime.specs.Working.{IsJobReady, WorkGoesOn}
use Rattle.te_runtime.proofs.working.work.Given as goal

-- the job is ready to go on
abbrev pub invariant-steps : goal.invariant-steps
invariant-steps g l = record {
  can : (goal.iterator-steps g).can_next l.iterator';
  ends : (goal.iterator-steps g).is_finite l.iterator';
  ready : IsJobReady l.runtime l.job;
  goes : WorkGoesOn l.fn.job l.job;
}
