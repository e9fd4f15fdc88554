use Rattle.te_runtime.proofs.OwnRuns.{ended_own}
use Rattle.te_runtime.proofs.WorkersGo.{goes_ended}
use Rattle.te_runtime.proofs.working.end.Goals as goal

pub returns-in-Ok : goal.returns-in-Ok
returns-in-Ok g c = record {
  goes = goes_ended c.args.job.now c.requires.held c.end.new.pass c.args.how c.requires.wished c.in-Ok.ensures.ok;
  stopped = ended_own c.args.how c.in-Ok.ensures.ok;
}
