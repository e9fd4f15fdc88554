use Rattle.te_runtime.proofs.OwnRuns.{rested_read}
use Rattle.te_runtime.proofs.WorkersGo.{goes_rested}
use Rattle.te_runtime.proofs.working.halt.Goals as goal

pub returns-in-Ok : goal.returns-in-Ok
returns-in-Ok g c = record { goes = goes_rested c.args.job.now c.requires.held c.rest.new.pass c.in-Ok.ensures.ok; stopped = rested_read c.in-Ok.ensures.ok }
