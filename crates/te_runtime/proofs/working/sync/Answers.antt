use Rattle.std.proofs.Common.{◌+◌, subst, arith}
use Rattle.te_lock.specs.Lock.{Lock}
use Rattle.te_runtime.specs.Working.{IsJobHeld, IsJobReady}
use Rattle.te_runtime.proofs.WorkersGo.{with_pass, goes_refused, goes_synced, ready_synced, ticket_fits}
use Rattle.te_runtime.proofs.working.sync.Goals as goal

pub overflow_add-job : goal.overflow_add-job
overflow_add-job g c =
    let few = ticket_fits c.args.job.now c.requires.ready c.args.event.now c.requires.wished c.sync.new.pass c.in-Ok.outcome c.in-Ok.ensures.ok in
    omega (arith, few)

pub end-requires-clause-held : goal.end-requires-clause-held
end-requires-clause-held g c =
    let goes = goes_refused c.args.job.now c.requires.ready c.args.event.now c.requires.wished c.args.budget c.sync.new.pass _ c.in-Err-Stuck.ensures.refused in
    subst (λ (l : Lock). IsJobHeld l (with_pass c.args.job.now c.sync.new.pass)) c.requires.ready.held.here goes.held

pub halt-requires : goal.halt-requires
halt-requires g c =
    let goes = goes_refused c.args.job.now c.requires.ready c.args.event.now c.requires.wished c.args.budget c.sync.new.pass _ c.in-Err.ensures.refused in
    record { held = subst (λ (l : Lock). IsJobHeld l (with_pass c.args.job.now c.sync.new.pass)) c.requires.ready.held.here goes.held }

pub returns-in-Ok-clause-goes : goal.returns-in-Ok-clause-goes
returns-in-Ok-clause-goes g c =
    goes_synced c.args.job.now c.requires.ready c.args.event.now c.requires.wished c.sync.new.pass c.in-Ok.outcome c.give.new.self c.in-Ok.ensures.ok
    c.give.ensures.after

pub returns-in-Ok-clause-more : goal.returns-in-Ok-clause-more
returns-in-Ok-clause-more g c = λ again.
    let ready =
    ready_synced c.args.job.now c.requires.ready c.args.event.now c.requires.wished c.sync.new.pass c.in-Ok.outcome c.give.new.self c.in-Ok.ensures.ok
    c.give.ensures.after in
    subst (λ (l : Lock). IsJobReady l (record { pass = c.sync.new.pass; core = c.give.new.self; ticket = c.args.job.now.ticket + 1 })) c.requires.ready.held.here ready

pub returns-in-Err-Resting-clause-goes : goal.returns-in-Err-Resting-clause-goes
returns-in-Err-Resting-clause-goes g c =
    goes_refused c.args.job.now c.requires.ready c.args.event.now c.requires.wished c.args.budget c.sync.new.pass _ c.in-Err-Resting.ensures.refused
