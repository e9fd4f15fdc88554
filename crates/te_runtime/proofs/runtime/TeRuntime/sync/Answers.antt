use Rattle.std.proofs.Common.{◌≡◌, inl, inr, ap, sym, subst, arith}
use Rattle.te_runtime.specs.Syncs.{IsSynced, IsSyncRefused}
use Rattle.te_runtime.proofs.StuckCallers.{stuck_stands}
use Rattle.te_runtime.proofs.RoundsOfSync.{round_on, synced, failed}
use Rattle.te_runtime.proofs.runtime.TeRuntime.sync.Goals as goal

pub returns-in-Err-clause-stuck : goal.returns-in-Err-clause-stuck
returns-in-Err-clause-stuck g c =
    let q = c.post_in.new.pass in
    let same = c.in-Err.ensures.refused.0.same in
    let callers : q.lock.callers ≡ c.args.pass.now.lock.callers = ap (λ l. l.callers) same.0 in
    stuck_stands c.args.budget c.args.event.now c.in-Err.fault
    (omega (arith, callers, same.1, c.caller-by.ensures.caller, c.caller-by.ensures.below)) (inl c.in-Err.ensures.refused)

pub rounds-preserved-in-Again : goal.rounds-preserved-in-Again
rounds-preserved-in-Again g c =
    let later = round_on c.in-Ok.ticket c.args.event.now c.rounds.invariant.goes c.in-Again.ensures c.rounds.invariant.holds in
    record { can = tt; ends = tt; goes = later.0; holds = later.1 }

pub rounds-preserved : goal.rounds-preserved
rounds-preserved g c =
    let later = round_on c.in-Ok.ticket c.args.event.now c.rounds.invariant.goes c.in-Sleep.ensures c.rounds.invariant.holds in
    record { can = tt; ends = tt; goes = later.0; holds = later.1 }

pub returns-in-Over-Ok-clause-ok : goal.returns-in-Over-Ok-clause-ok
returns-in-Over-Ok-clause-ok g c =
    let round = rw c.in-Over-Ok.field-0-is at c.in-Over-Ok.ensures in
    subst (IsSynced c.args.pass.now c.round.new.pass c.args.event.now) (sym c.in-Over-Ok.outcome-is)
    (synced c.in-Ok.ticket c.args.event.now c.in-Over-Ok.outcome c.rounds.invariant.goes round)

pub returns-in-Over-Err-clause-refused : goal.returns-in-Over-Err-clause-refused
returns-in-Over-Err-clause-refused g c =
    let q = c.round.new.pass in
    let round = rw c.in-Over-Err.field-0-is at c.in-Over-Err.ensures in
    subst (IsSyncRefused c.args.budget c.args.pass.now q c.args.event.now) (sym c.in-Over-Err.fault-is)
    (inr (c.in-Ok.ticket, failed c.args.budget c.in-Ok.ticket c.args.event.now q c.in-Over-Err.fault c.rounds.invariant.goes round))
