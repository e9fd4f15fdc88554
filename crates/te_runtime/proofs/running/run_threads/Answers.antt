use Rattle.std.proofs.Common.{◌≡◌, ℕ, length, sym, ap, ◌∙◌, subst}
use Rattle.te_lock.specs.Lock.{new_passes}
use Rattle.te_serial.specs.Houses.{texts_of}
use Rattle.te_runtime.specs.Households.{IsHousehold}
use Rattle.te_runtime.proofs.HousesClosed.{all_ready, left_here, left_idle, left_everyone, left_texts, left_house, left_ended, left_of_script}
use Rattle.te_runtime.proofs.running.run_threads.Goals as goal

pub run_jobs-requires-clause-ready : goal.run_jobs-requires-clause-ready
run_jobs-requires-clause-ready g c κs within =
    let passes : c.in_ok-runtime.passes.items ≡ new_passes c.in_ok-runtime.runtime (length c.args.script.now.threads) =
    c.in_ok-runtime.ensures.passes ∙ ap (new_passes c.in_ok-runtime.runtime) c.callers_of.ensures.value in
    let jobs = c.in_ok-jobs.ensures c.in_ok-runtime.runtime passes in
    all_ready c.args.script.now.threads c.in_ok-runtime.runtime c.in_ok-jobs.jobs.items jobs

pub close-requires-clause-here : goal.close-requires-clause-here
close-requires-clause-here g c =
    let passes : c.in_ok-runtime.passes.items ≡ new_passes c.in_ok-runtime.runtime (length c.args.script.now.threads) =
    c.in_ok-runtime.ensures.passes ∙ ap (new_passes c.in_ok-runtime.runtime) c.callers_of.ensures.value in
    let jobs = c.in_ok-jobs.ensures c.in_ok-runtime.runtime passes in
    left_here c.args.script.now.threads c.in_ok-runtime.runtime c.in_ok-jobs.jobs.items c.in_ok-passes.passes.items c.in_ok-passes.cores.items jobs c.in_ok-passes.ensures

pub close-requires-clause-idle : goal.close-requires-clause-idle
close-requires-clause-idle g c =
    let passes : c.in_ok-runtime.passes.items ≡ new_passes c.in_ok-runtime.runtime (length c.args.script.now.threads) =
    c.in_ok-runtime.ensures.passes ∙ ap (new_passes c.in_ok-runtime.runtime) c.callers_of.ensures.value in
    let jobs = c.in_ok-jobs.ensures c.in_ok-runtime.runtime passes in
    left_idle c.args.script.now.threads c.in_ok-runtime.runtime c.in_ok-jobs.jobs.items c.in_ok-passes.passes.items c.in_ok-passes.cores.items jobs c.in_ok-passes.ensures

pub close-requires-clause-everyone : goal.close-requires-clause-everyone
close-requires-clause-everyone g c =
    let passes : c.in_ok-runtime.passes.items ≡ new_passes c.in_ok-runtime.runtime (length c.args.script.now.threads) =
    c.in_ok-runtime.ensures.passes ∙ ap (new_passes c.in_ok-runtime.runtime) c.callers_of.ensures.value in
    let jobs = c.in_ok-jobs.ensures c.in_ok-runtime.runtime passes in
    let count = c.in_ok-runtime.ensures.callers ∙ c.callers_of.ensures.value in
    left_everyone c.args.script.now.threads c.in_ok-runtime.runtime c.in_ok-jobs.jobs.items c.in_ok-passes.passes.items c.in_ok-passes.cores.items jobs c.in_ok-passes.ensures
    count

pub invariant_of-result : goal.invariant_of-result
invariant_of-result g c =
    let passes : c.in_ok-runtime.passes.items ≡ new_passes c.in_ok-runtime.runtime (length c.args.script.now.threads) =
    c.in_ok-runtime.ensures.passes ∙ ap (new_passes c.in_ok-runtime.runtime) c.callers_of.ensures.value in
    let jobs = c.in_ok-jobs.ensures c.in_ok-runtime.runtime passes in
    let count = c.in_ok-runtime.ensures.callers ∙ c.callers_of.ensures.value in
    let left = left_house c.args.script.now.threads c.in_ok-runtime.runtime c.in_ok-jobs.jobs.items c.in_ok-passes.passes.items c.in_ok-passes.cores.items jobs c.in_ok-passes.ensures
    c.close.result count c.close.ensures.number c.close.ensures.law c.close.ensures.unmade c.close.ensures.own c.close.ensures.begins in
    subst (IsHousehold c.close.result) (sym c.from.ensures) left

pub returns-clause-texts : goal.returns-clause-texts
returns-clause-texts g c =
    let passes : c.in_ok-runtime.passes.items ≡ new_passes c.in_ok-runtime.runtime (length c.args.script.now.threads) =
    c.in_ok-runtime.ensures.passes ∙ ap (new_passes c.in_ok-runtime.runtime) c.callers_of.ensures.value in
    let jobs = c.in_ok-jobs.ensures c.in_ok-runtime.runtime passes in
    ap texts_of c.from.ensures ∙ left_texts c.args.script.now.threads c.in_ok-runtime.runtime c.in_ok-jobs.jobs.items c.in_ok-passes.passes.items c.in_ok-passes.cores.items jobs c.in_ok-passes.ensures

pub returns-clause-house : goal.returns-clause-house
returns-clause-house g c =
    let passes : c.in_ok-runtime.passes.items ≡ new_passes c.in_ok-runtime.runtime (length c.args.script.now.threads) =
    c.in_ok-runtime.ensures.passes ∙ ap (new_passes c.in_ok-runtime.runtime) c.callers_of.ensures.value in
    let jobs = c.in_ok-jobs.ensures c.in_ok-runtime.runtime passes in
    let count = c.in_ok-runtime.ensures.callers ∙ c.callers_of.ensures.value in
    let left = left_house c.args.script.now.threads c.in_ok-runtime.runtime c.in_ok-jobs.jobs.items c.in_ok-passes.passes.items c.in_ok-passes.cores.items jobs c.in_ok-passes.ensures
    c.close.result count c.close.ensures.number c.close.ensures.law c.close.ensures.unmade c.close.ensures.own c.close.ensures.begins in
    (subst (IsHousehold c.close.result) (sym c.from.ensures) left).house

pub returns-clause-of_script : goal.returns-clause-of_script
returns-clause-of_script g c =
    let passes : c.in_ok-runtime.passes.items ≡ new_passes c.in_ok-runtime.runtime (length c.args.script.now.threads) =
    c.in_ok-runtime.ensures.passes ∙ ap (new_passes c.in_ok-runtime.runtime) c.callers_of.ensures.value in
    let jobs = c.in_ok-jobs.ensures c.in_ok-runtime.runtime passes in
    let count = c.in_ok-runtime.ensures.callers ∙ c.callers_of.ensures.value in
    left_of_script c.args.script.now.threads c.in_ok-runtime.runtime c.in_ok-jobs.jobs.items c.in_ok-passes.passes.items c.in_ok-passes.cores.items jobs c.in_ok-passes.ensures
    c.close.result count c.close.ensures.number c.close.ensures.law c.close.ensures.unmade c.close.ensures.own c.close.ensures.begins

pub returns-clause-tight : goal.returns-clause-tight
returns-clause-tight g c =
    let passes : c.in_ok-runtime.passes.items ≡ new_passes c.in_ok-runtime.runtime (length c.args.script.now.threads) =
    c.in_ok-runtime.ensures.passes ∙ ap (new_passes c.in_ok-runtime.runtime) c.callers_of.ensures.value in
    let jobs = c.in_ok-jobs.ensures c.in_ok-runtime.runtime passes in
    let count = c.in_ok-runtime.ensures.callers ∙ c.callers_of.ensures.value in
    let left = left_house c.args.script.now.threads c.in_ok-runtime.runtime c.in_ok-jobs.jobs.items c.in_ok-passes.passes.items c.in_ok-passes.cores.items jobs c.in_ok-passes.ensures
    c.close.result count c.close.ensures.number c.close.ensures.law c.close.ensures.unmade c.close.ensures.own c.close.ensures.begins in
    left.tight

pub returns-clause-once : goal.returns-clause-once
returns-clause-once g c =
    let passes : c.in_ok-runtime.passes.items ≡ new_passes c.in_ok-runtime.runtime (length c.args.script.now.threads) =
    c.in_ok-runtime.ensures.passes ∙ ap (new_passes c.in_ok-runtime.runtime) c.callers_of.ensures.value in
    let jobs = c.in_ok-jobs.ensures c.in_ok-runtime.runtime passes in
    let count = c.in_ok-runtime.ensures.callers ∙ c.callers_of.ensures.value in
    let left = left_house c.args.script.now.threads c.in_ok-runtime.runtime c.in_ok-jobs.jobs.items c.in_ok-passes.passes.items c.in_ok-passes.cores.items jobs c.in_ok-passes.ensures
    c.close.result count c.close.ensures.number c.close.ensures.law c.close.ensures.unmade c.close.ensures.own c.close.ensures.begins in
    left.once

pub returns-clause-ended : goal.returns-clause-ended
returns-clause-ended g c =
    let passes : c.in_ok-runtime.passes.items ≡ new_passes c.in_ok-runtime.runtime (length c.args.script.now.threads) =
    c.in_ok-runtime.ensures.passes ∙ ap (new_passes c.in_ok-runtime.runtime) c.callers_of.ensures.value in
    let jobs = c.in_ok-jobs.ensures c.in_ok-runtime.runtime passes in
    let count = c.in_ok-runtime.ensures.callers ∙ c.callers_of.ensures.value in
    left_ended c.args.script.now.threads c.in_ok-runtime.runtime c.in_ok-jobs.jobs.items c.in_ok-passes.passes.items c.in_ok-passes.cores.items jobs c.in_ok-passes.ensures
    c.close.result count c.close.ensures.number c.close.ensures.law c.close.ensures.unmade c.close.ensures.own c.close.ensures.begins
