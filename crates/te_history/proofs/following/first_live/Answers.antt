use Rattle.std.proofs.Common.{arith}
use Rattle.std.proofs.lemmas.Option.{slice_get_within}
use Rattle.te_history.specs.Histories.{now}
use Rattle.te_history.proofs.AfterEntry.{length-state}
use Rattle.te_history.proofs.Places.{all_by_places}
use Rattle.te_history.proofs.following.first_live.Goals as goal

pub returns-clause-none : goal.returns-clause-none
returns-clause-none c =
    all_by_places _ _ (λ k standing is.
    let low = slice_get_within (now c.args.hist.now).callers k standing is in
    let past = c.loop-t-test.false in
    let count = c.callers-callers.ensures.value in
    c.loop-t.invariant k standing (omega (arith, low, past, count, length-state c.args.hist.now.callers c.args.hist.now.entries)) is)
