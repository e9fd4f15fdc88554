use Rattle.std.proofs.Common.{◌∷◌, []}
use Rattle.te_history.specs.declared.entry.Entry.TheVariants as entries
use Rattle.te_runtime.specs.Refusals.{RefusesRecall}
use Rattle.te_tests_watch.proofs.PassesGrow.{ticket_grows}
use Rattle.te_tests_watch.proofs.calls.recall.Goals as goal

pub returns-clause-grows : goal.returns-clause-grows
returns-clause-grows c =
    ticket_grows c.args.pass.now c.recall.new.pass RefusesRecall (λ ticket. entries.Withdraw c.recall.new.pass.caller ticket ∷ []) c.recall.result c.recall.ensures.ok
    c.recall.ensures.refused
