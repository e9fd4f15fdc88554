use Rattle.std.proofs.Common.{◌∷◌, []}
use Rattle.te_history.specs.declared.entry.Entry.TheVariants as entries
use Rattle.te_runtime.specs.Refusals.{RefusesOffer}
use Rattle.te_tests_watch.proofs.PassesGrow.{ticket_grows}
use Rattle.te_tests_watch.proofs.calls.offer.Goals as goal

pub returns-clause-grows : goal.returns-clause-grows
returns-clause-grows c =
    ticket_grows c.args.pass.now c.offer.new.pass RefusesOffer (λ ticket. entries.Post c.offer.new.pass.caller ticket c.args.event.now ∷ []) c.offer.result c.offer.ensures.ok
    c.offer.ensures.refused
