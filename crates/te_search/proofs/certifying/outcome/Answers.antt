use Rattle.te_terms.proofs.Lists.{get_some}
use Rattle.te_search.proofs.PastsJoined.{final_stop}
use Rattle.te_search.proofs.certifying.outcome.Goals as goal

pub unreachable-requires : goal.unreachable-requires
unreachable-requires c =
    let x = get_some c.args.store.now.paths c.args.p c.requires.path in
    final_stop c.args.store.now.events x.0 c.stop.result (c.requires.at_end x.0 x.1) (λ m stop st h. c.stop.ensures.only x.0 m stop x.1 st h) c.in_default.not-Done c.in_default.not-Raised
