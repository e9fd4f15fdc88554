use Rattle.std.proofs.Common.{get_or}
use Rattle.te_steal.proofs.AllOfMany.{still_thieves}
use Rattle.te_steal.proofs.SameParties.{thief_of_same}
use Rattle.te_steal.proofs.stealing.stolen_looks.Goals as goal

pub gathered-requires-clause-of_relay : goal.gathered-requires-clause-of_relay
gathered-requires-clause-of_relay g c = λ k d low.
    let old = c.in_ok-owner.owner in
    let robbers = c.in_ok-robbers.robbers.items in
    let before = c.in_ok-robbers.ensures.of_relay old (λ j e within. (c.in_ok-owner.ensures.thieves j e within).0) in
    let told = c.join-robbers.ensures.first in
    thief_of_same old c.join-robbers.result.1.owner (get_or c.join-robbers.result.0.items k d).thief c.join-robbers.ensures.second.0
    (still_thieves old robbers c.join-robbers.result.0.items told.0 told.1.0 before k d low)
