use Rattle.std.proofs.Common.{◌++◌, List, ℕ, map, subst}
use Rattle.std.specs.List.{concat}
use Rattle.te_steal.specs.Relays.{took_by}
use Rattle.te_steal.specs.Stolen.{AreLooksAt}
use Rattle.te_steal.proofs.WholeLooks.{all_looked_at}
use Rattle.te_steal.proofs.gathering.wind_up.Goals as goal

pub close-requires-clause-one : goal.close-requires-clause-one
close-requires-clause-one c = c.in_ok-thieves.ensures.of_relay c.args.owner c.requires.of_relay

pub returns-clause-looks : goal.returns-clause-looks
returns-clause-looks c =
    let s = c.args.search.now in
    let batch = c.args.batch.now in
    let own = c.args.owner.took ++ concat (map took_by c.in_ok-thieves.thieves) in
    (c.look_at_left.ensures.looks own (c.in_ok-thieves.ensures.looks s batch c.args.owner.took c.requires.looks c.requires.robbers)).seen

pub returns-clause-whole : goal.returns-clause-whole
returns-clause-whole c = λ none.
    let s = c.args.search.now in
    let batch = c.args.batch.now in
    let own = c.args.owner.took ++ concat (map took_by c.in_ok-thieves.thieves) in
    let all = c.look_at_left.ensures.looks own (c.in_ok-thieves.ensures.looks s batch c.args.owner.took c.requires.looks c.requires.robbers) in
    all_looked_at s batch c.args.owner.pushed c.args.owner.took c.in_ok-left.left c.in_ok-thieves.thieves c.look_at_left.new.looks c.look_at_left.new.whole
    (subst (λ (l : List ℕ). AreLooksAt s batch (own ++ l) c.look_at_left.new.looks c.look_at_left.new.whole) c.as_slice.ensures all)
    none c.in_ok-left.ensures.counts c.requires.pushed
