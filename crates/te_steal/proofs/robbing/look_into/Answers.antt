use Rattle.std.proofs.Common.{rules, sym, subst, [], ◌∷◌, ◌++◌}
use Rattle.te_steal.specs.Stolen.{AreLooksAt}
use Rattle.te_steal.proofs.LooksTaken.{past_the_batch, one_seen}
use Rattle.te_steal.proofs.robbing.look_into.Goals as goal

pub returns-then-i-batch-clause-looks : goal.returns-then-i-batch-clause-looks
returns-then-i-batch-clause-looks c = λ took are.
    past_the_batch c.args.search.now c.args.batch.now took c.args.looks.now c.args.whole.now c.args.place (search rules) are

pub returns-in-Some-clause-looks : goal.returns-in-Some-clause-looks
returns-in-Some-clause-looks c = λ took are.
    subst (λ looks. AreLooksAt c.args.search.now c.args.batch.now (took ++ c.args.place ∷ []) looks c.args.whole.now) (sym c.put.ensures)
    (one_seen c.args.search.now c.args.batch.now took c.args.looks.now c.args.whole.now c.args.place c.in-Some.look (search rules) c.in-Some.ensures are)
