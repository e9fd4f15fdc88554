use Rattle.std.proofs.Common.{◌++◌, ◌∷◌, [], sym, subst}
use Rattle.te_search.specs.Assemblies.{AssemblyStand}
use Rattle.te_search.specs.Finals.{numbers_of}
use Rattle.te_search.specs.Works.{IsWithinBudget}
use Rattle.te_search.specs.Batching.{HasTried, EndsWith}
use Rattle.te_search.proofs.PathsEnd.{spent_trying}
use Rattle.te_search.proofs.BatchSteps.{few_of, lowest, on_ok_found, end_stand, ends_with}
use Rattle.te_search.proofs.batched.Batched.end.Goals as goal

pub try_from-requires-clause-stand : goal.try_from-requires-clause-stand
try_from-requires-clause-stand c =
    let x = lowest c.args.self.now c.requires.batched c.requires.some in
    subst (λ t. AssemblyStand c.args.self.now.work.store.events c.args.self.now.work.store.paths t
    (numbers_of c.args.self.now.work.finals ++ (c.args.self.now.applied ∷ []))) (sym c.as_slice.ensures)
    (end_stand c.args.self.now x.0 c.requires.batched x.1 (c.requires.at_end x.0 x.1))

pub try_from-requires-clause-told : goal.try_from-requires-clause-told
try_from-requires-clause-told c = c.requires.batched.opened.work.finals_told

pub returns-clause-ok : goal.returns-clause-ok
returns-clause-ok c =
    let x = lowest c.args.self.now c.requires.batched c.requires.some in
    on_ok_found (HasTried c.args.self.now.work c.try_from.new.self c.args.self.now.applied c.as_slice.result.now)
    (EndsWith c.args.self.now _) (IsWithinBudget c.try_from.new.self c.args.self.now.budget) c.try_from.result
    (λ found h w. ends_with c.args.self.now _ x.0 found c.requires.batched c.requires.some x.1
    (c.requires.at_end x.0 x.1)
    (subst (λ t. HasTried c.args.self.now.work c.try_from.new.self c.args.self.now.applied t found) c.as_slice.ensures
    h) w) c.try_from.ensures.ok c.try_from.ensures.within

pub returns-clause-spent : goal.returns-clause-spent
returns-clause-spent c h =
    let x = lowest c.args.self.now c.requires.batched c.requires.some in
    spent_trying c.args.self.now.work c.try_from.new.self c.args.self.now.applied c.args.self.now.batched x.0
    c.args.self.now.threads c.args.self.now.budget c.requires.batched.budget.1
    (few_of c.args.self.now c.requires.batched) c.requires.batched.opened x.1
    (c.requires.at_end x.0 x.1) c.requires.batched.threads (c.try_from.ensures.spent h)
