use Rattle.std.proofs.Common.{arith, ◌≡◌, ◌<◌, ◌∷◌, [], ◌∙◌, ap, sym, subst, true, false, length, Err}
use Rattle.std.proofs.Common.{slice_get, Some}
use Rattle.std.proofs.lemmas.Result.{err_from_is_err_and}
use Rattle.te_trail.specs.Paths.{Path, branched}
use Rattle.te_search.specs.Works.{IsWithinBudget, IsSpentAt, Gains}
use Rattle.te_search.specs.Batching.{BatchGoesOn}
use Rattle.te_terms.proofs.Lists.{get_low}
use Rattle.te_terms.proofs.Lists.{get_some}
use Rattle.te_search.proofs.Working.{choice_stays}
use Rattle.te_terms.proofs.Lists.{get-longer}
use Rattle.te_search.proofs.GoneOn.{fork_unmade, fork_right, on_both}
use Rattle.te_search.proofs.PathsEnd.{spent_first, spent_then}
use Rattle.te_search.proofs.BatchSteps.{lowest, is_spent, forks}
use Rattle.te_search.proofs.batched.Batched.fork.Goals as goal

pub branch_one-requires-clause-path : goal.branch_one-requires-clause-path
branch_one-requires-clause-path c = omega (arith, c.requires.some, c.requires.batched.opened.last)

pub branch_one-requires-clause-unmade : goal.branch_one-requires-clause-unmade
branch_one-requires-clause-unmade c = fork_unmade c.args.self.now.work c.args.self.now.applied c.args.self.now.batched
    true c.requires.batched.opened (omega (arith, c.requires.batched.within, c.requires.batched.budget.1))
    (omega (arith, c.requires.some, c.requires.batched.opened.last))

pub branch_one-requires-2-clause-path : goal.branch_one-requires-2-clause-path
branch_one-requires-2-clause-path c =
    let x = get_some c.args.self.now.work.store.paths c.args.self.now.applied
    (omega (arith, c.requires.some, c.requires.batched.opened.last)) in
    let g = c.in_ok-branch_one.ensures.ok x.0 x.1 in
    get_low c.branch_one.new.self.store.paths x.0 c.args.self.now.applied
    (ap (λ q. slice_get q c.args.self.now.applied) g.paths
    ∙ get-longer c.args.self.now.work.store.paths (branched x.0 true ∷ []) c.args.self.now.applied x.0 x.1)

pub branch_one-requires-2-clause-stands : goal.branch_one-requires-2-clause-stands
branch_one-requires-2-clause-stands c =
    let low : c.args.self.now.applied < length c.args.self.now.work.store.paths = omega
    (arith, c.requires.some, c.requires.batched.opened.last) in
    let x = get_some c.args.self.now.work.store.paths c.args.self.now.applied low in
    choice_stays c.args.self.now.work c.branch_one.new.self c.args.self.now.applied
    (branched x.0 true ∷ []) low c.requires.stands (c.in_ok-branch_one.ensures.ok x.0 x.1)

pub branch_one-requires-2-clause-unmade : goal.branch_one-requires-2-clause-unmade
branch_one-requires-2-clause-unmade c =
    let x = get_some c.args.self.now.work.store.paths c.args.self.now.applied
    (omega (arith, c.requires.some, c.requires.batched.opened.last)) in
    fork_right c.args.self.now.work c.branch_one.new.self c.args.self.now.applied c.args.self.now.batched x.0
    c.requires.batched.opened (omega (arith, c.in_ok-branch_one.ensures.within, c.requires.batched.budget.1)) x.1
    (c.in_ok-branch_one.ensures.ok x.0 x.1)

pub branch_one-requires-2-clause-low : goal.branch_one-requires-2-clause-low
branch_one-requires-2-clause-low c =
    let x = get_some c.args.self.now.work.store.paths c.args.self.now.applied
    (omega (arith, c.requires.some, c.requires.batched.opened.last)) in
    (c.in_ok-branch_one.ensures.ok x.0 x.1).pending_low

pub returns-clause-ok : goal.returns-clause-ok
returns-clause-ok c = on_both
    ((y : Path) → slice_get c.branch_one.new.self.store.paths c.args.self.now.applied ≡ Some y
    → Gains c.branch_one.new.self c.branch_one-2.new.self (branched y false ∷ []))
    (IsWithinBudget c.branch_one-2.new.self c.args.self.now.budget)
    ((x : Path) → slice_get c.args.self.now.work.store.paths c.args.self.now.applied ≡ Some x
    → BatchGoesOn c.args.self.now _ (branched x true ∷ (branched x false ∷ []))) c.branch_one-2.result
    (λ more within x ex. (let a = c.in_ok-branch_one.ensures.ok x ex in
    forks c.args.self.now _ c.branch_one.new.self x c.requires.batched c.requires.some ex c.requires.stands a
    (more x (ap (λ q. slice_get q c.args.self.now.applied) a.paths
    ∙ get-longer c.args.self.now.work.store.paths (branched x true ∷ []) c.args.self.now.applied x ex)) within))
    c.branch_one-2.ensures.ok c.branch_one-2.ensures.within

pub returns-in_err-branch_one-clause-spent : goal.returns-in_err-branch_one-clause-spent
returns-in_err-branch_one-clause-spent c h =
    let x = lowest c.args.self.now c.requires.batched c.requires.some in
    let p = err_from_is_err_and c.from_residual.result c.from_residual.ensures.1 in
    let s = c.in_err-branch_one.ensures.spent
    (ap Err (is_spent c.from_residual.result p.0 c.in_err-branch_one.field-0.0 p.1 p.2 h)) in
    subst (λ w. IsSpentAt w c.args.self.now.work.store.events c.args.self.now.budget) (sym s.0)
    (spent_first c.args.self.now.work c.args.self.now.applied c.args.self.now.batched x.0 c.args.self.now.budget
    c.requires.batched.budget.1 c.requires.batched.opened x.1 s.1)

pub returns-clause-spent : goal.returns-clause-spent
returns-clause-spent c h =
    let x = get_some c.args.self.now.work.store.paths c.args.self.now.applied
    (omega (arith, c.requires.some, c.requires.batched.opened.last)) in
    let s = c.branch_one-2.ensures.spent h in
    subst (λ w. IsSpentAt w c.args.self.now.work.store.events c.args.self.now.budget) (sym s.0)
    (spent_then c.args.self.now.work c.branch_one.new.self c.args.self.now.applied c.args.self.now.batched x.0
    (branched x.0 true ∷ []) c.args.self.now.budget c.requires.batched.budget.1 c.requires.batched.opened x.1
    (c.in_ok-branch_one.ensures.ok x.0 x.1) s.1)
