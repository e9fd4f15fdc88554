use Rattle.std.proofs.Common.{◌≡◌, ◌∷◌, [], ◌∙◌, ap, sym, subst, true, false, Result, Err, slice_get}
use Rattle.std.proofs.lemmas.Result.{err_from_is_err_and}
use Rattle.te_trail.specs.Paths.{branched}
use Rattle.te_search.specs.declared.assembly.Refused.{Refused}
use Rattle.te_search.specs.declared.assembly.Refused.TheVariants as refusals
use Rattle.te_search.specs.Works.{IsSpentAt, IsWork, WorkGrows}
use Rattle.te_terms.proofs.Lists.{get_low, get_some, get-longer}
use Rattle.te_search.proofs.Working.{branch_done, branch_unmade, branch_left, choice_stays, spent_gained, spent_here, on_ok, gains_both}
use Rattle.te_search.proofs.Ending.{gains_grow}
use Rattle.te_search.proofs.WorkKept.{keeps_both}
use Rattle.te_search.proofs.work.Work.branch.Goals as goal

pub branch_one-requires-clause-unmade : goal.branch_one-requires-clause-unmade
branch_one-requires-clause-unmade c = branch_unmade c.args.self.now c.args.p true c.requires.path c.requires.work

pub branch_one-requires-2-clause-path : goal.branch_one-requires-2-clause-path
branch_one-requires-2-clause-path c =
    let x = get_some c.args.self.now.store.paths c.args.p c.requires.path in
    let g = c.in_ok-branch_one.ensures.ok x.0 x.1 in
    get_low c.branch_one.new.self.store.paths x.0 c.args.p (ap (λ q. slice_get q c.args.p) g.paths ∙ get-longer c.args.self.now.store.paths (branched x.0 true ∷ []) c.args.p x.0 x.1)

pub branch_one-requires-2-clause-stands : goal.branch_one-requires-2-clause-stands
branch_one-requires-2-clause-stands c =
    let x = get_some c.args.self.now.store.paths c.args.p c.requires.path in
    choice_stays c.args.self.now c.branch_one.new.self c.args.p (branched x.0 true ∷ []) c.requires.path c.requires.stands (c.in_ok-branch_one.ensures.ok x.0 x.1)

pub branch_one-requires-2-clause-unmade : goal.branch_one-requires-2-clause-unmade
branch_one-requires-2-clause-unmade c =
    let x = get_some c.args.self.now.store.paths c.args.p c.requires.path in
    branch_left c.args.self.now c.branch_one.new.self c.args.p x.0 x.1 c.requires.work (c.in_ok-branch_one.ensures.ok x.0 x.1)

pub branch_one-requires-2-clause-low : goal.branch_one-requires-2-clause-low
branch_one-requires-2-clause-low c = let x = get_some c.args.self.now.store.paths c.args.p c.requires.path in (c.in_ok-branch_one.ensures.ok x.0 x.1).pending_low

is_spent : {A : Type 0} (r : Result A Refused) (e fault : Refused) → r ≡ Err e → e ≡ fault → r ≡ Err refusals.Spent → fault ≡ refusals.Spent
is_spent r e fault a b h = cc

pub returns-in_err-branch_one-clause-spent : goal.returns-in_err-branch_one-clause-spent
returns-in_err-branch_one-clause-spent c h =
    let p = err_from_is_err_and c.from_residual.result c.from_residual.ensures.1 in
    let s = c.in_err-branch_one.ensures.spent (ap Err (is_spent c.from_residual.result p.0 c.in_err-branch_one.field-0.0 p.1 p.2 h)) in
    subst (λ w. IsSpentAt w c.args.self.now.store.events c.args.budget) (sym s.0) (spent_here c.args.self.now c.args.p c.args.budget c.requires.work s.1)

pub returns-clause-spent : goal.returns-clause-spent
returns-clause-spent c h =
    let x = get_some c.args.self.now.store.paths c.args.p c.requires.path in
    let s = c.branch_one-2.ensures.spent h in
    subst (λ w. IsSpentAt w c.args.self.now.store.events c.args.budget) (sym s.0)
    (spent_gained c.args.self.now c.branch_one.new.self c.args.p (branched x.0 true ∷ []) c.args.budget c.requires.work (c.in_ok-branch_one.ensures.ok x.0 x.1) s.1)

pub returns-clause-ok : goal.returns-clause-ok
returns-clause-ok c =
    let x = get_some c.args.self.now.store.paths c.args.p c.requires.path in
    let g = c.in_ok-branch_one.ensures.ok x.0 x.1 in
    on_ok _ (IsWork c.branch_one-2.new.self) c.branch_one-2.result
    (λ more. branch_done c.args.self.now c.branch_one.new.self c.branch_one-2.new.self c.args.p x.0 x.1 c.requires.work c.requires.stands g
    (more x.0 (ap (λ q. slice_get q c.args.p) g.paths ∙ get-longer c.args.self.now.store.paths (branched x.0 true ∷ []) c.args.p x.0 x.1))) c.branch_one-2.ensures.ok

pub returns-clause-events : goal.returns-clause-events
returns-clause-events c =
    let x = get_some c.args.self.now.store.paths c.args.p c.requires.path in
    let g = c.in_ok-branch_one.ensures.ok x.0 x.1 in
    on_ok _ (c.branch_one-2.new.self.store.events ≡ c.args.self.now.store.events) c.branch_one-2.result
    (λ more. (more x.0 (ap (λ q. slice_get q c.args.p) g.paths ∙ get-longer c.args.self.now.store.paths (branched x.0 true ∷ []) c.args.p x.0 x.1)).events
    ∙ g.events) c.branch_one-2.ensures.ok

pub returns-clause-grows : goal.returns-clause-grows
returns-clause-grows c =
    let x = get_some c.args.self.now.store.paths c.args.p c.requires.path in
    let g = c.in_ok-branch_one.ensures.ok x.0 x.1 in
    on_ok _ (WorkGrows c.args.self.now c.branch_one-2.new.self) c.branch_one-2.result
    (λ more. gains_grow c.args.self.now c.branch_one-2.new.self _
    (gains_both c.args.self.now c.branch_one.new.self c.branch_one-2.new.self (branched x.0 true ∷ []) (branched x.0 false ∷ []) g
    (more x.0 (ap (λ q. slice_get q c.args.p) g.paths ∙ get-longer c.args.self.now.store.paths (branched x.0 true ∷ []) c.args.p x.0 x.1)))) c.branch_one-2.ensures.ok

pub returns-clause-keeps : goal.returns-clause-keeps
returns-clause-keeps c = keeps_both c.args.self.now c.branch_one.new.self c.branch_one-2.new.self c.branch_one.ensures.keeps c.branch_one-2.ensures.keeps
