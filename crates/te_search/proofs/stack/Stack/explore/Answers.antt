use Rattle.std.proofs.Common.{◌≡◌, ◌∙◌, ap, sym, subst, refl, Err}
use Rattle.te_search.specs.declared.finding.SearchFault.TheVariants as faults
use Rattle.te_search.specs.Works.{IsSpentAt, SettlesSo}
use Rattle.te_search.specs.Stacks.{EventsAreAmong}
use Rattle.te_terms.specs.Joint.{as_group}
use Rattle.te_search.proofs.SearchEnds.{used_up, spent_same}
use Rattle.te_search.proofs.StacksMove.{keeps_levels, settled_stack}
use Rattle.te_search.proofs.stack.Stack.explore.Goals as goal

pub returns-in-Ok-None-clause-stack : goal.returns-in-Ok-None-clause-stack
returns-in-Ok-None-clause-stack c = settled_stack c.args.self.now _ c.requires.exploring refl refl refl c.in-Ok-None.ensures.keeps
    (subst (SettlesSo c.settle.new.self c.as_slice.result.now) c.in-Ok-None.field-0-is c.in-Ok-None.ensures.ok).0
    (subst (SettlesSo c.settle.new.self c.as_slice.result.now) c.in-Ok-None.field-0-is c.in-Ok-None.ensures.ok).1

pub take-requires-clause-levels : goal.take-requires-clause-levels
take-requires-clause-levels c = keeps_levels c.args.self.now _ c.requires.exploring.levels refl refl refl c.in-Ok-Some.ensures.keeps

pub cut-requires-clause-levels : goal.cut-requires-clause-levels
cut-requires-clause-levels c = keeps_levels c.args.self.now _ c.requires.exploring.levels refl refl refl c.in-Err-Spent.ensures.keeps

pub cut-requires-in-Err-Memory-clause-levels : goal.cut-requires-in-Err-Memory-clause-levels
cut-requires-in-Err-Memory-clause-levels c = keeps_levels c.args.self.now _ c.requires.exploring.levels refl refl refl c.in-Err-Memory.ensures.keeps

pub returns-in-Err-Spent-clause-spent : goal.returns-in-Err-Spent-clause-spent
returns-in-Err-Spent-clause-spent c paths groups e =
    let k = c.in-Err-Spent.ensures.keeps in
    spent_same c.args.self.now.parked c.args.budget _ _ paths groups (let f : c.spent-spent.result ≡ faults.Spent paths groups = cc in sym c.spent-spent.ensures ∙ f)
    (used_up c.args.self.now.parked c.settle.new.self c.args.budget c.requires.exploring.levels.rise
    (subst (λ g. EventsAreAmong g (as_group c.args.self.now.parked)) (sym k.events) c.requires.exploring.levels.among)
    (subst (λ g. IsSpentAt c.settle.new.self g c.args.budget) (sym k.events) (c.in-Err-Spent.ensures.spent (ap Err c.in-Err-Spent.field-0-is))))
