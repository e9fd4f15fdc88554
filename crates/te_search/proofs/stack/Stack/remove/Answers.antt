use Rattle.std.proofs.Common.{◌∙◌, ap, sym, subst, refl}
use Rattle.te_search.specs.Findings.{HasThread, without}
use Rattle.te_search.proofs.ListsParked.{without_is}
use Rattle.te_search.proofs.StacksMove.{remove_stack}
use Rattle.te_search.proofs.stack.Stack.remove.Goals as goal

pub returns-clause-stack : goal.returns-clause-stack
returns-clause-stack c = remove_stack c.uproot.new.self _ c.args.thread c.uproot.ensures.stack c.uproot.ensures.gone
    (c.remove.ensures ∙ without_is c.uproot.new.self.parked c.args.thread c.in-Some.place c.in-Some.ensures) refl refl refl

pub returns-clause-parked : goal.returns-clause-parked
returns-clause-parked c = c.remove.ensures ∙ without_is c.uproot.new.self.parked c.args.thread c.in-Some.place c.in-Some.ensures
    ∙ ap (λ l. without c.args.thread l) c.uproot.ensures.parked

pub unreachable-requires : goal.unreachable-requires
unreachable-requires c = c.in-None.ensures (subst (λ l. HasThread l c.args.thread) (sym c.uproot.ensures.parked) c.requires.there)
