use Rattle.std.proofs.Common.{List, ◌+◌, sym, ap, subst, ◌∙◌}
use Rattle.te_terms.specs.declared.code.Node.{Node}
use Rattle.te_terms.specs.Terms.{registers_to}
use Rattle.te_terms.specs.Codes.{term_under}
use Rattle.te_terms.specs.Measures.{counts_of}
use Rattle.te_terms.specs.Limits.{IsWithinLimits}
use Rattle.te_terms.proofs.Measured.{weight-by_kind}
use Rattle.te_terms.proofs.SizeLemmas.{counts-replaced, limits_replaced}
use Rattle.te_terms.proofs.event.Event.counts.Goals as goal

pub returns-clause-value : goal.returns-clause-value
returns-clause-value c =
    c.counts.ensures.value ∙ ap (λ code. counts_of (term_under code c.self.inside.root)) c.deref.ensures ∙ sym
    (counts-replaced (registers_to c.self.inside.regs) (term_under c.self.inside.code.value c.self.inside.root)) ∙ ap counts_of c.self.view_is

pub returns-clause-sum : goal.returns-clause-sum
returns-clause-sum c = ap (λ counts. counts.choices + (counts.sends + counts.receives)) (returns-clause-value c) ∙ sym (weight-by_kind c.args.self.now)

pub returns-clause-limits : goal.returns-clause-limits
returns-clause-limits c =
    let P : List Node → Type 0 = λ code. IsWithinLimits (term_under code c.self.inside.root) in
    subst IsWithinLimits c.self.view_is (limits_replaced (registers_to c.self.inside.regs) (term_under c.self.inside.code.value c.self.inside.root) (subst P c.deref.ensures c.counts.ensures.limits))
