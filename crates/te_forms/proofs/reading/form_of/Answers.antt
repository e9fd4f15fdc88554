use Rattle.std.proofs.Common.{List, ap, sym, ◌∙◌}
use Rattle.te_terms.specs.declared.code.Node.{Node}
use Rattle.te_forms.specs.Reading.{replaced_under, form_in}
use Rattle.te_forms.proofs.reading.form_of.Goals as goal

pub returns : goal.returns
returns c =
    ap (form_in c.args.ring.now)
    (c.parts-root.ensures.term_is ∙ ap (λ (nodes : List Node). replaced_under nodes c.parts-root.result.2.now 0 c.parts-root.result.1) (sym c.deref.ensures))
    ∙ c.form_under.ensures
