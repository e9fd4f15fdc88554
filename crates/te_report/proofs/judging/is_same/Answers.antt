use Rattle.std.proofs.Common.{sym, ◌∙◌}
use Rattle.te_terms.specs.Sameness.{Decides-same_value}
use Rattle.te_report.proofs.judging.is_same.Goals as goal

pub returns : goal.returns
returns c =
    let d = Decides-same_value c.args.value.now c.args.other.now in
    (λ so. d.0 (sym c.eq.ensures ∙ so), λ same. c.eq.ensures ∙ d.1 same)
