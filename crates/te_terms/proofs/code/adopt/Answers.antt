use Rattle.std.proofs.Common.{sym, ap, ◌∙◌}
use Rattle.te_terms.specs.Kept.{listed, adopted}
use Rattle.te_terms.proofs.AdoptLemmas.{adopt_two}
use Rattle.te_terms.proofs.code.adopt.Goals as goal

pub returns-in-Some : goal.returns-in-Some
returns-in-Some c =
    let within = c.requires (c.in-Some.a, c.in-Some.b) c.in-Some.is in
    adopt_two c.in-Some.a c.in-Some.b c.args.marks.now.items c.index_mut.result.now c.index_mut-in-Some.result.now c.index_mut.ensures.value
    c.index_mut-in-Some.ensures.value within.0 within.1 ∙ ap (λ o. adopted (listed o) c.args.marks.now.items) (sym c.in-Some.is)
