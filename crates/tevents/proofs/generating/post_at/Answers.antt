use Rattle.std.proofs.Common.{◌∙◌, ap, sym, ℕ, ◌+◌, take}
use Rattle.tevents.specs.Summaries.{posts_in}
use Rattle.tevents.proofs.EntriesCounted.{posts_next}
use Rattle.tevents.proofs.generating.post_at.Goals as goal

pub returns-in-Some-clause-count : goal.returns-in-Some-clause-count
returns-in-Some-clause-count c =
    posts_next c.args.hist.now.entries c.args.at c.in-Some.entry.now (sym c.in-Some.ensures) ∙ ap (λ (n : ℕ). posts_in (take c.args.at c.args.hist.now.entries) + n) (sym c.post_of.ensures.count)
