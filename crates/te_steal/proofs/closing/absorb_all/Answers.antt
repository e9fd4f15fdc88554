use Rattle.std.proofs.Common.{ap, ◌∙◌}
use Rattle.te_steal.proofs.RuleKept.{merges}
use Rattle.te_steal.proofs.closing.absorb_all.Goals as goal

pub absorb-requires-clause-rule : goal.absorb-requires-clause-rule
absorb-requires-clause-rule c = merges _ _ _ _ (ap (λ v. v.owns) c.thieves.invariant.3 ∙ c.requires.owns) c.thief.invariant.steals
