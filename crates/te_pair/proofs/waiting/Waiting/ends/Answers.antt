use Rattle.std.proofs.Common.{◌∙◌, sym, subst, nat_eq}
use Rattle.std.specs.List.{IsDistinct}
use Rattle.te_pair.specs.Ends.{is_at}
use Rattle.te_pair.proofs.PartnersFound.{placed_once}
use Rattle.te_pair.proofs.waiting.Waiting.ends.Goals as goal

pub returns-clause-once : goal.returns-clause-once
returns-clause-once c = subst (IsDistinct nat_eq) (sym (c.at.ensures
    ∙ c.self.invariant.each c.args.channel c.args.sends)) (placed_once
    (is_at c.args.channel c.args.sends) c.self.inside.kept.items c.self.invariant.once)
