use Rattle.std.proofs.Common.{arith, ◌∙◌, ap, ltb}
use Rattle.std.specs.List.{filter}
use Rattle.te_search.proofs.EndsKept.{kept_ends, lower_look}
use Rattle.te_search.proofs.batched.Batched.lower_partners.Goals as goal

pub partners-requires-clause-path : goal.partners-requires-clause-path
partners-requires-clause-path c = omega (arith, c.requires.path, c.requires.batched.opened.last)

pub partners-requires-clause-ends : goal.partners-requires-clause-ends
partners-requires-clause-ends c = kept_ends c.args.self.now.work c.args.self.now.batched c.requires.batched.opened.kept
    c.requires.batched.opened.last

pub returns : goal.returns
returns c = lower_look c.args.self.now c.args.p c.in_ok-found.found c.in_ok-others.others c.requires.stands
    c.in_ok-found.ensures.rising c.in_ok-found.ensures.exact
    (c.in_ok-others.ensures ∙ ap (filter (λ q. ltb q c.args.p)) c.as_slice.ensures)
