use Rattle.std.proofs.Common.{◌<◌, sym, subst}
use Rattle.te_search.specs.Batches.{Batches}
use Rattle.te_search.proofs.SearchSeen.{seen_as, held}
use Rattle.te_search.proofs.batches.Search.look.Goals as goal

pub unreachable-requires : goal.unreachable-requires
unreachable-requires c = held c.self.inside.batched c.args.self.now c.in-None.is c.self.view_is c.requires.goes_on

pub look-requires-clause-path : goal.look-requires-clause-path
look-requires-clause-path c = subst (λ (s : Batches). c.args.p < s.batched)
    (sym (seen_as c.self.inside.batched c.in-Some.batched c.args.self.now c.in-Some.is c.self.view_is)) c.requires.before
