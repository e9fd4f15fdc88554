use Rattle.std.proofs.Common.{refl}
use Rattle.te_terms.proofs.Lists.{get_some}
use Rattle.te_search.proofs.WorkKept.{keeps_same}
use Rattle.te_search.proofs.work.Work.meet_other.Goals as goal

pub meet_with-requires-clause-ready : goal.meet_with-requires-clause-ready
meet_with-requires-clause-ready c =
    let x = get_some c.args.self.now.store.paths c.args.p c.requires.own in
    let y = get_some c.args.self.now.store.paths c.args.q c.requires.other in
    c.requires.ready x.0 y.0 x.1 y.1 ((c.agree.ensures.clocks x.0 y.0 x.1 y.1).0 c.if-not-agree.false)

pub returns-then-not-agree-clause-keeps : goal.returns-then-not-agree-clause-keeps
returns-then-not-agree-clause-keeps c = keeps_same _ _ refl refl refl refl
