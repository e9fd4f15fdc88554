use Rattle.std.proofs.Common.{subst}
use Rattle.te_search.specs.Assemblies.{joint, Numbers}
use Rattle.te_search.proofs.PastsJoined.{gathered_none, gathered_more}
use Rattle.te_search.proofs.certifying.take_in.Goals as goal

pub returns-in_default : goal.returns-in_default
returns-in_default c parked before ps p = gathered_none c.args.store.now.events ps _ parked c.args.parked.now _ _ _
    (subst (Numbers c.args.store.now.paths (joint ps c.args.parked.now.thread)) c.in_default.is (c.named.ensures.told c.args.store.now.paths ps p.names p.listed)) (before ps p)

pub returns : goal.returns
returns c parked before ps p =
    let n = subst (Numbers c.args.store.now.paths (joint ps c.args.parked.now.thread)) c.in-Some.is (c.named.ensures.told c.args.store.now.paths ps p.names p.listed) in
    let s = p.crew.team.states n.0 (p.all c.args.parked.now.thread n.0 n.2) in
    gathered_more c.args.store.now.events ps _ parked c.args.parked.now _ _ _ _ _ _ c.in_ok-choices.choices c.outcome-result.result n.0 s.0 n.2 s.1
    (c.outcome-result.ensures n.0 s.0 n.1 s.1) c.in_ok-choices.ensures c.in_ok-push.ensures.ok c.in_ok-push-2.ensures.items c.in_ok-push-3.ensures.ok (before ps p)
