use Rattle.std.proofs.Common.{◌<◌, ap, subst}
use Rattle.std.proofs.lemmas.List.Elements.{All-weaker}
use mathlib.Core.List.{IsPrefix}
use Rattle.te_lock.specs.Gathered.{HasAllOf}
use Rattle.te_lock.proofs.Gathering.{all_stand, some_pass}
use Rattle.te_lock.proofs.turn.Turn.close.Goals as goal

pub gather-seat-requires-clause-some : goal.gather-seat-requires-clause-some
gather-seat-requires-clause-some g c =
    let callers = ap (λ l. l.callers) c.self.view_is in
    let most = c.self.invariant.2 in
    some_pass c.args.passes.items (c.requires.everyone 0 (subst (λ n. 0 < n) callers most))

pub take_last-requires-clause-everyone : goal.take_last-requires-clause-everyone
take_last-requires-clause-everyone g c =
    let callers = ap (λ l. l.callers) c.self.view_is in
    λ k below. all_stand g.V.Kept.author c.gather-seat.result.me.0 c.args.passes.items c.gather-seat.ensures.all k (c.requires.everyone k (subst (λ n. k < n) callers below))

pub returns-clause-begins : goal.returns-clause-begins
returns-clause-begins g c =
    let list = g.V.Kept.entries c.take_last.result in
    All-weaker
    (λ p. HasAllOf g.V.Kept.author c.gather-seat.result.me.0 p)
    (λ p. IsPrefix p.read list)
    (λ p h. (h.knows list c.take_last.ensures.sees).read)
    c.args.passes.items
    c.gather-seat.ensures.all
