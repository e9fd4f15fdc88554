use Rattle.std.proofs.Common.{sym, subst}
use Rattle.te_lock.specs.Gathered.{HasAllOf}
use Rattle.te_lock.proofs.Gathering.{has_still, has_more}
use Rattle.te_lock.proofs.closing.take_in.Goals as goal

pub returns-clause-keeps : goal.returns-clause-keeps
returns-clause-keeps g c =
    λ p h.
    subst
    (λ me. HasAllOf g.V.Kept.author me.0 p)
    (sym c.join.ensures.joined)
    (has_still g.V.Kept.author c.args.seat.now.me.0 c.seat_of-other.result.me.0 p h)

pub returns-clause-has : goal.returns-clause-has
returns-clause-has g c =
    subst
    (λ me. HasAllOf g.V.Kept.author me.0 c.args.pass)
    (sym c.join.ensures.joined)
    (has_more g.V.Kept.author c.args.seat.now.me.0 c.seat_of-other.result.me.0 c.args.pass c.seat_of-other.ensures.all)
