use Rattle.std.proofs.Common.{subst}
use Rattle.te_lock.specs.Gathered.{HasAllOf}
use Rattle.te_lock.proofs.Gathering.{has_own}
use Rattle.te_lock.proofs.closing.seat_of.Goals as goal

pub returns-clause-all : goal.returns-clause-all
returns-clause-all g c =
    let seat = c.pass.inside.seat in
    subst (HasAllOf g.V.Kept.author seat.me.0) c.pass.view_is (has_own g.V.Kept.author seat.table_id c.pass.inside.caller seat.me.0 c.pass.invariant.role)
