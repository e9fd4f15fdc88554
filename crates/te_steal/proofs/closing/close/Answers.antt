use Rattle.std.proofs.Common.{List, map, subst}
use Rattle.crossbeam_deque.specs.Handles.{worker_view}
use Rattle.te_steal.specs.Relays.{ThiefOf, took_by}
use Rattle.te_steal.specs.Accounts.{taking, absorbing_all, AreAllTaken}
use Rattle.te_steal.proofs.RelaysClosed.{counted, thieves_in_order, left_in_order}
use Rattle.te_steal.proofs.closing.close.Goals as goal

pub returns-clause-counts : goal.returns-clause-counts
returns-clause-counts c =
    let v = worker_view c.owner.inside.worker in
    let all = subst (λ (l : List ThiefOf). AreAllTaken (taking (absorbing_all v (map took_by l)) c.in_ok-left.left.items)) c.into_vec.ensures
    (subst (λ w. AreAllTaken (taking w c.in_ok-left.left.items)) c.absorb_all.ensures.absorbed c.in_ok-left.ensures) in
    rw c.from.ensures (rw (← c.owner.view_is) (counted v c.args.thieves c.in_ok-left.left.items c.owner.invariant.absorbed all))

pub returns-clause-owner : goal.returns-clause-owner
returns-clause-owner c = rw (← c.owner.view_is) c.owner.invariant.order

pub returns-clause-thieves : goal.returns-clause-thieves
returns-clause-thieves c =
    let v = worker_view c.owner.inside.worker in
    let all = subst (λ (l : List ThiefOf). AreAllTaken (taking (absorbing_all v (map took_by l)) c.in_ok-left.left.items)) c.into_vec.ensures
    (subst (λ w. AreAllTaken (taking w c.in_ok-left.left.items)) c.absorb_all.ensures.absorbed c.in_ok-left.ensures) in
    rw (← c.owner.view_is) (thieves_in_order v c.args.thieves c.in_ok-left.left.items c.owner.invariant.absorbed all)

pub returns-clause-left : goal.returns-clause-left
returns-clause-left c =
    let v = worker_view c.owner.inside.worker in
    let all = subst (λ (l : List ThiefOf). AreAllTaken (taking (absorbing_all v (map took_by l)) c.in_ok-left.left.items)) c.into_vec.ensures
    (subst (λ w. AreAllTaken (taking w c.in_ok-left.left.items)) c.absorb_all.ensures.absorbed c.in_ok-left.ensures) in
    rw c.from.ensures (rw (← c.owner.view_is) (left_in_order v c.args.thieves c.in_ok-left.left.items c.owner.invariant.absorbed all))
