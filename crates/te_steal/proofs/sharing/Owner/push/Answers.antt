use Rattle.std.proofs.Common.{◌+◌, ◌≤◌, [], ◌∷◌, length, ap, sym, subst, ◌∙◌, arith, length-append}
use Rattle.crossbeam_deque.specs.Handles.{worker_view}
use Rattle.te_steal.specs.Relays.{IsInOrderOf, OwnerOf}
use Rattle.te_steal.proofs.OrderKept.{behind_all}
use Rattle.te_steal.proofs.RuleKept.{pushes}
use Rattle.te_steal.proofs.sharing.Owner.push.Goals as goal

pub push_as-requires-clause-pushes : goal.push_as-requires-clause-pushes
push_as-requires-clause-pushes c = pushes _ _ _ c.self.invariant.owns

pub invariant_of-self : goal.invariant_of-self
invariant_of-self c =
    let v = worker_view c.self.inside.worker in
    let told = c.in-Ok.ensures.rule in
    let same = c.in-Ok.ensures.same in
    let was = c.self.invariant in
    let count = ap (λ w. length w.pushed) told.0 ∙ length-append v.pushed (c.args.n ∷ []) in
    let seen = c.self.view_is in
    let room : length v.pushed + 1 ≤ c.self.inside.most =
    omega (arith, ap (λ (o : OwnerOf). length o.pushed) seen, ap (λ (o : OwnerOf). o.most) seen, c.requires) in record {
      fifo = same.1 ∙ was.fifo;
      index = omega (arith, told.1, was.index);
      room = omega (arith, same.3, was.room);
      count = omega (arith, count, was.count);
      most_pushed = omega (arith, room, was.count);
      few = was.few;
      owns = ap (λ w. w.owns) told.0 ∙ was.owns;
      steals = ap (λ w. w.steals) told.0 ∙ was.steals;
      absorbed = ap (λ w. w.absorbed) told.0 ∙ was.absorbed;
      order = subst (λ w. IsInOrderOf w.took w.pushed) (sym told.0) (behind_all v.took v.pushed (c.args.n ∷ []) was.order);
    }
