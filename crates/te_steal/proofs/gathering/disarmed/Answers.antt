use Rattle.std.proofs.Common.{◌≡◌, [], ◌∷◌, ◌++◌, ◌&&◌, List, length, map, All, sym, ap, ◌∙◌, subst, arith, length-append}
use Rattle.std.specs.List.{concat}
use Rattle.std.proofs.lemmas.List.Elements.{All-push}
use Rattle.te_steal.specs.Relays.{IsThiefOf, ThiefOf, took_by}
use Rattle.te_steal.specs.Stolen.{AreLooksAt, IsRobber}
use Rattle.te_steal.specs.declared.robbing.Robber.{Robber}
use Rattle.te_steal.proofs.AllOfMany.{of_last, of_rest}
use Rattle.te_steal.proofs.LooksBrought.{both_took}
use Rattle.te_steal.proofs.gathering.disarmed.Goals as goal

pub robbers-preserved : goal.robbers-preserved
robbers-preserved c =
    let is = c.robbers.invariant in
    let robber = c.in-Some.robber in
    let popped = c.in-Some.ensures.items in
    let pushed = c.in_ok-push.ensures.ok in
    record {
      width = c.bring.ensures.count ∙ is.width;
      wide = of_rest (λ (r : Robber). length r.looks.items ≡ length c.args.looks.now) c.robbers.rest.items c.pop.new.self.items robber is.wide popped;
      count =
          let fewer = ap length popped ∙ length-append c.pop.new.self.items (robber ∷ []) in
          let more = ap length pushed ∙ length-append c.robbers.thieves (robber.thief ∷ []) in
          omega (arith, fewer, more, is.count);
      left_of_relay = λ owner each.
          of_rest (λ (r : Robber). IsThiefOf owner r.thief) c.robbers.rest.items c.pop.new.self.items robber (is.left_of_relay owner each) popped;
      of_relay = λ owner each.
          subst (All (IsThiefOf owner)) (sym pushed)
          (All-push (IsThiefOf owner) c.robbers.thieves robber.thief (is.of_relay owner each)
          (of_last (λ (r : Robber). IsThiefOf owner r.thief) c.robbers.rest.items c.pop.new.self.items robber (is.left_of_relay owner each) popped));
      left = λ s batch each. of_rest (IsRobber s batch) c.robbers.rest.items c.pop.new.self.items robber (is.left s batch each) popped;
      looks = λ s batch took are each.
          subst (λ whole. AreLooksAt s batch (took ++ concat (map took_by c.push.new.self)) c.bring.new.looks whole) (sym c.both.ensures)
          (subst (λ (l : List ThiefOf). AreLooksAt s batch (took ++ concat (map took_by l)) c.bring.new.looks (c.robbers.whole && robber.whole)) (sym pushed)
          (both_took s batch took c.robbers.thieves robber.thief c.robbers.looks robber.looks.items c.bring.new.looks c.robbers.whole robber.whole
          (is.looks s batch took are each) (of_last (IsRobber s batch) c.robbers.rest.items c.pop.new.self.items robber (is.left s batch each) popped)
          c.bring.ensures.count c.bring.ensures.brought));
    }
