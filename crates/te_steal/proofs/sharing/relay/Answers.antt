use Rattle.std.proofs.Common.{ap, ◌∙◌, sym, arith, subst, length}
use Rattle.crossbeam_deque.specs.Handles.{IsPassOf}
use Rattle.te_steal.specs.Accounts.{thief_with}
use Rattle.te_steal.specs.Relays.{IsInOrderOf}
use Rattle.te_steal.proofs.RuleKept.{begins, forks}
use Rattle.te_steal.proofs.sharing.relay.Goals as goal

pub fifo_as-requires : goal.fifo_as-requires
fifo_as-requires c = begins

pub another-pass-requires : goal.another-pass-requires
another-pass-requires c = forks _ _ (ap (λ v. v.owns) c.thieves.invariant.3)

pub invariant_of-push : goal.invariant_of-push
invariant_of-push c =
    let knows = c.another-pass.ensures.rule.1 in record {
      of_deque = subst (λ d. IsPassOf d c.another-pass.result) (sym c.in_ok-stealer.ensures.0) c.another-pass.ensures.same.2;
      fifo = c.in_ok-stealer.ensures.1 ∙ c.thieves.invariant.0;
      steals = knows ∙ ap thief_with (sym (ap (λ v. v.took) knows));
    }

pub invariant_of-owner : goal.invariant_of-owner
invariant_of-owner c =
    let is = c.thieves.invariant in
    let few = c.requires in record {
      fifo = is.0;
      index = omega (arith, is.1);
      room = is.2;
      count = ap (λ v. length v.pushed) (sym is.3);
      most_pushed = omega arith;
      few = omega (arith, few);
      owns = ap (λ v. v.owns) is.3;
      steals = ap (λ v. v.steals) is.3;
      absorbed = ap (λ v. v.absorbed) is.3;
      order = subst (λ v. IsInOrderOf v.took v.pushed) (sym is.3) tt;
    }
