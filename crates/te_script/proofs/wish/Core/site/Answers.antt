use Rattle.std.proofs.Common.{◌≡◌, ◌+◌, ◌∷◌, suc, map, drop, length, Some, None, ◌∙◌, ap, sym, subst, refl, arith, add-one}
use Rattle.te_script.specs.Wishes.{site_at, site_of}
use Rattle.te_script.specs.Cores.{At, next_at, doing_of, steps_left_at, pass_of, IsWaiting}
use Rattle.te_script.proofs.CoreMoves.{waits_itself}
use Rattle.te_script.proofs.StepsLeft.{left_sync, waits_at, waits_within}
use Rattle.te_script.proofs.WantsTold.{waiting_site}
use Rattle.te_script.proofs.WishReached.{site_after}
use Rattle.te_script.proofs.wish.Core.site.Goals as goal
use Rattle.te_script.proofs.wish.Core.site.Goals.{in-Some, in-None}

pub overflow_cast-result : goal.overflow_cast-result
overflow_cast-result c = omega (arith, c.self.invariant.at.within, c.self.invariant.short)

pub overflow_add-result : goal.overflow_add-result
overflow_add-result c = omega (arith, c.self.invariant.at.within, c.self.invariant.short)

pub returns-clause-stand : goal.returns-clause-stand
returns-clause-stand c =
    let waits : IsWaiting (next_at c.self.inside.raised c.self.inside.regs (steps_left_at c.self.inside.spot c.self.inside.text.value.statements)) = subst
    (λ (a : At). IsWaiting a.stand.next) (sym c.self.view_is) c.requires in
    let told = waiting_site c.self.inside.raised c.self.inside.regs c.self.inside.spot c.self.inside.text.value.statements c.self.invariant.at waits in
    let pass : c.match-self.pass ≡ pass_of c.self.inside.spot.round = elim c.match-self.branch [ in-Some w ↦ w.pass-is ∙ rw w.in-Some.is refl | in-None w ↦ w.pass-is ∙ rw w.in-None.is refl ] in
    rw (pass, add-one) (subst (λ (a : At). site_of (doing_of a.stand.next) ≡ Some (site_at (suc c.self.inside.spot.place) (pass_of c.self.inside.spot.round))) c.self.view_is told)

pub returns-clause-after : goal.returns-clause-after
returns-clause-after c = λ so_far is. sym (site_after c.args.self.now.thread so_far) ∙ ap (λ (a : At). site_of (doing_of a.stand.next)) (sym is) ∙ returns-clause-stand c
