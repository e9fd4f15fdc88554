use Rattle.std.proofs.Common.{◌≡◌, All, sym, ap, ◌∙◌, subst, ⊎_elim}
use mathlib.Core.List.{IsPrefix}
use Rattle.te_lock.specs.Rule.{TakesTurn, FindsHeld}
use Rattle.te_lock.proofs.turn.Turn.try_turn.Goals as goal

pub returns-clause-begins_known : goal.returns-clause-begins_known
returns-clause-begins_known g c =
    let after = c.take_out.new.seat.me in
    ⊎_elim
    (λ (t : TakesTurn g.V.Kept.entries g.V.Kept.members g.V.Kept.author g.V.Kept.lawful c.pass.inside.seat.me c.ask-word.result c.ask-word.new.seat.me).
    let list = g.V.Kept.entries t.value in
    let read : after.0.read ≡ list = ap (λ me. me.0.read) c.take_out.ensures.emptied.1 ∙ ap (λ v. v.read) t.view in
    let known : All (λ l. IsPrefix l after.0.read) c.pass.inside.seat.me.0.known = subst (λ r. All (λ l. IsPrefix l r) c.pass.inside.seat.me.0.known) (sym read) t.sees.known in
    subst (λ p. All (λ l. IsPrefix l after.0.read) p.known) c.pass.view_is known)
    (λ (f : FindsHeld c.pass.inside.seat.me c.ask-word.result c.ask-word.new.seat.me). absurd (c.if-word-eq1.false f.0))
    c.ask-word.ensures.asked
