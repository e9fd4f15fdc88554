use Rattle.std.proofs.Common.{◌≡◌, sym, ap, ◌∙◌, subst}
use Rattle.te_lock.specs.Entries.{longer}
use Rattle.te_lock.specs.Passes.{IsPassAt}
use Rattle.te_lock.specs.Rule.{Confirms}
use Rattle.te_lock.proofs.NoteTakenIn.{pass_meets, reads_longer, read_stays}
use Rattle.te_lock.proofs.turn.Turn.meet.Goals as goal

pub invariant_of-pass : goal.invariant_of-pass
invariant_of-pass g c =
    let same : c.note.inside.seat.me.0.callers ≡ c.pass.inside.seat.me.0.callers =
    ap (λ n. n.lock.callers) c.note.view_is ∙ ap (λ l. l.callers) c.requires.there ∙ sym (ap (λ l. l.callers) c.requires.here) ∙ sym (ap (λ p. p.lock.callers) c.pass.view_is) in
    subst
    (IsPassAt g.V.Kept.lawful c.pass.inside.caller)
    (sym (c.confirm.ensures.confirms.same ∙ c.join.ensures.joined))
    (pass_meets g.V.Kept.lawful c.pass.inside.caller c.pass.inside.seat.me c.note.inside.seat.me c.pass.invariant c.note.invariant same)

pub returns-clause-read : goal.returns-clause-read
returns-clause-read g c =
    let h = subst (λ me. Confirms me c.confirm.new.seat.me) c.join.ensures.joined c.confirm.ensures.confirms in
    reads_longer c.pass.inside.seat.me c.note.inside.seat.me c.confirm.new.seat.me h
    ∙ ap (λ r. longer r c.note.inside.seat.me.0.read) (ap (λ p. p.read) c.pass.view_is)
    ∙ ap (λ r. longer c.args.pass.now.read r) (ap (λ n. n.read) c.note.view_is)

pub returns-clause-read_stays : goal.returns-clause-read_stays
returns-clause-read_stays g c =
    λ turn.
    let h = subst (λ me. Confirms me c.confirm.new.seat.me) c.join.ensures.joined c.confirm.ensures.confirms in
    read_stays c.pass.inside.seat.me c.note.inside.seat.me c.confirm.new.seat.me h (ap (λ p. p.has_turn) c.pass.view_is ∙ turn) ∙ ap (λ p. p.read) c.pass.view_is
