use Rattle.std.proofs.Common.{◌*◌, sym, ap, ◌∙◌, subst, refl}
use Rattle.te_lock.specs.Entries.{GoesOnBy}
use Rattle.te_lock.specs.Rule.{Ready}
use Rattle.te_lock.proofs.turn.Turn.leave.Goals as goal

pub release-requires-clause-ready : goal.release-requires-clause-ready
release-requires-clause-ready g c =
    let is = c.pass.view_is in
    let number = c.requires.number ∙ sym (ap (λ k. k.lock.callers) is) in
    subst
    (λ me. Ready g.V.Kept.entries g.V.Kept.members g.V.Kept.author g.V.Kept.lawful me (2 * c.length-word.result))
    (sym c.put_back.ensures.filled.1)
    record {
      value = c.args.value;
      caller = c.pass.inside.caller;
      role = c.pass.invariant.role;
      alone = c.pass.invariant.alone;
      slot = refl;
      number = number;
      law = subst (λ n. g.V.Kept.lawful n (g.V.Kept.entries c.args.value)) number c.length-word.ensures.lawful;
      goes = subst (λ k. GoesOnBy g.V.Kept.author k.caller k.read (g.V.Kept.entries c.args.value)) (sym is) c.requires.goes_on;
      twice = ap (λ n. 2 * n) c.length-word.ensures.counted;
    }
