use Rattle.std.proofs.Common.{◌≡◌, [], ◌∷◌, ◌++◌, Some, sym, ap, ◌∙◌, subst}
use Rattle.atomic_table.specs.Table.{opening}
use Rattle.te_lock.specs.Rule.{IsKept, maker_of}
use Rattle.te_lock.proofs.Making.{opens}
use Rattle.te_lock.proofs.turn.Turn.new.Goals as goal

pub new-requires : goal.new-requires
new-requires g c =
    let slots : c.push.new.self.items ≡ Some c.args.value ∷ [] = c.in_ok-push.ensures.items ∙ ap (λ items. items ++ Some c.args.value ∷ []) c.new-slots.ensures.items in
    let law = subst (λ n. g.V.Kept.lawful n (g.V.Kept.entries c.args.value)) c.requires.number c.length.ensures.lawful in
    subst
    (λ slots. IsKept g.V.Kept.entries g.V.Kept.members g.V.Kept.author g.V.Kept.lawful c.args.callers (opening (0 ∷ []) slots (maker_of 0 c.args.callers)))
    (sym slots)
    (opens _ _ _ _ c.args.callers c.args.value c.requires.empty c.requires.number (subst (g.V.Kept.lawful c.args.callers) c.requires.empty law))
