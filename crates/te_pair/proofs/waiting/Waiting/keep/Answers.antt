use Rattle.std.proofs.Common.{◌∙◌, ap, sym, subst, ◌++◌, ◌∷◌, []}
use Rattle.te_pair.specs.Ends.{PathIsKept}
use Rattle.te_pair.specs.Places.{IsPlaced}
use Rattle.te_pair.proofs.PlacesKeep.{placed_more}
use Rattle.te_pair.proofs.waiting.Waiting.keep.Goals as goal

pub invariant_of-self-2 : goal.invariant_of-self-2
invariant_of-self-2 c = subst (λ kept. IsPlaced kept c.add.new.self)
    (sym (c.push_reserved.ensures.items ∙ ap (λ kept. kept ++ c.args.end ∷ []) c.reserve.ensures.items))
    (placed_more c.self.inside.kept.items c.self.inside.places c.add.new.self c.args.end c.self.invariant
    (subst (λ kept. ¬ PathIsKept kept c.args.end.path) (sym c.self.view_is) c.requires) c.in_ok-add.ensures.ok)
