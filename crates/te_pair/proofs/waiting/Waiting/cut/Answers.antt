use Rattle.std.proofs.Common.{◌≡◌, ◌∙◌, ap, sym, subst, arith, length, ◌++◌, ◌∷◌, [], ◌≤◌, length-append, rules}
use Rattle.te_pair.specs.Places.{IsPlaced}
use Rattle.te_pair.proofs.Among.{take_less}
use Rattle.te_pair.proofs.PlacesKeep.{placed_less}
use Rattle.te_pair.proofs.waiting.Waiting.cut.Goals as goal

pub back-preserved-in-Some : goal.back-preserved-in-Some
back-preserved-in-Some c =
    let split : c.back.self-inside.kept.items ≡ c.pop.new.self.items ++ c.in-Some.end ∷ [] = c.in-Some.ensures.items in
    let count : c.len.result ≡ length c.back.self-inside.kept.items = search rules in
    let room : c.args.mark ≤ length c.pop.new.self.items = omega (arith, ap length split, length-append c.pop.new.self.items (c.in-Some.end ∷ []), count, c.back-test.true) in (
      placed_less c.pop.new.self.items c.back.self-inside.places c.drop_last.new.self c.in-Some.end
          (subst (λ kept. IsPlaced kept c.back.self-inside.places) split c.back.invariant.0) c.drop_last.ensures,
      sym (take_less c.back.self-inside.kept.items c.pop.new.self.items c.in-Some.end c.args.mark split room) ∙ c.back.invariant.1,
    )
