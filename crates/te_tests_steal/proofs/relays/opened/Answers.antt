use Rattle.std.proofs.Common.{[], ◌∷◌, length, get_or, ap, ◌∙◌, arith, length-append}
use Rattle.te_steal.proofs.SameParties.{thief_of_same}
use Rattle.te_tests_steal.proofs.relays.opened.Goals as goal

pub numbers-preserved : goal.numbers-preserved
numbers-preserved c =
    let is = c.numbers.invariant in
    let told = c.push.ensures in
    let more = ap length told.pushed ∙ length-append c.numbers.owner.pushed (c.numbers.n ∷ []) in (
      told.same.most ∙ is.0,
      omega (arith, more, is.1),
      told.same.thieves ∙ is.2,
      is.3,
      λ k d low. thief_of_same c.numbers.owner c.push.new.self (get_or c.in_ok-owner.gang k d) told.same (is.4 k d low),
    )
