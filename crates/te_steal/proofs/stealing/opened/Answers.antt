use Rattle.std.proofs.Common.{[], ◌∷◌, length, get_or, ap, ◌∙◌, arith, length-append}
use Rattle.te_steal.proofs.SameParties.{thief_of_same}
use Rattle.te_steal.proofs.WholeLooks.{one_more_pushed}
use Rattle.te_steal.proofs.stealing.opened.Goals as goal

pub places-preserved : goal.places-preserved
places-preserved c =
    let is = c.places.invariant in
    let told = c.push.ensures in
    let more = ap length told.pushed ∙ length-append c.places.owner.pushed (c.places.place ∷ []) in (
      told.same.most ∙ is.0,
      omega (arith, more, is.1),
      one_more_pushed c.places.owner.pushed c.push.new.self.pushed c.places.place told.pushed is.2,
      told.took ∙ is.3,
      told.same.thieves ∙ is.4,
      λ k d low. let thief = is.5 k d low in (thief_of_same c.places.owner c.push.new.self (get_or c.in_ok-owner.gang k d) told.same thief.0, thief.1),
    )
