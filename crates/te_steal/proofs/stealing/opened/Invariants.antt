use Rattle.std.proofs.Common.{◌≡◌, ◌<◌, ℕ, [], length, All}
use Rattle.te_steal.specs.Relays.{IsThiefOf, occurrences}
use Rattle.te_steal.proofs.stealing.opened.Given as goal

abbrev pub invariant-places : goal.invariant-places
invariant-places l = (l.owner.most ≡ l.count) × (length l.owner.pushed ≡ l.place) × ((k : ℕ) → k < l.place → 0 < occurrences k l.owner.pushed)
    × (l.owner.took ≡ []) × (l.owner.thieves ≡ l.thieves) × All (λ t. IsThiefOf l.owner t × (t.took ≡ [])) l.gang
