use Rattle.std.proofs.Common.{◌≡◌, length, All}
use Rattle.te_steal.specs.Relays.{IsThiefOf}
use Rattle.te_tests_steal.proofs.relays.opened.Given as goal

abbrev pub invariant-numbers : goal.invariant-numbers
invariant-numbers l = (l.owner.most ≡ 64) × (length l.owner.pushed ≡ l.n) × (l.owner.thieves ≡ 7) × (length l.gang ≡ 7) × All (IsThiefOf l.owner) l.gang
