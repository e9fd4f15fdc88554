use Rattle.std.proofs.Common.{◌≡◌, ◌+◌, [], true, None, length, All}
use Rattle.te_steal.specs.Relays.{OwnerOf, IsThiefOf}
use Rattle.te_steal.proofs.stealing.robbers_of.Given as goal

abbrev pub invariant-thieves : goal.invariant-thieves
invariant-thieves l = record {
  count : length l.robbers.items + length l.rest.items ≡ length l.fn.thieves;
  idle : All (λ t. t.took ≡ []) l.rest.items;
  of_relay : (owner : OwnerOf) → All (IsThiefOf owner) l.fn.thieves → All (IsThiefOf owner) l.rest.items × All (λ r. IsThiefOf owner r.thief) l.robbers.items;
  ready : All (λ r. (length r.looks.items ≡ l.fn.count) × All (λ look. look ≡ None) r.looks.items × (r.thief.took ≡ []) × (r.whole ≡ true)) l.robbers.items;
}

abbrev pub decreases-thieves : goal.decreases-thieves
decreases-thieves l = length l.rest.items
