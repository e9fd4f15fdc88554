use Rattle.std.proofs.Common.{◌≡◌, ◌+◌, ℕ, List, ◌++◌, length, map, All}
use Rattle.std.specs.List.{concat}
use Rattle.te_search.specs.Batches.{Batches}
use Rattle.te_steal.specs.Relays.{OwnerOf, IsThiefOf, took_by}
use Rattle.te_steal.specs.Stolen.{AreLooksAt, IsRobber}
use Rattle.te_steal.proofs.gathering.disarmed.Given as goal

abbrev pub invariant-robbers : goal.invariant-robbers
invariant-robbers l = record {
  width : length l.looks ≡ length l.fn.looks;
  wide : All (λ r. length r.looks.items ≡ length l.fn.looks) l.rest.items;
  count : length l.thieves + length l.rest.items ≡ length l.fn.robbers.items;
  left_of_relay : (owner : OwnerOf) → All (λ r. IsThiefOf owner r.thief) l.fn.robbers.items → All (λ r. IsThiefOf owner r.thief) l.rest.items;
  of_relay : (owner : OwnerOf) → All (λ r. IsThiefOf owner r.thief) l.fn.robbers.items → All (IsThiefOf owner) l.thieves;
  left : (s : Batches) (batch : List ℕ) → All (IsRobber s batch) l.fn.robbers.items → All (IsRobber s batch) l.rest.items;
  looks : (s : Batches) (batch took : List ℕ) → AreLooksAt s batch took l.fn.looks l.fn.whole → All (IsRobber s batch) l.fn.robbers.items
      → AreLooksAt s batch (took ++ concat (map took_by l.thieves)) l.looks l.whole;
}

abbrev pub decreases-robbers : goal.decreases-robbers
decreases-robbers l = length l.rest.items
