-- Who stays of one relay over several steps.
use Rattle.std.proofs.Common.{◌∙◌, refl, sym}
use Rattle.te_steal.specs.Relays.{OwnerOf, ThiefOf, IsThiefOf, IsSameOwner, IsSameThief}

pub same_owner : (o : OwnerOf) → IsSameOwner o o
same_owner o = record { relay = refl; heap = refl; most = refl; thieves = refl }

pub owner_on : (a b c : OwnerOf) → IsSameOwner a b → IsSameOwner b c → IsSameOwner a c
owner_on a b c first next = record {
  relay = next.relay ∙ first.relay;
  heap = next.heap ∙ first.heap;
  most = next.most ∙ first.most;
  thieves = next.thieves ∙ first.thieves;
}

pub thief_on : (a b c : ThiefOf) → IsSameThief a b → IsSameThief b c → IsSameThief a c
thief_on a b c first next = record { relay = next.relay ∙ first.relay; heap = next.heap ∙ first.heap }

pub thief_of_owner : (o : OwnerOf) (t u : ThiefOf) → IsThiefOf o t → IsSameThief t u → IsThiefOf o u
thief_of_owner o t u is same = (same.relay ∙ is.0, same.heap ∙ is.1)

pub thief_of_same : (o p : OwnerOf) (t : ThiefOf) → IsSameOwner o p → IsThiefOf o t → IsThiefOf p t
thief_of_same o p t same is = (is.0 ∙ sym same.relay, is.1 ∙ sym same.heap)
