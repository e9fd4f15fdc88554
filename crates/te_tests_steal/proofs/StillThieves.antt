-- Thieves that are of the same relay as before are thieves of its owner.
use Rattle.std.proofs.Common.{◌≡◌, ◌<◌, ℕ, List, length, get_or, All, arith}
use Rattle.te_steal.specs.Relays.{OwnerOf, ThiefOf, IsThiefOf, IsSameOwner, IsSameThief}
use Rattle.te_steal.proofs.SameParties.{thief_of_owner, thief_of_same}

pub still_thieves : (o p : OwnerOf) (old new : List ThiefOf) → IsSameOwner o p → length new ≡ length old
    → ((k : ℕ) (d : ThiefOf) → k < length old → IsSameThief (get_or old k d) (get_or new k d))
    → All (IsThiefOf o) old → All (IsThiefOf p) new
still_thieves o p old new of same each are k d low =
    let within : k < length old = omega (arith, low, same) in
    thief_of_same o p (get_or new k d) of (thief_of_owner o (get_or old k d) (get_or new k d) (are k d within) (each k d within))
