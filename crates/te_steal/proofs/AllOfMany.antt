-- What holds of each in a list that is taken apart from its end.
use Rattle.std.proofs.Common.{◌≡◌, ◌<◌, ℕ, List, [], ◌∷◌, ◌++◌, length, get_or, All, refl, subst, arith, length-append}
use Rattle.std.proofs.lemmas.List.Elements.{All-contains, Contains-append_right}
use Rattle.std.proofs.Math.ListN.{get_or-append}
use Rattle.te_steal.specs.declared.robbing.Robber.{Robber}
use Rattle.te_steal.specs.Relays.{OwnerOf, IsThiefOf, IsSameThief}
use Rattle.te_steal.proofs.SameParties.{thief_of_owner}

pub of_last : {X : Type 0} (P : X → Type 0) (all rest : List X) (x : X) → All P all → all ≡ rest ++ x ∷ [] → P x
of_last P all rest x each popped =
    All-contains P (rest ++ x ∷ []) x (subst (λ l. All P l) popped each) (Contains-append_right rest (x ∷ []) x (0, omega arith, refl))

pub of_rest : {X : Type 0} (P : X → Type 0) (all rest : List X) (x : X) → All P all → all ≡ rest ++ x ∷ [] → All P rest
of_rest P all rest x each popped k d low =
    subst P (get_or-append rest (x ∷ []) d k low)
    (subst (λ l. All P l) popped each k d (omega (arith, low, length-append rest (x ∷ []))))

-- robbers that are of the same relay as before are thieves of its owner
pub still_thieves : (owner : OwnerOf) (old new : List Robber) → length new ≡ length old
    → ((k : ℕ) (d : Robber) → k < length old → IsSameThief (get_or old k d).thief (get_or new k d).thief)
    → All (λ r. IsThiefOf owner r.thief) old → All (λ r. IsThiefOf owner r.thief) new
still_thieves owner old new same each are k d low =
    let within : k < length old = omega (arith, low, same) in
    thief_of_owner owner (get_or old k d).thief (get_or new k d).thief (are k d within) (each k d within)
