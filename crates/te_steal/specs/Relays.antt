-- What is seen of a relay, in which an owner pushes numbers, and the owner and its thieves take them, first in, first out. This is the project's own.
use Rattle.std.specs.Prelude.{◌≡◌, ◌⊎◌, ◌≤◌, ℕ, ◌+◌, ◌==◌, Bool, true, false, List, [], ◌∷◌}
use Rattle.std.specs.Global.{Global}

abbrev pub one_where : Bool → ℕ
one_where true = 1
one_where false = 0

-- how often a number occurs in a list
abbrev pub occurrences : ℕ → List ℕ → ℕ
occurrences n [] = 0
occurrences n (m ∷ ms) = one_where (n == m) + occurrences n ms

-- the first list is the second without some of its numbers, in its order
abbrev pub IsInOrderOf : List ℕ → List ℕ → Type 0
IsInOrderOf [] all = Unit {0}
IsInOrderOf (n ∷ ns) [] = ⊥
IsInOrderOf (n ∷ ns) (m ∷ all) = ((n ≡ m) × IsInOrderOf ns all) ⊎ IsInOrderOf (n ∷ ns) all

-- an owner: which relay it is of, how many numbers it may push and how many thieves it has, and what it has pushed and taken
pub record OwnerOf : Type 0 where
  pub relay : ℕ × ℕ
  pub heap : Global
  pub most : ℕ
  pub thieves : ℕ
  pub pushed : List ℕ
  pub took : List ℕ

-- a thief: which relay it is of, and what it has taken
pub record ThiefOf : Type 0 where
  pub relay : ℕ × ℕ
  pub heap : Global
  pub took : List ℕ

abbrev pub took_by : ThiefOf → List ℕ
took_by thief = thief.took

-- the thief is one of the owner's relay
abbrev pub IsThiefOf : OwnerOf → ThiefOf → Type 0
IsThiefOf owner thief = (thief.relay ≡ owner.relay) × (thief.heap ≡ owner.heap)

-- the owner is of the same relay as before
pub record IsSameOwner (old new : OwnerOf) : Type 0 where
  pub relay : new.relay ≡ old.relay
  pub heap : new.heap ≡ old.heap
  pub most : new.most ≡ old.most
  pub thieves : new.thieves ≡ old.thieves

-- the thief is of the same relay as before
pub record IsSameThief (old new : ThiefOf) : Type 0 where
  pub relay : new.relay ≡ old.relay
  pub heap : new.heap ≡ old.heap

-- how many numbers a relay takes, and how many thieves it has
abbrev pub IsSize : ℕ → ℕ → Type 0
IsSize most thieves = (1 ≤ most) × (most ≤ 64) × (1 ≤ thieves) × (thieves ≤ 7)
