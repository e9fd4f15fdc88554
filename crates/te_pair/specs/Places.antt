-- How kept paths are found. No public clause cites this module.
use Rattle.std.specs.Prelude.{◌≡◌, ℕ, ◌-◌, List, [], ◌∷◌, ◌++◌, take, length, Bool, true, false, cond, nat_eq, Option, Some, None}
use Rattle.std.proofs.Common.{Vec, Global}
use Rattle.std.specs.List.{IsDistinct}
use Rattle.std.specs.HashMap.{HashMap, get}
use Rattle.te_pair.specs.declared.end.End.{End}
use Rattle.te_pair.specs.declared.places.Places.{Places}
use Rattle.te_pair.specs.Ends.{paths_kept, is_at, paths_at}

abbrev pub items_or_none : Option (Vec ℕ Global) → List ℕ
items_or_none None = []
items_or_none (Some v) = v.items

-- the numbers at a channel
abbrev pub numbers_in : {S : Type 0} → HashMap ℕ (Vec ℕ Global) S → ℕ → List ℕ
numbers_in paths channel = items_or_none (get nat_eq paths channel)

abbrev pub numbers : Places → ℕ → Bool → List ℕ
numbers places channel true = numbers_in places.sends channel
numbers places channel false = numbers_in places.receives channel

abbrev pub without_last : List ℕ → List ℕ
without_last ns = take (length ns - 1) ns

-- the path of the end stands behind the others of its place
abbrev pub Adds : Places → Places → End → Type 0
Adds old new e = (channel : ℕ) (sends : Bool) → numbers new channel sends ≡ cond (is_at channel sends e) (numbers old channel sends ++ e.path ∷ []) (numbers old channel sends)

abbrev pub Stays : Places → Places → Type 0
Stays old new = (channel : ℕ) (sends : Bool) → numbers new channel sends ≡ numbers old channel sends

-- the last of the end's place is gone
abbrev pub Drops : Places → Places → End → Type 0
Drops old new e = (channel : ℕ) (sends : Bool) → numbers new channel sends ≡ cond (is_at channel sends e) (without_last (numbers old channel sends)) (numbers old channel sends)

-- the numbers of each place are those of the kept paths there, and no path is kept twice
pub record IsPlaced (kept : List End) (places : Places) : Type 0 where
  pub each : (channel : ℕ) (sends : Bool) → numbers places channel sends ≡ paths_at channel sends kept
  pub once : IsDistinct nat_eq (paths_kept kept)
