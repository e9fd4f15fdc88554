-- Places in a text, and the faults of a text with their places. It is this project's own.
use Rattle.std.specs.Prelude.{◌≡◌, ℕ, suc, ◌+◌, ◌-◌, ◌<◌, ◌≤◌, ◌==◌, ◌⊎◌, List, [], ◌∷◌, length, take, if◌then◌else◌}
use Rattle.te_reader.specs.declared.place.Place.{Place}
use Rattle.te_reader.specs.declared.cause.Which.TheVariants as limits
use Rattle.te_reader.specs.declared.cause.Cause.{Cause}
use Rattle.te_reader.specs.declared.cause.Cause.TheVariants as causes
use Rattle.te_reader.specs.declared.fault.ScriptFault.{ScriptFault}
use Rattle.te_reader.specs.declared.fault.ScriptFault.TheVariants as faults
use Rattle.te_reader.specs.Spots.{Spot, AreSpots}
use Rattle.te_reader.specs.Faults.{IsFault}

-- how many line feeds there are
abbrev pub feeds : List ℕ → ℕ
feeds [] = 0
feeds (b ∷ bs) = (if b == 10 then 1 else 0) + feeds bs

-- how many bytes stand behind the last line feed; where there is none, all of these and so many before them
abbrev pub since_feed : ℕ → List ℕ → ℕ
since_feed so_far [] = so_far
since_feed so_far (b ∷ bs) = since_feed (if b == 10 then 0 else suc so_far) bs

-- the place behind these bytes
abbrev pub place_behind : List ℕ → Place
place_behind before = record { line = suc (feeds before); column = suc (since_feed 0 before) }

-- the place at which so many bytes are left
abbrev pub place_in : List ℕ → ℕ → Place
place_in bytes left = place_behind (take (length bytes - left) bytes)

abbrev pub fault_from : Cause → Place → ScriptFault
fault_from causes.Bytes p = faults.Bytes p
fault_from causes.Token p = faults.Token p
fault_from causes.Syntax p = faults.Syntax p
fault_from causes.Integer p = faults.Integer p
fault_from causes.Unbound p = faults.Unbound p
fault_from causes.Twice p = faults.Twice p
fault_from causes.Shadow p = faults.Shadow p
fault_from causes.NoThread p = faults.NoThread p
fault_from (causes.Limit w) p = faults.Limit w p

-- too many bytes come before all else; else it is the first fault of the tokens
abbrev pub StandsIn : List ℕ → Cause → ℕ → Type 0
StandsIn bytes cause left =
    ((1048576 < length bytes) × (cause ≡ causes.Limit limits.Bytes) × (left ≡ length bytes))
    ⊎ ((length bytes ≤ 1048576) × (ss : List Spot) × AreSpots ss bytes × IsFault ss cause left)

-- the text has this fault
pub record HasFault (bytes : List ℕ) (fault : ScriptFault) : Type 0 where
  pub cause : Cause
  pub left : ℕ
  pub stands : StandsIn bytes cause left
  pub told : fault ≡ fault_from cause (place_in bytes left)
