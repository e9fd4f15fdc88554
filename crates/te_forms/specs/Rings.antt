-- Rings of channels, and the order of the roles in them. This project's own.
use Rattle.std.specs.Prelude.{◌≡◌, ℕ, zero, suc, ◌+◌, ◌-◌, ◌%◌, ◌<◌, ◌≤◌, List, length, Some, slice_get}

abbrev pub most_roles : ℕ
most_roles = 64

-- the channels that programs name; those that events make have greater numbers
abbrev pub named_channels : ℕ
named_channels = 256

-- the channel stands at a place of the list
abbrev pub IsOnRing : List ℕ → ℕ → Type 0
IsOnRing ring c = (i : ℕ) × (slice_get ring i ≡ Some c)

-- 2 to 64 different channels, each below 256
pub record IsRing (ring : List ℕ) : Type 0 where
  pub some : 2 ≤ length ring
  pub few : length ring ≤ most_roles
  pub low : (i c : ℕ) → slice_get ring i ≡ Some c → c < named_channels
  pub different : (i j c : ℕ) → slice_get ring i ≡ Some c → slice_get ring j ≡ Some c → i ≡ j

-- among so many roles, the one before a role: before role 0 stands the last
abbrev pub role_before : ℕ → ℕ → ℕ
role_before roles zero = roles - 1
role_before roles (suc i) = i

-- and the one after it: after the last stands role 0
abbrev pub role_after : ℕ → ℕ → ℕ
role_after roles role = (role + 1) % roles
