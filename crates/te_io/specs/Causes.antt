-- What a count of faults says of a call.
use Rattle.std.specs.Prelude.{◌≡◌, ◌⊎◌, ◌<◌, ◌+◌, ◌-◌, ◌^◌, ℕ, min}

-- one more, but a count at 2 ^ 64 - 1 stays there
abbrev pub counted_more : ℕ → ℕ
counted_more count = min (count + 1) (2 ^ 64 - 1)

-- the count rose in this call, or it stands at its end, where it can't rise
abbrev pub Rose : ℕ → ℕ → Type 0
Rose before after = (before < after) ⊎ (before ≡ 2 ^ 64 - 1)
