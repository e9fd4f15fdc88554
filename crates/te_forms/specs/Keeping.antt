-- What a ring keeps: its channels are the first of its places. No public clause cites this module.
use Rattle.std.specs.Prelude.{◌≡◌, ℕ, List, length, take}
use Rattle.te_forms.specs.Rings.{IsRing}

pub record PlacesAreKept (len : ℕ) (places : List ℕ) : Type 0 where
  pub as_long : length (take len places) ≡ len
  pub ring : IsRing (take len places)
