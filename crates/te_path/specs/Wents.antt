-- What one step of a walk leaves. No public clause cites this module.
use Rattle.std.specs.Prelude.{◌≡◌, ℕ, ◌<◌, ◌≤◌}
use Rattle.te_terms.specs.Steps.{Member}
use Rattle.te_path.specs.declared.cells.Cells.{Cells}
use Rattle.te_path.specs.declared.place.Place.{Place}
use Rattle.te_path.specs.declared.place.Went.{Went}
use Rattle.te_path.specs.declared.place.Went.TheVariants as wents
use Rattle.te_path.specs.declared.spot.Spot.{Spot}
use Rattle.te_path.specs.Origins.{Origin}
use Rattle.te_path.specs.Places.{placed, IsPlace, nodes_left, Alike}
use Rattle.te_path.specs.Spots.{spelled, IsSpot}

-- to another place with fewer than so many nodes left, or to this spot, of a member that settles alike
abbrev pub GoesOn : Origin → Member → ℕ → Cells → Spot → Went → Type 0
GoesOn o m most cells s (wents.To p) = IsPlace o cells p × Alike m (placed o cells p) × (nodes_left o.code cells p < most)
GoesOn o m most cells s wents.At = IsSpot o cells s × Alike m (spelled o cells s)

-- a spot is written at the end alone
abbrev pub Keeps : Spot → Spot → Went → Type 0
Keeps old new (wents.To p) = new ≡ old
Keeps old new wents.At = Unit {0}

-- to a place with no more than so many nodes left, of a member that settles alike
pub record ComesOn (o : Origin) (m : Member) (most : ℕ) (cells : Cells) (p : Place) : Type 0 where
  pub place : IsPlace o cells p
  pub alike : Alike m (placed o cells p)
  pub left : nodes_left o.code cells p ≤ most
