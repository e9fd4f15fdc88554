-- Where a history declares the board stuck. This project's own.
use Rattle.std.specs.Prelude.{◌≡◌, ℕ, List, ◌∷◌, ◌++◌, length, Option, Some, None}
use Rattle.te_terms.specs.declared.event.Parked.{Parked}
use Rattle.te_history.specs.declared.entry.Entry.{Entry}
use Rattle.te_history.specs.declared.entry.Entry.TheVariants as entries
use Rattle.te_history.specs.State.{state, parked_list}
use Rattle.te_report.specs.declared.reading.Declaration.{Declaration}

-- behind so many entries a caller declares the board stuck, on which these are parked
pub record IsDeclared (callers : ℕ) (history : List Entry) (before : ℕ) (parked : List Parked) : Type 0 where
  pub earlier : List Entry
  pub by : ℕ
  pub later : List Entry
  pub whole : history ≡ earlier ++ entries.Stuck by ∷ later
  pub count : before ≡ length earlier
  pub are_parked : parked ≡ parked_list (state callers earlier)

-- the declaration of the history, where it has one
abbrev pub DeclaredIn : ℕ → List Entry → Option Declaration → Type 0
DeclaredIn callers history (Some d) = IsDeclared callers history d.before d.parked
DeclaredIn callers history None = (before : ℕ) (parked : List Parked) → ¬ IsDeclared callers history before parked
