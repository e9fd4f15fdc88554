-- Whole histories. This project's own.
use Rattle.std.specs.Prelude.{◌≡◌, ℕ, List}
use Rattle.std.specs.List.{AllByRecursion}
use Rattle.te_history.specs.declared.entry.Entry.{Entry}
use Rattle.te_history.specs.State.{ended, state}

-- every caller has ended
abbrev pub IsWhole : ℕ → List Entry → Type 0
IsWhole callers history = AllByRecursion (λ c. c ≡ ended) (state callers history).callers
